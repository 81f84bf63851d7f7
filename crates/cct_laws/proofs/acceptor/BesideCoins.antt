-- What holds of a device that takes money beside the coins that its lines show, and what moves keep
-- it. A bill is a coin once it is stacked; one that is held is none.
use Rattle.std.proofs.Common.{◌≡◌, ◌≢◌, ℕ, suc, ◌+◌, ◌≤◌, ◌⊎◌, inl, inr, true, false, List, [], ◌∷◌, ◌++◌, length, refl, ap, sym, ◌∙◌, subst, arith, ne_eqb}
use Rattle.std.specs.Prelude.{◌%◌, ◌^◌, Option, Some, None, ⊤}
use Rattle.std.proofs.Math.Bool.{and-false}
use Rattle.std.proofs.lemmas.Bool.Decides.{nat_tests}
use Rattle.cct_model.specs.terms.coin.Pair.{Pair}
use Rattle.cct_model.specs.terms.coin.Coin.{Coin}
use Rattle.cct_model.specs.Setting.{Setting, master_set, path_set, default_set, has_place, mask_in, accepts_in}
use Rattle.cct_model.specs.Reading.{coins_among}
use Rattle.cct_model.specs.terms.device.DeviceBody.{DeviceBody}
use Rattle.cct_model.specs.terms.device.DeviceBody.TheVariants.{Acceptor, Bill, Hopper}
use Rattle.cct_model.specs.terms.device.DeviceSetup.{DeviceSetup}
use Rattle.cct_model.specs.Acceptor.{counter, settings, settings_after}
use Rattle.cct_model.specs.terms.request.Request.{Request}
use Rattle.cct_model.specs.terms.request.Request.TheVariants.{RouteBill}
use Rattle.cct_model.specs.History.{Met, heard, unless_reset}
use Rattle.cct_model.specs.Line.{Line}
use Rattle.cct_model.specs.Claims.{coins}
use Rattle.cct_laws.specs.Takers.{events_of, accepted_of, held_of}
use Rattle.cct_laws.proofs.wire.Replies.{start_of}

-- a device's events and settings, the number at which its accept counter started and that of the
-- coins that it ever accepted, and the bill that it holds, beside the coins that the lines of its
-- address show
pub record World : Type 0 where
  pub events : List Pair
  pub settings : List Setting
  pub coins : List Coin
  pub start : ℕ
  pub accepted : ℕ
  pub held : Option ℕ

abbrev pub world_of : DeviceBody → List Met → List Line → World
world_of body past lines = record {
  events = events_of body past;
  settings = settings past;
  coins = coins lines;
  start = start_of body;
  accepted = accepted_of body past;
  held = held_of body past;
}

abbrev pub world : DeviceSetup → List Met → List Line → World
world d past lines = world_of d.body past lines

-- the accept counter after so many coins
abbrev pub count_from : ℕ → ℕ → ℕ
count_from start coins = (start + coins) % 2 ^ 24

abbrev pub count_at : World → ℕ
count_at w = count_from w.start (length w.coins)

abbrev pub mask_at : World → ℕ
mask_at w = mask_in w.settings

-- no coin is accepted
abbrev pub Shut : World → Type 0
Shut w = (place : ℕ) → accepts_in w.settings place ≡ false

-- no place is open, no coin is among the events, and no bill is held
pub record Silent (w : World) : Type 0 where
  pub masked : mask_at w ≡ 0
  pub none : coins_among w.events ≡ []
  pub empty : w.held ≡ None

-- the lines show as many coins as were accepted, and a bill that is held has a place
abbrev pub Tells : World → Type 0
Tells w = (w.accepted ≡ length w.coins) × ((place : ℕ) → w.held ≡ Some place → 1 ≤ place)

-- a moment has this event counter and this many coins
pub record After (w : World) (k m : ℕ) : Type 0 where
  pub new : List Pair
  pub old : List Pair
  pub before : List Coin
  pub split : w.events ≡ new ++ old
  pub coins_are : w.coins ≡ coins_among new ++ before
  pub counted : counter (length old) ≡ k
  pub marked : length before ≡ m

-- the mask is that of an epoch, or the acceptor was reset and is silent
abbrev pub IsLive : World → ℕ → Type 0
IsLive w mask = (mask_at w ≡ mask) ⊎ Silent w

-- while the mask is that of an epoch, the acceptor is after a moment
pub record Tracks (w : World) (mask k m : ℕ) : Type 0 where
  pub nonzero : mask ≢ 0
  pub after : mask_at w ≡ mask → After w k m

-- what a move of the device keeps while its epoch runs
pub record Goes (w v : World) : Type 0 where
  pub live : (mask : ℕ) → IsLive w mask → IsLive v mask
  pub masked : (mask : ℕ) → mask ≢ 0 → mask_at v ≡ mask → mask_at w ≡ mask
  pub after : (mask k m : ℕ) → mask ≢ 0 → mask_at v ≡ mask → After w k m → After v k m
  pub longer : length w.coins ≤ length v.coins
  pub starts : v.start ≡ w.start
  pub told : Tells w → Tells v

-- and what it keeps at any time, where it is no bill that is stacked
pub record On (w v : World) : Type 0 where
  pub goes : Goes w v
  pub shut : Shut w → Shut v
  pub same : Shut w → v.coins ≡ w.coins
  pub silent : Silent w → Silent v

-- it stays after the moment
pub tracks_on : (w v : World) (mask k m : ℕ) → Goes w v → Tracks w mask k m → Tracks v mask k m
tracks_on w v mask k m goes tracks = record {
  nonzero = tracks.nonzero;
  after = λ is_mask. goes.after mask k m tracks.nonzero is_mask (tracks.after (goes.masked mask tracks.nonzero is_mask));
}

-- a mask of 0 has no place

pub no_place : (place : ℕ) → has_place 0 place ≡ false
unfolding has_place
no_place place = grind (arith, nat_tests)

pub closed : (w : World) → mask_at w ≡ 0 → Shut w
closed w zero_mask place = rw (zero_mask, no_place place) refl

-- an object came

came_more : (w : World) (pair : Pair) (coins : List Coin) (accepted k m : ℕ) (held : Option ℕ) →
    ((new : List Pair) (before : List Coin) → w.coins ≡ coins_among new ++ before → coins ≡ coins_among (pair ∷ new) ++ before) →
    After w k m →
    After (record { events = pair ∷ w.events; settings = w.settings; coins = coins; start = w.start; accepted = accepted; held = held }) k m
came_more w pair coins accepted k m held grows after = record {
  new = pair ∷ after.new;
  old = after.old;
  before = after.before;
  split = ap (λ es. pair ∷ es) after.split;
  coins_are = grows after.new after.before after.coins_are;
  counted = after.counted;
  marked = after.marked;
}

-- a coin or a bill that is accepted, where a silent device accepts none
abbrev pub with_coin : World → Coin → Option ℕ → World
with_coin w coin held = record {
  events = record { a = coin.place; b = coin.path } ∷ w.events;
  settings = w.settings;
  coins = coin ∷ w.coins;
  start = w.start;
  accepted = suc w.accepted;
  held = held;
}

pub goes_on_coin : (w : World) (coin : Coin) (held : Option ℕ) → 1 ≤ coin.place → (Silent w → ⊥) →
    ((place : ℕ) → held ≡ Some place → w.held ≡ Some place) → Goes w (with_coin w coin held)
goes_on_coin w coin held has_place loud was_held = record {
  live = λ mask live. elim live as (λ _. IsLive (with_coin w coin held) mask) [
    | inl is ↦ inl is
    | inr silent ↦ absurd (loud silent)
  ];
  masked = λ mask some is. is;
  after = λ mask k m some is after. came_more w (record { a = coin.place; b = coin.path }) (coin ∷ w.coins) (suc w.accepted) k m held
      (λ new before known. rw (ne_eqb coin.place 0 (omega (arith, has_place))) (ap (λ cs. coin ∷ cs) known)) after;
  longer = omega arith;
  starts = refl;
  told = λ told. (ap suc told.0, λ place is. told.1 place (was_held place is));
}

-- a coin falls in
pub on_coin : (w : World) (coin : Coin) → 1 ≤ coin.place → accepts_in w.settings coin.place ≡ true →
    On w (with_coin w coin w.held)
on_coin w coin has_place accepted = record {
  goes = goes_on_coin w coin w.held has_place (λ silent. clash (sym accepted ∙ closed w silent.masked coin.place))
      (λ place is. is);
  shut = λ shut. shut;
  same = λ shut. absurd (clash (sym accepted ∙ shut coin.place));
  silent = λ silent. absurd (clash (sym accepted ∙ closed w silent.masked coin.place));
}
  where
    clash : true ≡ false → ⊥
    clash e = cc

-- the bill that is held is stacked
pub goes_on_stacked : (w : World) (place : ℕ) → 1 ≤ place → w.held ≡ Some place →
    Goes w (with_coin w (record { place = place; path = 0 }) None)
goes_on_stacked w place has_place held =
    goes_on_coin w (record { place = place; path = 0 }) None has_place (λ silent. clash (sym silent.empty ∙ held))
    (λ other is. absurd (clash is))
  where
    clash : {place : ℕ} → None ≡ Some place → ⊥
    clash e = cc

-- any other object, beside the bill that is then held
abbrev pub with_piece : World → ℕ → Option ℕ → World
with_piece w error held = record {
  events = record { a = 0; b = error } ∷ w.events;
  settings = w.settings;
  coins = w.coins;
  start = w.start;
  accepted = w.accepted;
  held = held;
}

on_event : (w : World) (error : ℕ) (held : Option ℕ) → (Silent w → held ≡ None) →
    ((place : ℕ) → held ≡ Some place → (w.held ≡ Some place) ⊎ (1 ≤ place)) → On w (with_piece w error held)
on_event w error held empty placed =
    let stays_silent : Silent w → Silent (with_piece w error held) = λ silent.
    record { masked = silent.masked; none = silent.none; empty = empty silent } in
    record {
      goes = record {
        live = λ mask live. elim live as (λ _. IsLive (with_piece w error held) mask) [
          | inl is ↦ inl is
          | inr silent ↦ inr (stays_silent silent)
        ];
        masked = λ mask some is. is;
        after = λ mask k m some is after.
            came_more w (record { a = 0; b = error }) w.coins w.accepted k m held (λ new before known. known) after;
        longer = omega arith;
        starts = refl;
        told = λ told. (
          told.0,
          λ place is. elim (placed place is) [
            | inl was ↦ told.1 place was
            | inr low ↦ low
          ],
        );
      };
      shut = λ shut. shut;
      same = λ shut. refl;
      silent = stays_silent;
    }

pub on_piece : (w : World) (error : ℕ) → On w (with_piece w error w.held)
on_piece w error = on_event w error w.held (λ silent. silent.empty) (λ place is. inl is)

-- a bill that is then held
pub on_held : (w : World) (place : ℕ) → 1 ≤ place → accepts_in w.settings place ≡ true →
    On w (with_piece w 1 (Some place))
on_held w place has_place accepted =
    on_event w 1 (Some place) (λ silent. absurd (clash (sym accepted ∙ closed w silent.masked place)))
    (λ other is. inr (subst (λ p. 1 ≤ p) (same_place place other is) has_place))
  where
    clash : true ≡ false → ⊥
    clash e = cc

    same_place : (p q : ℕ) → Some p ≡ Some q → p ≡ q
    same_place p q e = cc

-- the bill that is held is given back
pub on_given_back : (w : World) → On w (with_piece w 1 None)
on_given_back w = on_event w 1 None (λ silent. refl) (λ place is. absurd (clash is))
  where
    clash : {place : ℕ} → None ≡ Some place → ⊥
    clash e = cc

-- a reset
abbrev pub fresh : World → World
fresh w = record { events = []; settings = []; coins = w.coins; start = w.start; accepted = w.accepted; held = None }

pub silent_fresh : (w : World) → Silent (fresh w)
silent_fresh w = record { masked = refl; none = refl; empty = refl }

pub on_reset : (w : World) → On w (fresh w)
on_reset w = record {
  goes = record {
    live = λ mask live. inr (silent_fresh w);
    masked = λ mask some is. absurd (some (sym is));
    after = λ mask k m some is after. absurd (some (sym is));
    longer = omega arith;
    starts = refl;
    told = λ told. (told.0, λ place is. absurd (clash is));
  };
  shut = λ shut. closed (fresh w) refl;
  same = λ shut. refl;
  silent = λ silent. silent_fresh w;
}
  where
    clash : {place : ℕ} → None ≡ Some place → ⊥
    clash e = cc

-- settings were made that accept no more coins, and leave the mask
abbrev pub with_settings : World → List Setting → World
with_settings w settings = record {
  events = w.events;
  settings = settings;
  coins = w.coins;
  start = w.start;
  accepted = w.accepted;
  held = w.held;
}

after_settings : (w : World) (settings : List Setting) (k m : ℕ) → After w k m → After (with_settings w settings) k m
after_settings w settings k m after = record {
  new = after.new;
  old = after.old;
  before = after.before;
  split = after.split;
  coins_are = after.coins_are;
  counted = after.counted;
  marked = after.marked;
}

pub on_settings : (w : World) (settings : List Setting) → mask_in settings ≡ mask_at w → (Shut w → Shut (with_settings w settings)) → On w (with_settings w settings)
on_settings w settings same_mask stays_shut =
    let stays_silent : Silent w → Silent (with_settings w settings) = λ silent.
    record { masked = same_mask ∙ silent.masked; none = silent.none; empty = silent.empty } in
    record {
      goes = record {
        live = λ mask live. elim live as (λ _. IsLive (with_settings w settings) mask) [
          | inl is ↦ inl (same_mask ∙ is)
          | inr silent ↦ inr (stays_silent silent)
        ];
        masked = λ mask some is. sym same_mask ∙ is;
        after = λ mask k m some is after. after_settings w settings k m after;
        longer = omega arith;
        starts = refl;
        told = λ told. told;
      };
      shut = stays_shut;
      same = λ shut. refl;
      silent = stays_silent;
    }

-- the master inhibit closes every place
pub shut_by_master : (w : World) → Shut (with_settings w (master_set 0 ∷ w.settings))
shut_by_master w place = and-false (has_place (mask_in w.settings) place)

pub on_master : (w : World) → On w (with_settings w (master_set 0 ∷ w.settings))
on_master w = on_settings w (master_set 0 ∷ w.settings) refl (λ shut. shut_by_master w)

pub on_path : (w : World) (place path : ℕ) → On w (with_settings w (path_set place path ∷ w.settings))
on_path w place path = on_settings w (path_set place path ∷ w.settings) refl (λ shut. shut)

pub on_default : (w : World) (path : ℕ) → On w (with_settings w (default_set path ∷ w.settings))
on_default w path = on_settings w (default_set path ∷ w.settings) refl (λ shut. shut)

pub on_nothing : (w : World) → On w w
on_nothing w = on_settings w w.settings refl (λ shut. shut)

-- bytes were heard that route no bill
abbrev pub IsUnrouted : Option Request → Type 0
IsUnrouted (Some (RouteBill way)) = ⊥
IsUnrouted asked = ⊤

abbrev pub after_heard : World → Option Request → World
after_heard w asked = record {
  events = unless_reset asked [] w.events;
  settings = settings_after asked w.settings;
  coins = w.coins;
  start = w.start;
  accepted = w.accepted;
  held = unless_reset asked None w.held;
}

pub world_heard : (body : DeviceBody) (past : List Met) (lines : List Line) (asked : Option Request) → IsUnrouted asked →
    world_of body (heard asked ∷ past) lines ≡ after_heard (world_of body past lines) asked
world_heard (Acceptor accepts values ids) past lines (Some (RouteBill way)) unrouted = absurd unrouted
world_heard (Acceptor accepts values ids) past lines asked unrouted = refl
world_heard (Hopper life value) past lines (Some (RouteBill way)) unrouted = absurd unrouted
world_heard (Hopper life value) past lines asked unrouted = refl
world_heard (Bill accepts values ids) past lines (Some (RouteBill way)) unrouted = absurd unrouted
world_heard (Bill accepts values ids) past lines asked unrouted = refl
