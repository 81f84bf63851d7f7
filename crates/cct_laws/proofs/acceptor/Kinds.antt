-- How each thing that comes to a coin acceptor, or to a bill acceptor, moves it.
use Rattle.std.proofs.Common.{◌≡◌, ◌⊎◌, inl, inr, ℕ, zero, suc, ◌≤◌, ◌==◌, ◌&&◌, cond, Bool, true, false, List, ◌∷◌, ◌++◌, map, refl, sym, subst, Option, Some, None, arith}
use Rattle.std.specs.Prelude.{is_none, is_some}
use Rattle.cct_model.specs.terms.coin.Pair.{Pair}
use Rattle.cct_model.specs.terms.device.DeviceBody.{DeviceBody}
use Rattle.cct_model.specs.terms.device.DeviceBody.TheVariants.{Acceptor, Bill, Hopper}
use Rattle.cct_model.specs.terms.request.Request.TheVariants.{RouteBill}
use Rattle.cct_model.specs.terms.request.TheConstants.{STACK_CODE}
use Rattle.cct_model.specs.Acceptor.{accepts, path_of}
use Rattle.cct_model.specs.Bill.{bill_events, bill_held, held_with, holds, is_way, routed}
use Rattle.cct_model.specs.Claims.{coins}
use Rattle.cct_model.specs.Device.{IsAcceptor, IsBill, IsTaker}
use Rattle.cct_model.specs.History.{Met, coin, alien, reset, heard}
use Rattle.cct_model.specs.Job.{settled}
use Rattle.cct_model.specs.Line as line
use Rattle.cct_model.specs.Line.{Line, accepted, inhibited}
use Rattle.cct_model.specs.Setting.{Setting, accepts_in}
use Rattle.cct_model.specs.Transcript.{doses, stacked_line}
use Rattle.cct_laws.proofs.acceptor.BesideCoins.{World, world_of, Tells, Goes, On, on_coin, on_piece, on_held, on_given_back, on_reset, on_nothing, goes_on_stacked}

-- a coin falls in, or another object

coin_as : (w : World) (place path : ℕ) (lets_in : Bool) → 1 ≤ place → accepts_in w.settings place ≡ lets_in →
    lets_in ≡ true →
    On w (record {
      events = cond lets_in (record { a = place; b = path }) (record { a = 0; b = 2 }) ∷ w.events;
      settings = w.settings;
      coins = record { place = place; path = path } ∷ w.coins;
      start = w.start;
      accepted = cond lets_in (suc w.accepted) w.accepted;
      held = w.held;
    })
coin_as w place path true has_place is lets = on_coin w (record { place = place; path = path }) has_place is
coin_as w place path false has_place is lets = absurd cc

pub on_accepted : (body : DeviceBody) (past : List Met) (lines : List Line) (place : ℕ) → IsAcceptor body → 1 ≤ place →
    accepts past place ≡ true →
    On (world_of body past lines)
    (world_of body (coin place ∷ past) (accepted (record { place = place; path = path_of past place }) ∷ lines))
on_accepted (Acceptor counted values ids) past lines place accepting has_place is =
    coin_as (world_of (Acceptor counted values ids) past lines) place (path_of past place) (accepts past place) has_place
    refl is
on_accepted (Hopper life value) past lines place accepting has_place is = absurd accepting
on_accepted (Bill counted values ids) past lines place accepting has_place is = absurd accepting

coin_not : (w : World) (place path : ℕ) (lets_in : Bool) → lets_in ≡ false →
    On w (record {
      events = cond lets_in (record { a = place; b = path }) (record { a = 0; b = 2 }) ∷ w.events;
      settings = w.settings;
      coins = w.coins;
      start = w.start;
      accepted = cond lets_in (suc w.accepted) w.accepted;
      held = w.held;
    })
coin_not w place path true lets = absurd cc
coin_not w place path false lets = on_piece w 2

pub on_inhibited : (body : DeviceBody) (past : List Met) (lines : List Line) (place : ℕ) → IsAcceptor body →
    accepts past place ≡ false →
    On (world_of body past lines) (world_of body (coin place ∷ past) (inhibited place ∷ lines))
on_inhibited (Acceptor counted values ids) past lines place accepting is =
    coin_not (world_of (Acceptor counted values ids) past lines) place (path_of past place) (accepts past place) is
on_inhibited (Hopper life value) past lines place accepting is = absurd accepting
on_inhibited (Bill counted values ids) past lines place accepting is = absurd accepting

pub on_alien : (body : DeviceBody) (past : List Met) (lines : List Line) → IsAcceptor body →
    On (world_of body past lines) (world_of body (alien ∷ past) (line.alien ∷ lines))
on_alien (Acceptor counted values ids) past lines accepting = on_piece (world_of (Acceptor counted values ids) past lines) 1
on_alien (Hopper life value) past lines accepting = absurd accepting
on_alien (Bill counted values ids) past lines accepting = absurd accepting

-- a bill is put in

abbrev bill_pair : ℕ → Bool → Pair
bill_pair place is_held = cond is_held (record { a = place; b = 1 }) (record { a = 0; b = 2 })

abbrev with_bill : World → ℕ → Bool → World
with_bill w place lets_in = record {
  events = settled (bill_pair place (lets_in && is_none w.held)) ∷ w.events;
  settings = w.settings;
  coins = w.coins;
  start = w.start;
  accepted = w.accepted;
  held = held_with place lets_in w.held;
}

abbrev with_escrow : World → Option ℕ → World
with_escrow w held = record {
  events = w.events;
  settings = w.settings;
  coins = w.coins;
  start = w.start;
  accepted = w.accepted;
  held = held;
}

bill_as : (w : World) (place : ℕ) (lets_in : Bool) (held : Option ℕ) → 1 ≤ place →
    accepts_in w.settings place ≡ lets_in → (lets_in && is_none held) ≡ true →
    On (with_escrow w held) (with_bill (with_escrow w held) place lets_in)
bill_as w place true None has_place is held = on_held (with_escrow w None) place has_place is
bill_as w place true (Some other) has_place is held = absurd cc
bill_as w place false held has_place is test = absurd cc

pub on_holding : (body : DeviceBody) (past : List Met) (lines : List Line) (place : ℕ) → IsBill body → 1 ≤ place →
    holds past place ≡ true → On (world_of body past lines) (world_of body (coin place ∷ past) lines)
on_holding (Acceptor counted values ids) past lines place billing has_place is = absurd billing
on_holding (Hopper life value) past lines place billing has_place is = absurd billing
on_holding (Bill counted values ids) past lines place billing has_place is =
    bill_as (world_of (Bill counted values ids) past lines) place (accepts past place) (bill_held past) has_place refl is

bill_not : (w : World) (place : ℕ) (lets_in : Bool) (held : Option ℕ) → (lets_in && is_none held) ≡ false →
    On (with_escrow w held) (with_bill (with_escrow w held) place lets_in)
bill_not w place true None test = absurd cc
bill_not w place true (Some other) test = on_piece (with_escrow w (Some other)) 2
bill_not w place false None test = on_piece (with_escrow w None) 2
bill_not w place false (Some other) test = on_piece (with_escrow w (Some other)) 2

pub on_rejecting : (body : DeviceBody) (past : List Met) (lines : List Line) (place : ℕ) → IsBill body →
    holds past place ≡ false →
    On (world_of body past lines) (world_of body (coin place ∷ past) (inhibited place ∷ lines))
on_rejecting (Acceptor counted values ids) past lines place billing is = absurd billing
on_rejecting (Hopper life value) past lines place billing is = absurd billing
on_rejecting (Bill counted values ids) past lines place billing is =
    bill_not (world_of (Bill counted values ids) past lines) place (accepts past place) (bill_held past) is

-- the device is reset
pub on_resetting : (body : DeviceBody) (past : List Met) (lines : List Line) →
    On (world_of body past lines) (world_of body (reset ∷ past) (line.reset ∷ lines))
on_resetting (Acceptor counted values ids) past lines = on_reset (world_of (Acceptor counted values ids) past lines)
on_resetting (Hopper life value) past lines = on_reset (world_of (Hopper life value) past lines)
on_resetting (Bill counted values ids) past lines = on_reset (world_of (Bill counted values ids) past lines)

-- a bill is routed: it is stacked, and then its line is that of a coin; or it is given back; or none was held

abbrev routed_events : ℕ → Option ℕ → List Pair → List Pair
routed_events way held before = map settled (routed way held before)

abbrev with_routed : List Pair → List Setting → List Line → ℕ → ℕ → ℕ → Option ℕ → World
with_routed events settings lines start count way held = record {
  events = routed_events way held events;
  settings = settings;
  coins = coins (stacked_line (cond (way == STACK_CODE) held None) ++ lines);
  start = start;
  accepted = cond (is_some (cond (way == STACK_CODE) held None)) (suc count) count;
  held = cond (is_way way) None held;
}

abbrev before_routed : List Pair → List Setting → List Line → ℕ → ℕ → Option ℕ → World
before_routed events settings lines start count held = record {
  events = map settled events;
  settings = settings;
  coins = coins lines;
  start = start;
  accepted = count;
  held = held;
}

way_is : (way : ℕ) → way ≤ STACK_CODE → (way ≡ 0) ⊎ (way ≡ 1)
way_is zero small = inl refl
way_is (suc zero) small = inr refl
way_is (suc (suc n)) small = absurd (omega (arith, small))

given_back : (events : List Pair) (settings : List Setting) (lines : List Line) (start count : ℕ) (held : Option ℕ) →
    Goes (before_routed events settings lines start count held)
    (with_routed events settings lines start count 0 held)
given_back events settings lines start count None =
    (on_nothing (before_routed events settings lines start count None)).goes
given_back events settings lines start count (Some place) =
    (on_given_back (before_routed events settings lines start count (Some place))).goes

stacked : (events : List Pair) (settings : List Setting) (lines : List Line) (start count : ℕ) (held : Option ℕ) →
    ((place : ℕ) → held ≡ Some place → 1 ≤ place) →
    Goes (before_routed events settings lines start count held)
    (with_routed events settings lines start count 1 held)
stacked events settings lines start count None placed =
    (on_nothing (before_routed events settings lines start count None)).goes
stacked events settings lines start count (Some place) placed =
    goes_on_stacked (before_routed events settings lines start count (Some place)) place (placed place refl) refl

by_way : (events : List Pair) (settings : List Setting) (lines : List Line) (start count way : ℕ) (held : Option ℕ) →
    way ≤ STACK_CODE → ((place : ℕ) → held ≡ Some place → 1 ≤ place) →
    Goes (before_routed events settings lines start count held)
    (with_routed events settings lines start count way held)
by_way events settings lines start count way held small placed =
    let before = before_routed events settings lines start count held in
    let goes : ℕ → Type 0 = λ n. Goes before (with_routed events settings lines start count n held) in
    elim (way_is way small) [
      | inl is ↦ subst goes (sym is) (given_back events settings lines start count held)
      | inr is ↦ subst goes (sym is) (stacked events settings lines start count held placed)
    ]

pub goes_routed : (body : DeviceBody) (own : ℕ) (past : List Met) (lines : List Line) (way : ℕ) → IsTaker body →
    way ≤ STACK_CODE → Tells (world_of body past lines) →
    Goes (world_of body past lines)
    (world_of body (heard (Some (RouteBill way)) ∷ past) (doses body own past (Some (RouteBill way)) ++ lines))
goes_routed (Acceptor counted values ids) own past lines way taking small told =
    (on_nothing (world_of (Acceptor counted values ids) past lines)).goes
goes_routed (Hopper life value) own past lines way taking small told = absurd taking
goes_routed (Bill counted values ids) own past lines way taking small told =
    let w = world_of (Bill counted values ids) past lines in
    by_way (bill_events past) w.settings lines counted w.accepted way (bill_held past) small told.1
