-- No premise is reported as broken of an acceptor of coins or of bills, over a run of any host:
-- what is known of its mask is so, and after a reset nothing is let in before a mask is asked for.
use Rattle.std.proofs.Common.{◌≡◌, ◌⊎◌, inl, inr, ℕ, zero, suc, ◌==◌, ◌||◌, ◌&&◌, Bool, true, false, cond, List, [], ◌∷◌, ◌++◌, length, map, take, replicate, refl, ap, ap₂, sym, ◌∙◌, subst, arith, eq-eqb, Option, Some, None}
use Rattle.std.specs.Prelude.{⊤, is_none}
use Rattle.std.specs.List.{list_any}
use Rattle.std.proofs.lemmas.Bool.{or_parts}
use Rattle.std.proofs.lemmas.Bool.Decides.{nat_tests}
use Rattle.cct_model.specs.terms.coin.TheConstants.{EVENTS}
use Rattle.cct_model.specs.terms.coin.Credits.{Credits}
use Rattle.cct_model.specs.terms.coin.Pair.{Pair}
use Rattle.cct_model.specs.terms.device.DeviceBody.{DeviceBody}
use Rattle.cct_model.specs.terms.device.DeviceBody.TheVariants.{Acceptor, Bill, Hopper}
use Rattle.cct_model.specs.terms.device.DeviceSetup.{DeviceSetup}
use Rattle.cct_model.specs.terms.device.Setup.{Setup}
use Rattle.cct_model.specs.terms.request.Request.{Request}
use Rattle.cct_model.specs.terms.request.Request.TheVariants.{GetMask, ReadBills, ReadCredits, ResetDevice, RouteBill, SetDefault, SetMask, SetMaster, SetPath}
use Rattle.cct_model.specs.terms.request.ReplyForm.{ReplyForm}
use Rattle.cct_model.specs.terms.request.ReplyForm.TheVariants as form
use Rattle.cct_model.specs.lines.command.Step.{Step}
use Rattle.cct_model.specs.lines.entry.Entry.{Entry}
use Rattle.cct_model.specs.Acceptor.{accepts, coin_event, counter, credits_in, events, last_five, mask_of, no_event, settings, settings_after}
use Rattle.cct_model.specs.Bill.{bill_event, bill_events, bill_held, events_after, held_after, held_with, holds}
use Rattle.cct_model.specs.Device.{IsAcceptor, IsTaker}
use Rattle.cct_model.specs.Exchange.{asks_of, got}
use Rattle.cct_model.specs.History.{Met, heard, unless_reset}
use Rattle.cct_model.specs.History as history
use Rattle.cct_model.specs.Honest.{HonestPast, IsHonestFault}
use Rattle.cct_model.specs.Line.{Line}
use Rattle.cct_model.specs.Reply.{Reply}
use Rattle.cct_model.specs.Reply as reply
use Rattle.cct_model.specs.Setting.{Setting, has_place, is_normal_in, mask_in}
use Rattle.cct_model.specs.Setup.{IsSoundSetup}
use Rattle.cct_model.specs.Transcript.{heard_after, heard_by_devices, met, pending}
use Rattle.cct_laws.specs.Law.{IsOf}
use Rattle.cct_laws.specs.Takers.{held_of, told_events}
use Rattle.cct_laws.proofs.acceptor.BesideCoins.{no_place}
use Rattle.cct_laws.proofs.jobs.StepBrings.{Comes, takes_coin, leaves_coin, takes_bill, leaves_bill, leaves_alien, drops_coin, drops_none, jams, jams_none, is_reset}
use Rattle.cct_audit_taps.specs.declared.money.Money.{Money}
use Rattle.cct_audit_taps.specs.declared.money.Money.TheVariants.{Coins, Bills}
use Rattle.cct_audit_taps.specs.declared.said.Premise.TheVariants as premise
use Rattle.cct_audit_taps.specs.declared.said.Said.{Said}
use Rattle.cct_audit_taps.specs.declared.said.Said.TheVariants.{Broken}
use Rattle.cct_audit_taps.specs.declared.signs.KnownMask.{KnownMask}
use Rattle.cct_audit_taps.specs.declared.signs.Sign.{Sign}
use Rattle.cct_audit_taps.specs.declared.signs.Sign.TheVariants.{Events, Mask, MaskTaken, MaskLost, ResetTaken, OtherAnswers, Nothing}
use Rattle.cct_audit_taps.specs.Signs.{broken_at, broken_by, broken_reset, events_sign, if_acked, is_credit, is_event, known_after, known_mask, known_on, mask_sign, of_bills, of_coins, sign, sign_by}
use Rattle.cct_audit_taps.specs.Taps.{Tap, asks_at, tap_of}
use Rattle.cct_laws_any_host.specs.Wild.{WildStep, WildFrom, taps}
use Rattle.cct_laws_any_host.specs.Claims.{Takes}
use Rattle.cct_laws_any_host.proofs.Alone.{none_other}
use Rattle.cct_laws_any_host.proofs.QuietRuns.{no_hopper, taker_is}
use Rattle.cct_laws_any_host.proofs.Run.{AllWild, Seen, Wild, comes, comes_to, elsewhere, faults, here, no_tap, sends, takes, wild_all}
use Rattle.cct_laws_any_host.proofs.Wire.{acked, asked_or_none, bills_request, coins_request, events_told, masks_told, reset_replied, set_replied}

-- after a reset, before a mask is asked for: nothing is let in, no credit is reported, and no bill is held
record Fresh (body : DeviceBody) (ms : List Met) : Type 0 where
  shut : mask_of ms ≡ 0
  none : list_any is_credit (told_events body ms) ≡ false
  empty : held_of body ms ≡ None

-- the known mask is the one that it has, or a reset came since
record Knows (body : DeviceBody) (ms : List Met) (k : KnownMask) : Type 0 where
  mask_is : (mask_of ms ≡ k.mask) ⊎ (mask_of ms ≡ 0)
  fresh_is : k.is_fresh ≡ true → Fresh body ms

abbrev IfKnown : DeviceBody → List Met → Option KnownMask → Type 0
IfKnown body ms None = ⊤
IfKnown body ms (Some k) = Knows body ms k

-- what comes leaves the mask, or resets it; and lets nothing in where nothing is let in
record Leaves (body : DeviceBody) (ms ns : List Met) : Type 0 where
  mask : (mask_of ns ≡ mask_of ms) ⊎ (mask_of ns ≡ 0)
  fresh : Fresh body ms → Fresh body ns

either : (a b k : ℕ) → (b ≡ a) ⊎ (b ≡ 0) → (a ≡ k) ⊎ (a ≡ 0) → (b ≡ k) ⊎ (b ≡ 0)
either a b k (inl same) (inl is) = inl (same ∙ is)
either a b k (inl same) (inr none) = inr (same ∙ none)
either a b k (inr none) before = inr none

still_known : (body : DeviceBody) (ms ns : List Met) (found : Option KnownMask) → Leaves body ms ns → IfKnown body ms found →
    IfKnown body ns found
still_known body ms ns None leaves known = tt
still_known body ms ns (Some k) leaves known = record {
  mask_is = either (mask_of ms) (mask_of ns) k.mask leaves.mask known.mask_is;
  fresh_is = λ fresh. leaves.fresh (known.fresh_is fresh);
}

-- ---- what comes to it

shut_out : (ms : List Met) (place : ℕ) → mask_of ms ≡ 0 → accepts ms place ≡ false
shut_out ms place shut =
    ap (λ mask. has_place mask place && is_normal_in (settings ms)) shut
    ∙ ap (λ b. b && is_normal_in (settings ms)) (no_place place)

-- an event that is no credit
one_more : (pair : Pair) (before : List Pair) → is_credit pair ≡ false → list_any is_credit before ≡ false →
    list_any is_credit (pair ∷ before) ≡ false
one_more pair before none rest = ap₂ (λ a b. a || b) none rest

left_out : (lets : Bool) (place path : ℕ) → lets ≡ false →
    is_credit (cond lets (record { a = place; b = path }) (record { a = 0; b = 2 })) ≡ false
left_out true place path out = absurd cc
left_out false place path out = refl

not_held : (place : ℕ) (lets : Bool) (before : Option ℕ) → lets ≡ false → before ≡ None → held_with place lets before ≡ None
not_held place true before out none = absurd cc
not_held place false None out none = refl
not_held place false (Some other) out none = absurd cc

coin_leaves : (body : DeviceBody) (ms : List Met) (place : ℕ) → IsTaker body → Leaves body ms (history.coin place ∷ ms)
coin_leaves (Acceptor counted values ids) ms place taking = record {
  mask = inl refl;
  fresh = λ is. record {
    shut = is.shut;
    none = one_more (coin_event ms place) (events ms)
        (left_out (accepts ms place) place _ (shut_out ms place is.shut)) is.none;
    empty = refl;
  };
}
coin_leaves (Hopper life value) ms place taking = absurd taking
coin_leaves (Bill counted values ids) ms place taking = record {
  mask = inl refl;
  fresh = λ is. record {
    shut = is.shut;
    none = one_more (bill_event ms place) (bill_events ms)
        (left_out (holds ms place) place 1
        (ap (λ b. b && is_none (bill_held ms)) (shut_out ms place is.shut))) is.none;
    empty = not_held place (accepts ms place) (bill_held ms) (shut_out ms place is.shut) is.empty;
  };
}

alien_leaves : (body : DeviceBody) (ms : List Met) → IsAcceptor body → Leaves body ms (history.alien ∷ ms)
alien_leaves (Acceptor counted values ids) ms accepting =
    record { mask = inl refl; fresh = λ is. record { shut = is.shut; none = is.none; empty = refl } }
alien_leaves (Hopper life value) ms accepting = absurd accepting
alien_leaves (Bill counted values ids) ms accepting = absurd accepting

reset_leaves : (body : DeviceBody) (ms : List Met) → IsTaker body → Leaves body ms (history.reset ∷ ms)
reset_leaves (Acceptor counted values ids) ms taking =
    record { mask = inr refl; fresh = λ is. record { shut = refl; none = refl; empty = refl } }
reset_leaves (Hopper life value) ms taking = absurd taking
reset_leaves (Bill counted values ids) ms taking =
    record { mask = inr refl; fresh = λ is. record { shut = refl; none = refl; empty = refl } }

comes_leaves : (d : DeviceSetup) (ms : List Met) (s : Step) (e : Entry) (m : Met) (ls : List Line) → IsTaker d.body →
    Comes d ms s e m ls → Leaves d.body ms (m ∷ ms)
comes_leaves d ms _ _ _ _ taking (takes_coin place accepting lets) = coin_leaves d.body ms place taking
comes_leaves d ms _ _ _ _ taking (leaves_coin place accepting out) = coin_leaves d.body ms place taking
comes_leaves d ms _ _ _ _ taking (takes_bill place banking kept) = coin_leaves d.body ms place taking
comes_leaves d ms _ _ _ _ taking (leaves_bill place banking back) = coin_leaves d.body ms place taking
comes_leaves d ms _ _ _ _ taking (leaves_alien accepting) = alien_leaves d.body ms accepting
comes_leaves d ms _ _ _ _ taking (drops_coin paying some) = absurd (no_hopper d.body taking paying)
comes_leaves d ms _ _ _ _ taking (drops_none paying none) = absurd (no_hopper d.body taking paying)
comes_leaves d ms _ _ _ _ taking (jams paying some) = absurd (no_hopper d.body taking paying)
comes_leaves d ms _ _ _ _ taking (jams_none paying none) = absurd (no_hopper d.body taking paying)
comes_leaves d ms _ _ _ _ taking is_reset = reset_leaves d.body ms taking

seen_known : (d : DeviceSetup) (past : List Entry) (e : Entry) (found : Option KnownMask) → IsTaker d.body → Seen d past e →
    IfKnown d.body (met d past) found → IfKnown d.body (met d (e ∷ past)) found
seen_known d past _ found taking (here s e m ls range at meets_are own_are) known =
    subst (λ ms. IfKnown d.body (ms ++ met d past) found) (sym meets_are)
    (still_known d.body (met d past) (m ∷ met d past) found (comes_leaves d (met d past) s e m ls taking at) known)
seen_known d past _ found taking (elsewhere e meets_are own_are) known =
    subst (λ ms. IfKnown d.body (ms ++ met d past) found) (sym meets_are) known

-- ---- what it hears

-- what asks for no mask
abbrev pub NoMask : Option Request → Type 0
NoMask (Some (SetMask mask)) = ⊥
NoMask q = ⊤

heard_mask : (q : Option Request) (before : List Setting) → NoMask q →
    (mask_in (settings_after q before) ≡ mask_in before) ⊎ (mask_in (settings_after q before) ≡ 0)
heard_mask None before plain = inl refl
heard_mask (Some (SetMask mask)) before plain = absurd plain
heard_mask (Some ResetDevice) before plain = inr refl
heard_mask (Some (SetMaster value)) before plain = inl refl
heard_mask (Some (SetPath place path)) before plain = inl refl
heard_mask (Some (SetDefault path)) before plain = inl refl
heard_mask (Some q) before plain = inl refl

shut_still : (before now : ℕ) → (now ≡ before) ⊎ (now ≡ 0) → before ≡ 0 → now ≡ 0
shut_still before now (inl same) shut = same ∙ shut
shut_still before now (inr none) shut = none

heard_coins : (q : Option Request) (before : List Pair) → list_any is_credit before ≡ false →
    list_any is_credit (unless_reset q [] before) ≡ false
heard_coins None before none = none
heard_coins (Some ResetDevice) before none = refl
heard_coins (Some q) before none = none

heard_bills : (q : Option Request) (held : Option ℕ) (before : List Pair) → held ≡ None →
    list_any is_credit before ≡ false → list_any is_credit (events_after q held before) ≡ false
heard_bills None held before empty none = none
heard_bills (Some (RouteBill way)) None before empty none = none
heard_bills (Some (RouteBill way)) (Some place) before empty none = absurd cc
heard_bills (Some ResetDevice) held before empty none = refl
heard_bills (Some q) held before empty none = none

empty_by : (sent : Bool) (held : Option ℕ) → held ≡ None → cond sent None held ≡ None
empty_by true held empty = refl
empty_by false held empty = empty

heard_empty : (q : Option Request) (held : Option ℕ) → held ≡ None → held_after q held ≡ None
heard_empty None held empty = empty
heard_empty (Some (RouteBill way)) held empty = empty_by _ held empty
heard_empty (Some ResetDevice) held empty = refl
heard_empty (Some q) held empty = empty

hears_leaves : (body : DeviceBody) (ms : List Met) (q : Option Request) → IsTaker body → NoMask q →
    Leaves body ms (heard q ∷ ms)
hears_leaves (Acceptor counted values ids) ms q taking plain = record {
  mask = heard_mask q (settings ms) plain;
  fresh = λ is. record {
    shut = shut_still (mask_of ms) (mask_of (heard q ∷ ms)) (heard_mask q (settings ms) plain) is.shut;
    none = heard_coins q (events ms) is.none;
    empty = refl;
  };
}
hears_leaves (Hopper life value) ms q taking plain = absurd taking
hears_leaves (Bill counted values ids) ms q taking plain = record {
  mask = heard_mask q (settings ms) plain;
  fresh = λ is. record {
    shut = shut_still (mask_of ms) (mask_of (heard q ∷ ms)) (heard_mask q (settings ms) plain) is.shut;
    none = heard_bills q (bill_held ms) (bill_events ms) is.empty is.none;
    empty = heard_empty q (bill_held ms) is.empty;
  };
}

is_fresh_now : (body : DeviceBody) (ms : List Met) → IsTaker body → Fresh body (heard (Some ResetDevice) ∷ ms)
is_fresh_now (Acceptor counted values ids) ms taking = record { shut = refl; none = refl; empty = refl }
is_fresh_now (Hopper life value) ms taking = absurd taking
is_fresh_now (Bill counted values ids) ms taking = record { shut = refl; none = refl; empty = refl }

-- ---- what a tap shows

-- nothing is reported as broken, and the known mask is right after it
record Fine (addr number : ℕ) (body : DeviceBody) (ns : List Met) (found : Option KnownMask) (s : Sign) : Type 0 where
  silent : broken_by addr number s found ≡ []
  known : IfKnown body ns (known_on number s found)

nothing_fine : (addr number : ℕ) (body : DeviceBody) (ns : List Met) (found : Option KnownMask) → IfKnown body ns found →
    Fine addr number body ns found Nothing
nothing_fine addr number body ns found known = record { silent = refl; known = known }

-- events
no_event_at_zero : (es : List Pair) →
    (((credits_in es).counter == 0) && list_any is_event (credits_in es).pairs) ≡ false
no_event_at_zero [] = refl
no_event_at_zero (e ∷ es) =
    let some : (counter (length (e ∷ es)) == 0) ≡ false = grind (arith, nat_tests) in
    ap (λ b. b && list_any is_event (last_five (e ∷ es))) some

none_taken : (n : ℕ) (xs : List Pair) → list_any is_credit xs ≡ false → list_any is_credit (take n xs) ≡ false
none_taken zero xs none = refl
none_taken (suc n) [] none = refl
none_taken (suc n) (x ∷ xs) none =
    let parts = or_parts (is_credit x) (list_any is_credit xs) none in
    one_more x (take n xs) parts.0 (none_taken n xs parts.1)

none_appended : (xs ys : List Pair) → list_any is_credit xs ≡ false → list_any is_credit ys ≡ false →
    list_any is_credit (xs ++ ys) ≡ false
none_appended [] ys none rest = rest
none_appended (x ∷ xs) ys none rest =
    let parts = or_parts (is_credit x) (list_any is_credit xs) none in
    one_more x (xs ++ ys) parts.0 (none_appended xs ys parts.1 rest)

no_credit_told : (es : List Pair) → list_any is_credit es ≡ false → list_any is_credit (last_five es) ≡ false
no_credit_told es none =
    none_taken EVENTS (es ++ replicate EVENTS no_event) (none_appended es (replicate EVENTS no_event) none refl)

reset_silent : (addr number : ℕ) (body : DeviceBody) (ms : List Met) (found : Option KnownMask) → IfKnown body ms found →
    broken_reset addr number (credits_in (told_events body ms)) found ≡ []
reset_silent addr number body ms None known = refl
reset_silent addr number body ms (Some k) known = by_test k.is_fresh refl
  where
    by_test : (fresh : Bool) → k.is_fresh ≡ fresh → broken_reset addr number (credits_in (told_events body ms)) (Some k) ≡ []
    by_test true is =
        ap₂ (λ a b. cond (a && b) (Broken addr premise.Reset k.number number ∷ []) []) is
        (no_credit_told (told_events body ms) (known.fresh_is is).none)
    by_test false is =
        ap (λ a. cond (a && list_any is_credit (last_five (told_events body ms)))
        (Broken addr premise.Reset k.number number ∷ []) []) is

events_fine : (addr number : ℕ) (body : DeviceBody) (ms ns : List Met) (found : Option KnownMask) (c : Credits) →
    c ≡ credits_in (told_events body ms) → IfKnown body ms found → IfKnown body ns found →
    Fine addr number body ns found (Events c)
events_fine addr number body ms ns found c told before known = record {
  silent = subst (λ x. broken_by addr number (Events x) found ≡ []) (sym told)
      (ap₂ (λ xs ys. xs ++ ys)
      (ap (λ b. cond b (Broken addr premise.Buffer number number ∷ []) []) (no_event_at_zero (told_events body ms)))
      (reset_silent addr number body ms found before));
  known = known;
}

-- a mask
newly_known : (body : DeviceBody) (ms ns : List Met) (number mask : ℕ) → mask ≡ mask_of ms →
    (mask_of ns ≡ mask_of ms) ⊎ (mask_of ns ≡ 0) → Knows body ns (known_mask number mask)
newly_known body ms ns number mask told leaves = record {
  mask_is = either (mask_of ms) (mask_of ns) mask leaves (inl (sym told));
  fresh_is = λ fresh. absurd cc;
}

or_true : (a b : Bool) → b ≡ true → (a || b) ≡ true
or_true true b is = refl
or_true false b is = is

zero_or_same : (mask known now : ℕ) → mask ≡ now → (now ≡ known) ⊎ (now ≡ 0) → ((mask == 0) || (mask == known)) ≡ true
zero_or_same mask known now told (inl same) = or_true (mask == 0) (mask == known) (eq-eqb mask known (told ∙ same))
zero_or_same mask known now told (inr none) = ap (λ b. b || (mask == known)) (eq-eqb mask 0 (told ∙ none))

mask_fine : (addr number : ℕ) (body : DeviceBody) (ms ns : List Met) (found : Option KnownMask) (mask : ℕ) →
    mask ≡ mask_of ms → Leaves body ms ns → IfKnown body ms found → Fine addr number body ns found (Mask mask)
mask_fine addr number body ms ns None mask told leaves before =
    record { silent = refl; known = newly_known body ms ns number mask told leaves.mask }
mask_fine addr number body ms ns (Some k) mask told leaves before = record {
  silent = ap (λ b. cond b [] (Broken addr premise.Mask k.number number ∷ [])) (zero_or_same mask k.mask (mask_of ms) told before.mask_is);
  known = by_test (mask == k.mask);
}
  where
    by_test : (same : Bool) → IfKnown body ns (cond same (Some k) (Some (known_mask number mask)))
    by_test true = still_known body ms ns (Some k) leaves before
    by_test false = newly_known body ms ns number mask told leaves.mask

-- one tap, by what was asked, and by what was replied in a form
module _ (money : Money) (setup : Setup) (d : DeviceSetup) (sound : IsSoundSetup setup) (own : IsOf setup d)
    (takes_it : Takes money d.body) (taking : IsTaker d.body) (past : List Entry) (sent : List ℕ)
    (honest : IsHonestFault (pending past) sent) (number : ℕ) (found : Option KnownMask)
    (before : IfKnown d.body (met d past) found) where
  abbrev hears : Option Request
  hears = asks_of d (heard_by_devices (pending past) sent)

  abbrev replied : ReplyForm → Option Reply
  replied wanted = got d.kind d.addr wanted sent (heard_after setup past sent)

  abbrev IsFine : Sign → Type 0
  IsFine s = Fine d.addr number d.body (heard hears ∷ met d past) found s

  leaves_it : NoMask (asks_at d.kind d.addr sent) → Leaves d.body (met d past) (heard hears ∷ met d past)
  leaves_it plain = hears_leaves d.body (met d past) hears taking (asked_or_none d past sent honest NoMask tt plain)

  known_still : NoMask (asks_at d.kind d.addr sent) → IfKnown d.body (heard hears ∷ met d past) found
  known_still plain = still_known d.body (met d past) (heard hears ∷ met d past) found (leaves_it plain) before

  still_fine : NoMask (asks_at d.kind d.addr sent) → IsFine Nothing
  still_fine plain = nothing_fine d.addr number d.body (heard hears ∷ met d past) found (known_still plain)

  events_are : (y : Option Reply) → NoMask (asks_at d.kind d.addr sent) →
      ((c : Credits) → y ≡ Some (reply.credits c) → c ≡ credits_in (told_events d.body (met d past))) → IsFine (events_sign y)
  events_are None plain told = still_fine plain
  events_are (Some (reply.credits c)) plain told =
      events_fine d.addr number d.body (met d past) (heard hears ∷ met d past) found c (told c refl) before (known_still plain)
  events_are (Some y) plain told = still_fine plain

  mask_is : (y : Option Reply) → NoMask (asks_at d.kind d.addr sent) →
      ((mask : ℕ) → y ≡ Some (reply.mask mask) → mask ≡ mask_of (met d past)) → IsFine (mask_sign y)
  mask_is None plain told = still_fine plain
  mask_is (Some (reply.mask mask)) plain told =
      mask_fine d.addr number d.body (met d past) (heard hears ∷ met d past) found mask (told mask refl) (leaves_it plain) before
  mask_is (Some y) plain told = still_fine plain

  reset_is : (y : Option Reply) → NoMask (asks_at d.kind d.addr sent) →
      (y ≡ Some reply.ack → hears ≡ Some ResetDevice) → IsFine (if_acked y ResetTaken Nothing)
  reset_is None plain told = still_fine plain
  reset_is (Some reply.ack) plain told = record {
    silent = refl;
    known = subst (λ q. Knows d.body (heard q ∷ met d past) (record { number = number; mask = 0; is_fresh = true }))
        (sym (told refl)) (record { mask_is = inr refl; fresh_is = λ fresh. is_fresh_now d.body (met d past) taking });
  }
  reset_is (Some y) plain told = still_fine plain

  taken_is : (mask : ℕ) (y : Option Reply) → (y ≡ Some reply.ack → hears ≡ Some (SetMask mask)) →
      IsFine (if_acked y (MaskTaken mask) MaskLost)
  taken_is mask None told = record { silent = refl; known = tt }
  taken_is mask (Some reply.ack) told = record {
    silent = refl;
    known = subst (λ q. Knows d.body (heard q ∷ met d past) (known_mask number mask)) (sym (told refl))
        (record { mask_is = inl refl; fresh_is = λ fresh. absurd cc });
  }
  taken_is mask (Some y) told = record { silent = refl; known = tt }

  read_coins : (m : Money) → Takes m d.body → asks_at d.kind d.addr sent ≡ Some ReadCredits →
      IsFine (of_coins m (events_sign (replied form.Credits)))
  read_coins Coins accepting asks =
      events_are (replied form.Credits) (subst NoMask (sym asks) tt)
      (λ c found_it. events_told setup d past sent c sound own taking honest
      (asks ∙ ap Some (sym (coins_request d.body accepting))) found_it)
  read_coins Bills banking asks = still_fine (subst NoMask (sym asks) tt)

  read_bills : (m : Money) → Takes m d.body → asks_at d.kind d.addr sent ≡ Some ReadBills →
      IsFine (of_bills m (events_sign (replied form.Credits)))
  read_bills Coins accepting asks = still_fine (subst NoMask (sym asks) tt)
  read_bills Bills banking asks =
      events_are (replied form.Credits) (subst NoMask (sym asks) tt)
      (λ c found_it. events_told setup d past sent c sound own taking honest
      (asks ∙ ap Some (sym (bills_request d.body banking))) found_it)

  sign_fine : (asked : Option Request) → asks_at d.kind d.addr sent ≡ asked → IsFine (sign_by money asked replied)
  sign_fine None asks = still_fine (subst NoMask (sym asks) tt)
  sign_fine (Some ReadCredits) asks = read_coins money takes_it asks
  sign_fine (Some ReadBills) asks = read_bills money takes_it asks
  sign_fine (Some GetMask) asks =
      mask_is (replied form.Mask) (subst NoMask (sym asks) tt)
      (λ mask found_it. masks_told setup d past sent mask sound own taking honest asks found_it)
  sign_fine (Some (SetMask mask)) asks =
      taken_is mask (replied form.Ack)
      (λ found_it. acked setup d past sent (SetMask mask) sound own honest (λ e. cc) asks
      (set_replied d (met d past) mask taking) found_it)
  sign_fine (Some ResetDevice) asks =
      reset_is (replied form.Ack) (subst NoMask (sym asks) tt)
      (λ found_it. acked setup d past sent ResetDevice sound own honest (λ e. cc) asks (reset_replied d (met d past)) found_it)
  sign_fine (Some q) asks = still_fine (subst NoMask (sym asks) tt)

-- ---- all taps

abbrev pub premise_signs : Money → DeviceSetup → List Entry → List Sign
premise_signs money d past = map (sign money d.kind d.addr) (taps past)

-- all that is reported as broken at taps that showed this, newest first
abbrev pub all_broken : ℕ → List Sign → List Said
all_broken addr [] = []
all_broken addr (s ∷ past) = all_broken addr past ++ broken_at addr s past

-- what is known is so, and nothing was reported as broken
abbrev Shows : Money → DeviceSetup → List Met → List Tap → Type 0
Shows money d ms ts =
    IfKnown d.body ms (known_after (map (sign money d.kind d.addr) ts))
    × (all_broken d.addr (map (sign money d.kind d.addr) ts) ≡ [])

module _ (money : Money) (setup : Setup) (d : DeviceSetup) (sound : IsSoundSetup setup) (own_one : IsOf setup d)
    (takes_it : Takes money d.body) (taking : IsTaker d.body) where
  one_fine : (past : List Entry) (e : Entry) → Wild setup past e → HonestPast (e ∷ past) →
      Shows money d (met d past) (taps past) → Shows money d (met d (e ∷ past)) (taps (e ∷ past))
  one_fine past _ (comes other s e m ls own_other range at) honest fine =
      no_tap other (met other past) s e m ls past (λ moments ts. Shows money d (met d (e ∷ past)) ts) at (
        seen_known d past e (known_after (premise_signs money d past)) taking
            (comes_to setup d other past s e m ls own_one own_other range at) fine.0,
        fine.1,
      )
  one_fine past _ (faults f) honest fine = fine
  one_fine past _ (takes c) honest fine = fine
  one_fine past _ (sends addr sent) honest fine =
      let is = sign_fine money setup d sound own_one takes_it taking past sent honest.0
      (suc (length (premise_signs money d past))) (known_after (premise_signs money d past)) fine.0
      (asks_at d.kind d.addr sent) refl in
      let same : sign money d.kind d.addr (tap_of sent (heard_after setup past sent))
      ≡ sign_by money (asks_at d.kind d.addr sent) (λ form. got d.kind d.addr form sent (heard_after setup past sent)) =
      ap (λ b. cond b OtherAnswers
      (sign_by money (asks_at d.kind d.addr sent) (λ form. got d.kind d.addr form sent (heard_after setup past sent))))
      (none_other setup d past sent sound own_one honest.0) in
      let so = subst (Fine d.addr (suc (length (premise_signs money d past))) d.body
      (heard (asks_of d (heard_by_devices (pending past) sent)) ∷ met d past) (known_after (premise_signs money d past)))
      (sym same) is in
      (so.known, ap₂ (λ xs ys. xs ++ ys) fine.1 so.silent)

  all_fine : (past : List Entry) → AllWild setup past → HonestPast past → Shows money d (met d past) (taps past)
  all_fine [] all honest = (tt, refl)
  all_fine (e ∷ past) all honest = one_fine past e all.0 honest (all_fine past all.1 honest.1)

pub none_broken : (money : Money) (setup : Setup) (steps : List WildStep) (past : List Entry) (d : DeviceSetup) →
    IsSoundSetup setup → IsOf setup d → Takes money d.body → WildFrom setup [] steps past → HonestPast past →
    all_broken d.addr (premise_signs money d past) ≡ []
none_broken money setup steps past d sound own_one is goes honest =
    (all_fine money setup d sound own_one is (taker_is money d.body is) past (wild_all setup steps [] past goes tt) honest).1
