-- No premise is reported as broken of a hopper, over a run of any host: what is known of its serial
-- number, of whether it may pay, of what it has left to pay, of its life count and of its event
-- counter is so.
use Rattle.std.proofs.Common.{◌≡◌, ◌⊎◌, inl, inr, ℕ, zero, suc, ◌+◌, ◌-◌, ◌%◌, ◌^◌, ◌<◌, ◌≤◌, ◌==◌, ◌&&◌, ◌||◌, not, nat_le, Bool, true, false, cond, List, [], ◌∷◌, ◌++◌, length, map, refl, ap, ap₂, sym, ◌∙◌, subst, arith, eq-eqb, le_refl, Option, Some, None}
use Rattle.std.proofs.Math.Bool.{or-true}
use Rattle.std.specs.Prelude.{⊤}
use Rattle.std.proofs.lemmas.Bool.Decides.{nat_tests}
use Rattle.cct_model.specs.terms.request.TheConstants.{ENABLE_CODE}
use Rattle.cct_model.specs.terms.device.DeviceSetup.{DeviceSetup}
use Rattle.cct_model.specs.terms.device.Setup.{Setup}
use Rattle.cct_model.specs.terms.request.Request.{Request}
use Rattle.cct_model.specs.terms.request.Request.TheVariants.{Dispense, Enable, GetLife, GetStatus, ResetDevice, SerialNumber}
use Rattle.cct_model.specs.terms.request.ReplyForm.{ReplyForm}
use Rattle.cct_model.specs.terms.request.ReplyForm.TheVariants as form
use Rattle.cct_model.specs.lines.command.Step.{Step}
use Rattle.cct_model.specs.lines.entry.Entry.{Entry}
use Rattle.cct_model.specs.Acceptor.{counter}
use Rattle.cct_model.specs.Device.{IsHopper}
use Rattle.cct_model.specs.Exchange.{asks_of, got}
use Rattle.cct_model.specs.History.{Met, heard, unless_reset}
use Rattle.cct_model.specs.History as history
use Rattle.cct_model.specs.Honest.{HonestPast, IsHonestFault}
use Rattle.cct_model.specs.Hopper.{dispense_reply, dropped, enabled, last_paid, payouts, payouts_by, remaining, stops, taken_of}
use Rattle.cct_model.specs.Line.{Line}
use Rattle.cct_model.specs.Order.{life_between}
use Rattle.cct_model.specs.Reading.{distance}
use Rattle.cct_model.specs.Reply.{Reply}
use Rattle.cct_model.specs.Reply as reply
use Rattle.cct_model.specs.Setup.{IsSoundSetup}
use Rattle.cct_model.specs.Transcript.{heard_after, heard_by_devices, met, pending}
use Rattle.cct_model.proofs.Hoppers.{IsTaken, Shown, after_end, after_heard, left_heard, remaining_heard, remaining_jam, shown, shown_alien, shown_coin, shown_fall, shown_heard, shown_jam, taken_when, with_paid, with_unpaid}
use Rattle.cct_laws.specs.Law.{IsOf}
use Rattle.cct_laws.proofs.wire.Replies.{start_of}
use Rattle.cct_laws.proofs.orders.Payouts.{zero_or}
use Rattle.cct_laws.proofs.jobs.StepBrings.{Comes, takes_coin, leaves_coin, takes_bill, leaves_bill, leaves_alien, drops_coin, drops_none, jams, jams_none, is_reset}
use Rattle.cct_audit_taps.specs.declared.deeds.Deed.{Deed}
use Rattle.cct_audit_taps.specs.declared.deeds.Deed.TheVariants.{Serial, Enabled, Shut, ResetTaken, Dispensed, Asked, Status, Life, OtherAnswers, Nothing}
use Rattle.cct_audit_taps.specs.declared.hoppers.KnownCounter.{KnownCounter}
use Rattle.cct_audit_taps.specs.declared.hoppers.KnownHopper.{KnownHopper}
use Rattle.cct_audit_taps.specs.declared.hoppers.KnownLife.{KnownLife}
use Rattle.cct_audit_taps.specs.declared.hoppers.KnownSerial.{KnownSerial}
use Rattle.cct_audit_taps.specs.declared.said.Premise.TheVariants as premise
use Rattle.cct_audit_taps.specs.declared.said.Said.{Said}
use Rattle.cct_audit_taps.specs.declared.said.Said.TheVariants.{Broken}
use Rattle.cct_audit_taps.specs.Deeds.{asked_since, broken_counter, broken_enable, broken_life, broken_serial, counted_from, counter_fits, deed, deed_by, greater, hopper_after, hopper_broken_at, hopper_broken_by, hopper_on, if_done, least_of, life_deed, more_coins, one_more, paid_since, request_since, rise_fits, serial_deed, serial_first, status_deed}
use Rattle.cct_audit_taps.specs.Taps.{Tap, asks_at, life_by, life_in, tap_of}
use Rattle.cct_epoch.proofs.Counters.{distance_near}
use Rattle.cct_laws_any_host.specs.Wild.{WildStep, WildFrom, taps}
use Rattle.cct_laws_any_host.proofs.Alone.{none_other}
use Rattle.cct_laws_any_host.proofs.Fallen.{since_exact}
use Rattle.cct_laws_any_host.proofs.Run.{AllWild, Seen, Wild, comes, comes_to, elsewhere, faults, here, no_tap, sends, takes, wild_all}
use Rattle.cct_laws_any_host.proofs.Wire.{acked, asked_or_none, dispense_replied, enable_replied, refused, reset_replied, told_life, told_serial, told_status}

at_most : (m n : ℕ) → m ≡ n → m ≤ n
at_most m n is = subst (λ k. m ≤ k) is (le_refl m)

-- ---- what it meets

-- so many dispense requests were taken as before, or a reset came
abbrev Stays : ℕ → List Met → List Met → Type 0
Stays own ms ns = (payouts own ns ≡ payouts own ms) ⊎ (payouts own ns ≡ 0)

-- what it may yet pay, what fell, what was paid of the last payout, and the requests that it took go on together
record Keeps (own : ℕ) (ms ns : List Met) : Type 0 where
  rest : remaining own ns ≤ remaining own ms
  both : dropped own ns + remaining own ns ≤ dropped own ms + remaining own ms
  grows : dropped own ms ≤ dropped own ns
  paid : last_paid own ns + dropped own ms ≤ last_paid own ms + dropped own ns
  stays : Stays own ms ns

less_keeps : (own : ℕ) (ms ns : List Met) → remaining own ns ≤ remaining own ms → last_paid own ns ≤ last_paid own ms →
    dropped own ns ≡ dropped own ms → Stays own ms ns → Keeps own ms ns
less_keeps own ms ns rest paid drops stays = record {
  rest = rest;
  both = omega (arith, rest, drops);
  grows = omega (arith, drops);
  paid = omega (arith, paid, drops);
  stays = stays;
}

same_keeps : (own : ℕ) (ms ns : List Met) → shown own ns ≡ shown own ms → dropped own ns ≡ dropped own ms →
    Stays own ms ns → Keeps own ms ns
same_keeps own ms ns same drops stays =
    less_keeps own ms ns
    (at_most (remaining own ns) (remaining own ms) (ap (λ (s : Shown). s.remains) same))
    (at_most (last_paid own ns) (last_paid own ms) (ap (λ (s : Shown). s.paid) same)) drops stays

some_left : (n : ℕ) → (n == 0) ≡ false → 1 ≤ n
some_left zero is = absurd cc
some_left (suc n) is = omega arith

one_falls : (own : ℕ) (ms ns : List Met) → 1 ≤ remaining own ms → remaining own ns ≡ remaining own ms - 1 →
    last_paid own ns ≡ suc (last_paid own ms) → dropped own ns ≡ suc (dropped own ms) → Stays own ms ns → Keeps own ms ns
one_falls own ms ns some rest paid drops stays = record {
  rest = omega (arith, rest);
  both = omega (arith, some, rest, drops);
  grows = omega (arith, drops);
  paid = omega (arith, paid, drops);
  stays = stays;
}

fall_keeps : (own : ℕ) (ms : List Met) → Keeps own ms (history.fall ∷ ms)
fall_keeps own ms = by_test (remaining own ms == 0) refl
  where
    by_test : (none : Bool) → (remaining own ms == 0) ≡ none → Keeps own ms (history.fall ∷ ms)
    by_test true is =
        same_keeps own ms (history.fall ∷ ms)
        (shown_fall own ms ∙ ap (λ b. cond b (shown own ms) (with_paid (shown own ms))) is)
        (ap (λ b. cond b (dropped own ms) (suc (dropped own ms))) is) (inl refl)
    by_test false is =
        let next : shown own (history.fall ∷ ms) ≡ with_paid (shown own ms) =
        shown_fall own ms ∙ ap (λ b. cond b (shown own ms) (with_paid (shown own ms))) is in
        one_falls own ms (history.fall ∷ ms) (some_left (remaining own ms) is)
        (ap (λ (s : Shown). s.remains) next) (ap (λ (s : Shown). s.paid) next)
        (ap (λ b. cond b (dropped own ms) (suc (dropped own ms))) is) (inl refl)

ended_paid : (none by_jam : Bool) (s : Shown) → (cond none s (with_unpaid by_jam s)).paid ≡ s.paid
ended_paid true by_jam s = refl
ended_paid false by_jam s = refl

jam_keeps : (own : ℕ) (ms : List Met) → Keeps own ms (history.jam ∷ ms)
jam_keeps own ms =
    less_keeps own ms (history.jam ∷ ms)
    (subst (λ n. n ≤ remaining own ms) (sym (remaining_jam own ms)) (omega arith))
    (at_most (last_paid own (history.jam ∷ ms)) (last_paid own ms)
    (ap (λ (s : Shown). s.paid) (shown_jam own ms) ∙ ended_paid (remaining own ms == 0) true (shown own ms)))
    refl (inl refl)

coin_keeps : (own place : ℕ) (ms : List Met) → Keeps own ms (history.coin place ∷ ms)
coin_keeps own place ms = same_keeps own ms (history.coin place ∷ ms) (shown_coin own place ms) refl (inl refl)

alien_keeps : (own : ℕ) (ms : List Met) → Keeps own ms (history.alien ∷ ms)
alien_keeps own ms = same_keeps own ms (history.alien ∷ ms) (shown_alien own ms) refl (inl refl)

reset_keeps : (own : ℕ) (ms : List Met) → Keeps own ms (history.reset ∷ ms)
reset_keeps own ms = less_keeps own ms (history.reset ∷ ms) (omega arith) (omega arith) refl (inr refl)

-- what it hears
stop_paid : (stop : Bool) (s : Shown) → (cond stop (after_end false s) s).paid ≤ s.paid
stop_paid true s = at_most _ _ (ended_paid (s.remains == 0) s.timeout s)
stop_paid false s = le_refl s.paid

heard_paid : (took : Option ℕ) (asked : Option Request) (s : Shown) → (after_heard took asked s).paid ≤ s.paid
heard_paid (Some count) asked s = omega arith
heard_paid None None s = stop_paid (stops None) s
heard_paid None (Some ResetDevice) s = omega arith
heard_paid None (Some q) s = stop_paid (stops (Some q)) s

paid_after : (own : ℕ) (ms : List Met) (q : Option Request) → last_paid own (heard q ∷ ms) ≤ last_paid own ms
paid_after own ms q =
    subst (λ (s : Shown). s.paid ≤ last_paid own ms) (sym (shown_heard own q ms)) (heard_paid (taken_of own ms q) q (shown own ms))

no_dose : (q : Option Request) (before : ℕ) → left_heard None q before ≤ before
no_dose None before = le_refl before
no_dose (Some ResetDevice) before = omega arith
no_dose (Some q) before = zero_or (stops (Some q)) before

-- how many coins are asked for
abbrev dose_of : Option Request → ℕ
dose_of (Some (Dispense serial count)) = count
dose_of q = 0

-- no more is left, or all that was asked for where nothing was left
abbrev LeftThen : ℕ → List Met → Option Request → ℕ → Type 0
LeftThen own ms q now = (now ≤ remaining own ms) ⊎ ((remaining own ms ≡ 0) × (now ≡ dose_of q))

left_then : (own : ℕ) (ms : List Met) (q : Option Request) (took : Option ℕ) → taken_of own ms q ≡ took →
    LeftThen own ms q (left_heard took q (remaining own ms))
left_then own ms q None is = inl (no_dose q (remaining own ms))
left_then own ms q (Some count) is =
    let taken : IsTaken own ms q count = taken_when own ms q count is in
    inr (taken.rest, sym (ap dose_of taken.asks))

left_after : (own : ℕ) (ms : List Met) (q : Option Request) → LeftThen own ms q (remaining own (heard q ∷ ms))
left_after own ms q =
    subst (LeftThen own ms q) (sym (remaining_heard own q ms)) (left_then own ms q (taken_of own ms q) refl)

-- no more than the coins that were asked for may fall beside
both_after : (own : ℕ) (ms : List Met) (q : Option Request) (now : ℕ) → LeftThen own ms q now →
    now ≤ remaining own ms + dose_of q
both_after own ms q now (inl less) = omega (arith, less)
both_after own ms q now (inr parts) = omega (arith, parts.1)

-- what is no dispense request
abbrev AsksNone : Option Request → Type 0
AsksNone (Some (Dispense serial count)) = ⊥
AsksNone q = ⊤

none_dose : (q : Option Request) → AsksNone q → dose_of q ≡ 0
none_dose None asks = refl
none_dose (Some (Dispense serial count)) asks = absurd asks
none_dose (Some q) asks = refl

stays_heard : (own : ℕ) (ms : List Met) (q : Option Request) → AsksNone q → Stays own ms (heard q ∷ ms)
stays_heard own ms None asks = inl refl
stays_heard own ms (Some (Dispense serial count)) asks = absurd asks
stays_heard own ms (Some ResetDevice) asks = inr refl
stays_heard own ms (Some q) asks = inl refl

heard_keeps : (own : ℕ) (ms : List Met) (q : Option Request) → AsksNone q → Keeps own ms (heard q ∷ ms)
heard_keeps own ms q asks =
    let none : dose_of q ≡ 0 = none_dose q asks in
    less_keeps own ms (heard q ∷ ms)
    (subst (λ n. remaining own (heard q ∷ ms) ≤ n) (no_more (remaining own ms) none)
    (both_after own ms q _ (left_after own ms q)))
    (paid_after own ms q) refl (stays_heard own ms q asks)
  where
    no_more : (n : ℕ) → dose_of q ≡ 0 → n + dose_of q ≡ n
    no_more n none = omega (arith, none)

-- ---- what is known of it

abbrev IfSerial : ℕ → Option KnownSerial → Type 0
IfSerial own None = ⊤
IfSerial own (Some k) = k.serial ≡ own

abbrev IfShut : List Met → Option ℕ → Type 0
IfShut ms None = ⊤
IfShut ms (Some number) = enabled ms ≡ false

-- a life count was shown when so many coins had fallen
record Counts (own start : ℕ) (ms : List Met) (k : KnownLife) : Type 0 where
  base : ℕ
  count_is : k.count ≡ (start + base) % 2 ^ 24
  least_is : base + k.least ≤ dropped own ms
  most_is : k.most < 2 ^ 24 → dropped own ms + remaining own ms ≤ base + k.most
  paid_is : k.has_begun ≡ true → base + last_paid own ms ≤ dropped own ms

abbrev IfCounts : ℕ → ℕ → List Met → Option KnownLife → Type 0
IfCounts own start ms None = ⊤
IfCounts own start ms (Some k) = Counts own start ms k

-- an event counter was shown when so many requests had been taken
record Since (taken : ℕ) (k : KnownCounter) : Type 0 where
  base : ℕ
  counter_is : k.counter ≡ counter base
  least_is : base + k.least ≤ taken
  most_is : taken ≤ base + k.most

-- of the requests since, where they are few, so many were taken; or a reset came
abbrev Tallies : ℕ → KnownCounter → Type 0
Tallies taken k = k.most < 255 → (taken ≤ k.most) ⊎ Since taken k

abbrev IfTallies : ℕ → Option KnownCounter → Type 0
IfTallies taken None = ⊤
IfTallies taken (Some k) = Tallies taken k

record Knows (own start : ℕ) (ms : List Met) (k : KnownHopper) : Type 0 where
  serial_is : IfSerial own k.serial
  shut_is : IfShut ms k.shut
  rest_is : remaining own ms ≤ k.rest
  life_is : IfCounts own start ms k.life
  counter_is : IfTallies (payouts own ms) k.counter

still_tallies : (taken now : ℕ) (found : Option KnownCounter) → (now ≡ taken) ⊎ (now ≡ 0) → IfTallies taken found →
    IfTallies now found
still_tallies taken now None stays tallies = tt
still_tallies taken now (Some k) (inl same) tallies = subst (λ n. Tallies n k) (sym same) tallies
still_tallies taken now (Some k) (inr none) tallies = λ few. inl (omega (arith, none))

still_counts : (own start : ℕ) (ms ns : List Met) (found : Option KnownLife) → Keeps own ms ns → IfCounts own start ms found →
    IfCounts own start ns found
still_counts own start ms ns None keeps counts = tt
still_counts own start ms ns (Some k) keeps counts = record {
  base = counts.base;
  count_is = counts.count_is;
  least_is = omega (arith, counts.least_is, keeps.grows);
  most_is = λ few. omega (arith, counts.most_is few, keeps.both);
  paid_is = λ begun. omega (arith, counts.paid_is begun, keeps.grows, keeps.paid);
}

abbrev StaysOff : List Met → List Met → Type 0
StaysOff ms ns = enabled ms ≡ false → enabled ns ≡ false

still_shut : (ms ns : List Met) (found : Option ℕ) → StaysOff ms ns → IfShut ms found → IfShut ns found
still_shut ms ns None off shut = tt
still_shut ms ns (Some number) off shut = off shut

still_knows : (own start : ℕ) (ms ns : List Met) (k : KnownHopper) → Keeps own ms ns → StaysOff ms ns →
    Knows own start ms k → Knows own start ns k
still_knows own start ms ns k keeps off knows = record {
  serial_is = knows.serial_is;
  shut_is = still_shut ms ns k.shut off knows.shut_is;
  rest_is = omega (arith, keeps.rest, knows.rest_is);
  life_is = still_counts own start ms ns k.life keeps knows.life_is;
  counter_is = still_tallies (payouts own ms) (payouts own ns) k.counter keeps.stays knows.counter_is;
}

comes_knows : (own start : ℕ) (d : DeviceSetup) (ms : List Met) (s : Step) (e : Entry) (m : Met) (ls : List Line)
    (k : KnownHopper) → Comes d ms s e m ls → Knows own start ms k → Knows own start (m ∷ ms) k
comes_knows own start d ms _ _ _ _ k (takes_coin place accepting lets) knows =
    still_knows own start ms (history.coin place ∷ ms) k (coin_keeps own place ms) (λ off. off) knows
comes_knows own start d ms _ _ _ _ k (leaves_coin place accepting out) knows =
    still_knows own start ms (history.coin place ∷ ms) k (coin_keeps own place ms) (λ off. off) knows
comes_knows own start d ms _ _ _ _ k (takes_bill place banking kept) knows =
    still_knows own start ms (history.coin place ∷ ms) k (coin_keeps own place ms) (λ off. off) knows
comes_knows own start d ms _ _ _ _ k (leaves_bill place banking back) knows =
    still_knows own start ms (history.coin place ∷ ms) k (coin_keeps own place ms) (λ off. off) knows
comes_knows own start d ms _ _ _ _ k (leaves_alien accepting) knows =
    still_knows own start ms (history.alien ∷ ms) k (alien_keeps own ms) (λ off. off) knows
comes_knows own start d ms _ _ _ _ k (drops_coin paying some) knows =
    still_knows own start ms (history.fall ∷ ms) k (fall_keeps own ms) (λ off. off) knows
comes_knows own start d ms _ _ _ _ k (drops_none paying none) knows =
    still_knows own start ms (history.fall ∷ ms) k (fall_keeps own ms) (λ off. off) knows
comes_knows own start d ms _ _ _ _ k (jams paying some) knows =
    still_knows own start ms (history.jam ∷ ms) k (jam_keeps own ms) (λ off. off) knows
comes_knows own start d ms _ _ _ _ k (jams_none paying none) knows =
    still_knows own start ms (history.jam ∷ ms) k (jam_keeps own ms) (λ off. off) knows
comes_knows own start d ms _ _ _ _ k is_reset knows =
    still_knows own start ms (history.reset ∷ ms) k (reset_keeps own ms) (λ off. refl) knows

seen_knows : (own start : ℕ) (d : DeviceSetup) (past : List Entry) (e : Entry) (k : KnownHopper) → Seen d past e →
    Knows own start (met d past) k → Knows own start (met d (e ∷ past)) k
seen_knows own start d past _ k (here s e m ls range at meets_are own_are) knows =
    subst (λ ms. Knows own start (ms ++ met d past) k) (sym meets_are)
    (comes_knows own start d (met d past) s e m ls k at knows)
seen_knows own start d past _ k (elsewhere e meets_are own_are) knows =
    subst (λ ms. Knows own start (ms ++ met d past) k) (sym meets_are) knows

-- ---- what a tap shows

-- what asks for no coin, and doesn't enable
abbrev Plain : Option Request → Type 0
Plain (Some (Dispense serial count)) = ⊥
Plain (Some (Enable code)) = (code == ENABLE_CODE) ≡ false
Plain q = ⊤

plain_none : (q : Option Request) → Plain q → AsksNone q
plain_none None plain = tt
plain_none (Some (Dispense serial count)) plain = plain
plain_none (Some q) plain = tt

plain_off : (ms : List Met) (q : Option Request) → Plain q → enabled ms ≡ false → enabled (heard q ∷ ms) ≡ false
plain_off ms None plain off = off
plain_off ms (Some (Dispense serial count)) plain off = absurd plain
plain_off ms (Some (Enable code)) plain off = plain
plain_off ms (Some ResetDevice) plain off = refl
plain_off ms (Some q) plain off = off

-- no premise is reported as broken, and what is known is so after it
record Fine (addr number own start : ℕ) (ns : List Met) (k : KnownHopper) (s : Deed) : Type 0 where
  silent : hopper_broken_by addr number s k ≡ []
  known : Knows own start ns (hopper_on number s k)

nothing_fine : (addr number own start : ℕ) (ns : List Met) (k : KnownHopper) → Knows own start ns k →
    Fine addr number own start ns k Nothing
nothing_fine addr number own start ns k knows = record {
  silent = refl;
  known = record {
    serial_is = knows.serial_is;
    shut_is = knows.shut_is;
    rest_is = knows.rest_is;
    life_is = knows.life_is;
    counter_is = knows.counter_is;
  };
}

-- a serial number
first_serial : (own number serial : ℕ) (found : Option KnownSerial) → serial ≡ own → IfSerial own found →
    IfSerial own (serial_first number serial found)
first_serial own number serial None told known = told
first_serial own number serial (Some k) told known = known

serial_silent : (addr number own serial : ℕ) (found : Option KnownSerial) → serial ≡ own → IfSerial own found →
    broken_serial addr number serial found ≡ []
serial_silent addr number own serial None told known = refl
serial_silent addr number own serial (Some k) told known =
    ap (λ b. cond b [] (Broken addr premise.Serial k.number number ∷ [])) (eq-eqb serial k.serial (told ∙ sym known))

serial_fine : (addr number own start : ℕ) (ns : List Met) (k : KnownHopper) (serial : ℕ) → serial ≡ own →
    Knows own start ns k → Fine addr number own start ns k (Serial serial)
serial_fine addr number own start ns k serial told knows = record {
  silent = serial_silent addr number own serial k.serial told knows.serial_is;
  known = record {
    serial_is = first_serial own number serial k.serial told knows.serial_is;
    shut_is = knows.shut_is;
    rest_is = knows.rest_is;
    life_is = knows.life_is;
    counter_is = knows.counter_is;
  };
}

-- it may pay, or it may not
enabled_fine : (addr number own start : ℕ) (ms ns : List Met) (k : KnownHopper) → Keeps own ms ns → Knows own start ms k →
    Fine addr number own start ns k Enabled
enabled_fine addr number own start ms ns k keeps knows = record {
  silent = refl;
  known = record {
    serial_is = knows.serial_is;
    shut_is = tt;
    rest_is = omega (arith, keeps.rest, knows.rest_is);
    life_is = still_counts own start ms ns k.life keeps knows.life_is;
    counter_is = still_tallies (payouts own ms) (payouts own ns) k.counter keeps.stays knows.counter_is;
  };
}

shut_fine : (addr number own start : ℕ) (ms ns : List Met) (k : KnownHopper) → Keeps own ms ns → enabled ns ≡ false →
    remaining own ns ≡ 0 → Knows own start ms k → Fine addr number own start ns k Shut
shut_fine addr number own start ms ns k keeps off none knows = record {
  silent = refl;
  known = record {
    serial_is = knows.serial_is;
    shut_is = off;
    rest_is = at_most (remaining own ns) 0 none;
    life_is = still_counts own start ms ns k.life keeps knows.life_is;
    counter_is = still_tallies (payouts own ms) (payouts own ns) k.counter keeps.stays knows.counter_is;
  };
}

-- an event counter of now
fresh_tallies : (number read taken now : ℕ) → read ≡ counter taken → (now ≡ taken) ⊎ (now ≡ 0) →
    Tallies now (counted_from number read)
fresh_tallies number read taken now told (inl same) = λ few. inr (record {
  base = taken;
  counter_is = told;
  least_is = omega (arith, same);
  most_is = omega (arith, same);
})
fresh_tallies number read taken now told (inr none) = λ few. inl (omega (arith, none))

reset_fine : (addr number own start : ℕ) (ms ns : List Met) (k : KnownHopper) → Keeps own ms ns → enabled ns ≡ false →
    remaining own ns ≡ 0 → payouts own ns ≡ 0 → Knows own start ms k → Fine addr number own start ns k ResetTaken
reset_fine addr number own start ms ns k keeps off none fresh knows = record {
  silent = refl;
  known = record {
    serial_is = knows.serial_is;
    shut_is = off;
    rest_is = at_most (remaining own ns) 0 none;
    life_is = still_counts own start ms ns k.life keeps knows.life_is;
    counter_is = λ few. inl (omega (arith, fresh));
  };
}

-- a payout
greater_left : (a b n : ℕ) → n ≤ a → n ≤ greater a b
greater_left a b n less = by_test (nat_le a b) refl
  where
    by_test : (test : Bool) → nat_le a b ≡ test → n ≤ cond test b a
    by_test true is = let most : a ≤ b = grind (arith, nat_tests) in omega (arith, less, most)
    by_test false is = less

greater_right : (a b n : ℕ) → n ≤ b → n ≤ greater a b
greater_right a b n less = by_test (nat_le a b) refl
  where
    by_test : (test : Bool) → nat_le a b ≡ test → n ≤ cond test b a
    by_test true is = less
    by_test false is = let most : b < a = grind (arith, nat_tests) in omega (arith, less, most)

greater_least : (a b n : ℕ) → a ≤ n → b ≤ n → greater a b ≤ n
greater_least a b n first second = by_test (nat_le a b)
  where
    by_test : (test : Bool) → cond test b a ≤ n
    by_test true = second
    by_test false = first

more_most : (most count base both : ℕ) → (most < 2 ^ 24 → both ≤ base + most + count) →
    more_coins most count < 2 ^ 24 → both ≤ base + more_coins most count
more_most most count base both fits = by_test (nat_le (2 ^ 24) most) refl
  where
    by_test : (test : Bool) → nat_le (2 ^ 24) most ≡ test → cond test most (most + count) < 2 ^ 24 →
        both ≤ base + cond test most (most + count)
    by_test true is few =
        let many : 2 ^ 24 ≤ most = grind (arith, nat_tests) in
        let below : most < 2 ^ 24 = few in
        absurd (omega (arith, many, below))
    by_test false is few =
        let below : most < 2 ^ 24 = grind (arith, nat_tests) in
        let all : both ≤ base + (most + count) = omega (arith, fits below) in
        all

-- a request for so many coins, heard or not: what the device hears of it, and what is left then
record Doses (own : ℕ) (ms ns : List Met) (count : ℕ) : Type 0 where
  rest : (remaining own ns ≤ remaining own ms) ⊎ (remaining own ns ≤ count)
  both : remaining own ns ≤ remaining own ms + count
  drops : dropped own ns ≡ dropped own ms
  paid : last_paid own ns ≤ last_paid own ms
  off : StaysOff ms ns
  steps : (payouts own ns ≡ payouts own ms) ⊎ (payouts own ns ≡ suc (payouts own ms))

-- what asks for so many coins at most, enables nothing and is no reset
abbrev AsksFor : ℕ → List Met → Option Request → Type 0
AsksFor count ms q = (dose_of q ≤ count) × StaysOff ms (heard q ∷ ms) × ((n : ℕ) → unless_reset q 0 n ≡ n)

taken_or_not : (took : Option ℕ) (q : Option Request) (n : ℕ) → unless_reset q 0 n ≡ n →
    (payouts_by took q n ≡ n) ⊎ (payouts_by took q n ≡ suc n)
taken_or_not None q n same = inl same
taken_or_not (Some count) q n same = inr refl

one_or_other : (own : ℕ) (ms : List Met) (q : Option Request) (count now : ℕ) → dose_of q ≤ count → LeftThen own ms q now →
    (now ≤ remaining own ms) ⊎ (now ≤ count)
one_or_other own ms q count now few (inl less) = inl less
one_or_other own ms q count now few (inr parts) = inr (omega (arith, few, parts.1))

doses_by : (own : ℕ) (ms : List Met) (q : Option Request) (count : ℕ) → AsksFor count ms q → Doses own ms (heard q ∷ ms) count
doses_by own ms q count asks =
    let left = left_after own ms q in
    let more : remaining own (heard q ∷ ms) ≤ remaining own ms + dose_of q = both_after own ms q _ left in
    record {
      rest = one_or_other own ms q count _ asks.0 left;
      both = omega (arith, more, asks.0);
      drops = refl;
      paid = paid_after own ms q;
      off = asks.1;
      steps = taken_or_not (taken_of own ms q) q (payouts own ms) (asks.2 (payouts own ms));
    }

-- one request more
more_requests : (m : ℕ) → one_more m < 255 → one_more m ≡ suc m
more_requests m few = by_test (m == 255) refl
  where
    by_test : (test : Bool) → (m == 255) ≡ test → cond test 255 (m + 1) ≡ suc m
    by_test true is = absurd (omega (arith, subst (λ b. cond b 255 (m + 1) < 255) is few))
    by_test false is = omega arith

one_least : (least base taken now : ℕ) → base + least ≤ taken → now ≡ suc taken → base + one_more least ≤ now
one_least least base taken now before next = by_test (least == 255) refl
  where
    by_test : (test : Bool) → (least == 255) ≡ test → base + cond test 255 (least + 1) ≤ now
    by_test true is = let full : least ≡ 255 = grind (arith, nat_tests) in omega (arith, before, next, full)
    by_test false is = omega (arith, before, next)

more_tallies : (taken now : ℕ) (took : Bool) (found : Option KnownCounter) → (now ≡ taken) ⊎ (now ≡ suc taken) →
    (took ≡ true → now ≡ suc taken) → IfTallies taken found → IfTallies now (request_since took found)
more_tallies taken now took None steps next tallies = tt
more_tallies taken now took (Some k) steps next tallies = λ few. by_before few (more_requests k.most few)
  where
    grown : (now ≡ taken) ⊎ (now ≡ suc taken) → taken ≤ now
    grown (inl same) = omega (arith, same)
    grown (inr more) = omega (arith, more)

    bounded : (now ≡ taken) ⊎ (now ≡ suc taken) → now ≤ suc taken
    bounded (inl same) = omega (arith, same)
    bounded (inr more) = omega (arith, more)

    least : (took : Bool) → (took ≡ true → now ≡ suc taken) → (base : ℕ) → base + k.least ≤ taken →
        base + cond took (one_more k.least) k.least ≤ now
    least true next base before = one_least k.least base taken now before (next refl)
    least false next base before = omega (arith, before, grown steps)

    by_case : one_more k.most ≡ suc k.most → (taken ≤ k.most) ⊎ Since taken k →
        (now ≤ one_more k.most) ⊎ Since now (record {
          number = k.number;
          counter = k.counter;
          least = cond took (one_more k.least) k.least;
          most = one_more k.most;
        })
    by_case one (inl few) = inl (omega (arith, few, one, bounded steps))
    by_case one (inr since) = inr (record {
      base = since.base;
      counter_is = since.counter_is;
      least_is = least took next since.base since.least_is;
      most_is = omega (arith, since.most_is, one, bounded steps);
    })

    by_before : one_more k.most < 255 → one_more k.most ≡ suc k.most →
        (now ≤ one_more k.most) ⊎ Since now (record {
          number = k.number;
          counter = k.counter;
          least = cond took (one_more k.least) k.least;
          most = one_more k.most;
        })
    by_before few one = by_case one (tallies (omega (arith, few, one)))

asked_counts : (own start : ℕ) (ms ns : List Met) (taken : Bool) (count : ℕ) (found : Option KnownLife) →
    Doses own ms ns count → (taken ≡ true → last_paid own ns ≡ 0) → IfCounts own start ms found →
    IfCounts own start ns (asked_since taken count found)
asked_counts own start ms ns taken count None doses fresh counts = tt
asked_counts own start ms ns taken count (Some k) doses fresh counts = record {
  base = counts.base;
  count_is = counts.count_is;
  least_is = omega (arith, counts.least_is, doses.drops);
  most_is = more_most k.most count counts.base (dropped own ns + remaining own ns)
      (λ few. omega (arith, counts.most_is few, doses.both, doses.drops));
  paid_is = by_test taken fresh;
}
  where
    by_test : (took : Bool) → (took ≡ true → last_paid own ns ≡ 0) → cond took true k.has_begun ≡ true →
        counts.base + last_paid own ns ≤ dropped own ns
    by_test true fresh begun = omega (arith, fresh refl, counts.least_is, doses.drops)
    by_test false fresh begun = omega (arith, counts.paid_is begun, doses.paid, doses.drops)

greater_rest : (own : ℕ) (ms ns : List Met) (rest count : ℕ) → remaining own ms ≤ rest →
    (remaining own ns ≤ remaining own ms) ⊎ (remaining own ns ≤ count) → remaining own ns ≤ greater rest count
greater_rest own ms ns rest count before (inl less) = greater_left rest count _ (omega (arith, before, less))
greater_rest own ms ns rest count before (inr less) = greater_right rest count _ less

asked_fine : (addr number own start : ℕ) (ms ns : List Met) (k : KnownHopper) (count : ℕ) → Doses own ms ns count →
    Knows own start ms k → Fine addr number own start ns k (Asked count)
asked_fine addr number own start ms ns k count doses knows = record {
  silent = refl;
  known = record {
    serial_is = knows.serial_is;
    shut_is = still_shut ms ns k.shut doses.off knows.shut_is;
    rest_is = greater_rest own ms ns k.rest count knows.rest_is doses.rest;
    life_is = asked_counts own start ms ns false count k.life doses (λ is. absurd cc) knows.life_is;
    counter_is = more_tallies (payouts own ms) (payouts own ns) false k.counter doses.steps (λ is. absurd cc) knows.counter_is;
  };
}

enable_silent : (addr number : ℕ) (ms : List Met) (found : Option ℕ) → enabled ms ≡ true → IfShut ms found →
    broken_enable addr number found ≡ []
enable_silent addr number ms None on shut = refl
enable_silent addr number ms (Some first) on shut = let clash : true ≡ false = sym on ∙ shut in absurd cc

dispensed_fine : (addr number own start : ℕ) (ms ns : List Met) (k : KnownHopper) (serial count : ℕ) →
    Doses own ms ns count → serial ≡ own → enabled ms ≡ true → remaining own ms ≡ 0 → last_paid own ns ≡ 0 →
    payouts own ns ≡ suc (payouts own ms) → Knows own start ms k → Fine addr number own start ns k (Dispensed serial count)
dispensed_fine addr number own start ms ns k serial count doses told on none fresh one knows = record {
  silent = ap₂ (λ xs ys. xs ++ ys) (serial_silent addr number own serial k.serial told knows.serial_is)
      (enable_silent addr number ms k.shut on knows.shut_is);
  known = record {
    serial_is = first_serial own number serial k.serial told knows.serial_is;
    shut_is = still_shut ms ns k.shut doses.off knows.shut_is;
    rest_is = omega (arith, doses.both, none);
    life_is = asked_counts own start ms ns true count k.life doses (λ is. fresh) knows.life_is;
    counter_is = more_tallies (payouts own ms) (payouts own ns) true k.counter doses.steps (λ is. one) knows.counter_is;
  };
}

-- how it goes
told_least : (begun : Bool) (paid least base drops : ℕ) → base + least ≤ drops → (begun ≡ true → base + paid ≤ drops) →
    base + least_of begun paid least ≤ drops
told_least false paid least base drops before told = before
told_least true paid least base drops before told =
    let room : least ≤ drops - base = omega (arith, before) in
    let more : paid ≤ drops - base = omega (arith, told refl) in
    omega (arith, before, greater_least least paid (drops - base) room more)

paid_counts : (own start : ℕ) (ms ns : List Met) (paid : ℕ) (found : Option KnownLife) → Keeps own ms ns →
    paid ≡ last_paid own ms → IfCounts own start ms found → IfCounts own start ns (paid_since paid found)
paid_counts own start ms ns paid None keeps told counts = tt
paid_counts own start ms ns paid (Some k) keeps told counts = record {
  base = counts.base;
  count_is = counts.count_is;
  least_is = told_least k.has_begun paid k.least counts.base (dropped own ns)
      (omega (arith, counts.least_is, keeps.grows))
      (λ begun. omega (arith, counts.paid_is begun, told, keeps.grows));
  most_is = λ few. omega (arith, counts.most_is few, keeps.both);
  paid_is = λ begun. omega (arith, counts.paid_is begun, keeps.grows, keeps.paid);
}

-- an event counter fits what came since
counter_few : (n : ℕ) → counter n ≤ n
counter_few zero = omega arith
counter_few (suc n) = grind (arith, nat_tests)

counter_most : (n : ℕ) → counter n ≤ 255
counter_most zero = omega arith
counter_most (suc n) = grind (arith, nat_tests)

le_test : (m n : ℕ) → m ≤ n → nat_le m n ≡ true
le_test m n less = grind (arith, nat_tests)

fits_reset : (read : ℕ) (k : KnownCounter) → read ≤ k.most → counter_fits read k ≡ true
fits_reset read k few =
    ap (λ b. b || (nat_le k.least (distance k.counter read) && nat_le (distance k.counter read) k.most))
    (le_test read k.most few)

fits_since : (read : ℕ) (k : KnownCounter) → k.least ≤ distance k.counter read → distance k.counter read ≤ k.most →
    counter_fits read k ≡ true
fits_since read k least most =
    ap₂ (λ a b. nat_le read k.most || (a && b)) (le_test k.least (distance k.counter read) least)
    (le_test (distance k.counter read) k.most most)
    ∙ or-true (nat_le read k.most)

since_fits : (read taken : ℕ) (k : KnownCounter) → read ≡ counter taken → k.most < 255 → Since taken k →
    counter_fits read k ≡ true
since_fits read taken k told few since =
    let came : ℕ = taken - since.base in
    let whole : came + since.base ≡ taken = omega (arith, since.least_is) in
    let near : came < 255 = omega (arith, few, since.most_is) in
    let rise : distance k.counter read ≡ came =
    ap₂ distance since.counter_is (told ∙ ap counter (sym whole)) ∙ distance_near came since.base near in
    fits_since read k (omega (arith, rise, since.least_is)) (omega (arith, rise, since.most_is))

counter_silent : (addr number read taken : ℕ) (found : Option KnownCounter) → read ≡ counter taken → IfTallies taken found →
    broken_counter addr number read found ≡ []
counter_silent addr number read taken None told tallies = refl
counter_silent addr number read taken (Some k) told tallies =
    ap (λ b. cond b [] (Broken addr premise.Counter k.number number ∷ [])) (by_test (nat_le 255 k.most) refl)
  where
    by_case : k.most < 255 → (taken ≤ k.most) ⊎ Since taken k → counter_fits read k ≡ true
    by_case few (inl less) = fits_reset read k (omega (arith, told, counter_few taken, less))
    by_case few (inr since) = since_fits read taken k told few since

    by_test : (test : Bool) → nat_le 255 k.most ≡ test → counter_fits read k ≡ true
    by_test true is =
        let many : 255 ≤ k.most = grind (arith, nat_tests) in
        fits_reset read k (omega (arith, told, counter_most taken, many))
    by_test false is =
        let few : k.most < 255 = grind (arith, nat_tests) in
        by_case few (tallies few)

status_fine : (addr number own start : ℕ) (ms ns : List Met) (k : KnownHopper) (read left paid : ℕ) → Keeps own ms ns →
    StaysOff ms ns → read ≡ counter (payouts own ms) → left ≡ remaining own ms → paid ≡ last_paid own ms →
    Knows own start ms k → Fine addr number own start ns k (Status read left paid)
status_fine addr number own start ms ns k read left paid keeps off counted rest told knows = record {
  silent = counter_silent addr number read (payouts own ms) k.counter counted knows.counter_is;
  known = record {
    serial_is = knows.serial_is;
    shut_is = still_shut ms ns k.shut off knows.shut_is;
    rest_is = omega (arith, keeps.rest, rest);
    life_is = paid_counts own start ms ns paid k.life keeps told knows.life_is;
    counter_is = fresh_tallies number read (payouts own ms) (payouts own ns) counted keeps.stays;
  };
}

-- a life count
fits_both : (rise : ℕ) (k : KnownLife) → rise ≤ k.most → k.least ≤ rise → rise_fits rise k ≡ true
fits_both rise k most least =
    ap₂ (λ a b. a && b) (le_test rise k.most most) (le_test k.least rise least)

life_silent : (addr number own start : ℕ) (ms : List Met) (count : ℕ) (found : Option KnownLife) →
    count ≡ (start + dropped own ms) % 2 ^ 24 → IfCounts own start ms found → broken_life addr number count found ≡ []
life_silent addr number own start ms count None told counts = refl
life_silent addr number own start ms count (Some k) told counts = by_test (nat_le (2 ^ 24) k.most) refl
  where
    fits : k.most < 2 ^ 24 → rise_fits (life_between k.count count) k ≡ true
    fits few =
        let first : counts.base ≤ dropped own ms = omega (arith, counts.least_is) in
        let both : dropped own ms + remaining own ms ≤ counts.base + k.most = counts.most_is few in
        let near : dropped own ms < counts.base + 2 ^ 24 = omega (arith, both, few) in
        let exact : dropped own ms ≡ life_between k.count count + counts.base =
        since_exact start counts.base (dropped own ms) k.count count counts.count_is told first near in
        fits_both (life_between k.count count) k (omega (arith, exact, both)) (omega (arith, exact, counts.least_is))

    by_test : (test : Bool) → nat_le (2 ^ 24) k.most ≡ test →
        cond test [] (cond (rise_fits (life_between k.count count) k) [] (Broken addr premise.Life k.number number ∷ [])) ≡ []
    by_test true is = refl
    by_test false is =
        let few : k.most < 2 ^ 24 = grind (arith, nat_tests) in
        ap (λ b. cond b [] (Broken addr premise.Life k.number number ∷ [])) (fits few)

life_fine : (addr number own start : ℕ) (ms ns : List Met) (k : KnownHopper) (count : ℕ) → Keeps own ms ns → StaysOff ms ns →
    count ≡ (start + dropped own ms) % 2 ^ 24 → Knows own start ms k → Fine addr number own start ns k (Life count)
life_fine addr number own start ms ns k count keeps off told knows = record {
  silent = life_silent addr number own start ms count k.life told knows.life_is;
  known = record {
    serial_is = knows.serial_is;
    shut_is = still_shut ms ns k.shut off knows.shut_is;
    rest_is = omega (arith, keeps.rest, knows.rest_is);
    life_is = record {
      base = dropped own ms;
      count_is = told;
      least_is = omega (arith, keeps.grows);
      most_is = λ few. omega (arith, keeps.both, knows.rest_is);
      paid_is = λ begun. absurd cc;
    };
    counter_is = still_tallies (payouts own ms) (payouts own ns) k.counter keeps.stays knows.counter_is;
  };
}

-- one tap, by what was asked, and by what was replied in a form
module _ (setup : Setup) (d : DeviceSetup) (sound : IsSoundSetup setup) (own : IsOf setup d) (paying : IsHopper d.body)
    (past : List Entry) (sent : List ℕ) (honest : IsHonestFault (pending past) sent) (number : ℕ) (k : KnownHopper)
    (before : Knows d.serial (start_of d.body) (met d past) k) where
  abbrev hears : Option Request
  hears = asks_of d (heard_by_devices (pending past) sent)

  abbrev replied : ReplyForm → Option Reply
  replied wanted = got d.kind d.addr wanted sent (heard_after setup past sent)

  abbrev IsFine : Deed → Type 0
  IsFine s = Fine d.addr number d.serial (start_of d.body) (heard hears ∷ met d past) k s

  keeps_it : Plain (asks_at d.kind d.addr sent) → Keeps d.serial (met d past) (heard hears ∷ met d past)
  keeps_it plain =
      heard_keeps d.serial (met d past) hears (plain_none hears (asked_or_none d past sent honest Plain tt plain))

  off_still : Plain (asks_at d.kind d.addr sent) → StaysOff (met d past) (heard hears ∷ met d past)
  off_still plain = plain_off (met d past) hears (asked_or_none d past sent honest Plain tt plain)

  knows_still : Plain (asks_at d.kind d.addr sent) → Knows d.serial (start_of d.body) (heard hears ∷ met d past) k
  knows_still plain =
      still_knows d.serial (start_of d.body) (met d past) (heard hears ∷ met d past) k (keeps_it plain) (off_still plain) before

  still_fine : Plain (asks_at d.kind d.addr sent) → IsFine Nothing
  still_fine plain =
      nothing_fine d.addr number d.serial (start_of d.body) (heard hears ∷ met d past) k (knows_still plain)

  serial_is : (y : Option Reply) → Plain (asks_at d.kind d.addr sent) →
      ((serial : ℕ) → y ≡ Some (reply.serial serial) → serial ≡ d.serial) → IsFine (serial_deed y)
  serial_is None plain told = still_fine plain
  serial_is (Some (reply.serial serial)) plain told =
      serial_fine d.addr number d.serial (start_of d.body) (heard hears ∷ met d past) k serial (told serial refl)
      (knows_still plain)
  serial_is (Some y) plain told = still_fine plain

  status_is : (y : Option Reply) → Plain (asks_at d.kind d.addr sent) →
      ((e r p u : ℕ) → y ≡ Some (reply.status e r p u) →
      (e ≡ counter (payouts d.serial (met d past))) × (r ≡ remaining d.serial (met d past))
      × (p ≡ last_paid d.serial (met d past))) → IsFine (status_deed y)
  status_is None plain told = still_fine plain
  status_is (Some (reply.status e r p u)) plain told =
      status_fine d.addr number d.serial (start_of d.body) (met d past) (heard hears ∷ met d past) k e r p (keeps_it plain)
      (off_still plain) (told e r p u refl).0 (told e r p u refl).1 (told e r p u refl).2 before
  status_is (Some y) plain told = still_fine plain

  life_is : (y : Option Reply) → Plain (asks_at d.kind d.addr sent) →
      ((count : ℕ) → y ≡ Some (reply.life count) → count ≡ (start_of d.body + dropped d.serial (met d past)) % 2 ^ 24) →
      IsFine (life_deed y)
  life_is None plain told = still_fine plain
  life_is (Some (reply.life count)) plain told =
      life_fine d.addr number d.serial (start_of d.body) (met d past) (heard hears ∷ met d past) k count (keeps_it plain)
      (off_still plain) (told count refl) before
  life_is (Some y) plain told = still_fine plain

  -- what ends all payouts, where it is acknowledged
  shut_is : (q : Request) (y : Option Reply) → Plain (asks_at d.kind d.addr sent) →
      ((ms : List Met) → enabled (heard (Some q) ∷ ms) ≡ false) →
      ((ms : List Met) → remaining d.serial (heard (Some q) ∷ ms) ≡ 0) →
      (y ≡ Some reply.ack → hears ≡ Some q) → IsFine (if_done y Shut Nothing)
  shut_is q None plain off none told = still_fine plain
  shut_is q (Some reply.ack) plain off none told =
      shut_fine d.addr number d.serial (start_of d.body) (met d past) (heard hears ∷ met d past) k (keeps_it plain)
      (ap (λ x. enabled (heard x ∷ met d past)) (told refl) ∙ off (met d past))
      (ap (λ x. remaining d.serial (heard x ∷ met d past)) (told refl) ∙ none (met d past)) before
  shut_is q (Some y) plain off none told = still_fine plain

  reset_is : (y : Option Reply) → Plain (asks_at d.kind d.addr sent) → (y ≡ Some reply.ack → hears ≡ Some ResetDevice) →
      IsFine (if_done y ResetTaken Nothing)
  reset_is None plain told = still_fine plain
  reset_is (Some reply.ack) plain told =
      reset_fine d.addr number d.serial (start_of d.body) (met d past) (heard hears ∷ met d past) k (keeps_it plain)
      (ap (λ x. enabled (heard x ∷ met d past)) (told refl))
      (ap (λ x. remaining d.serial (heard x ∷ met d past)) (told refl))
      (ap (λ x. payouts d.serial (heard x ∷ met d past)) (told refl)) before
  reset_is (Some y) plain told = still_fine plain

  -- a request that enables
  enabled_is : (code : ℕ) → asks_at d.kind d.addr sent ≡ Some (Enable code) → IsFine Enabled
  enabled_is code asks =
      enabled_fine d.addr number d.serial (start_of d.body) (met d past) (heard hears ∷ met d past) k
      (heard_keeps d.serial (met d past) hears
      (asked_or_none d past sent honest AsksNone tt (subst AsksNone (sym asks) tt))) before

  none_left : (code : ℕ) → (code == ENABLE_CODE) ≡ false → (ms : List Met) →
      remaining d.serial (heard (Some (Enable code)) ∷ ms) ≡ 0
  none_left code other ms =
      remaining_heard d.serial (Some (Enable code)) ms
      ∙ ap (λ b. cond (not b) 0 (remaining d.serial ms)) other

  enable_is : (code : ℕ) (test : Bool) → (code == ENABLE_CODE) ≡ test → asks_at d.kind d.addr sent ≡ Some (Enable code) →
      IsFine (cond test Enabled (if_done (replied form.Ack) Shut Nothing))
  enable_is code true is asks = enabled_is code asks
  enable_is code false is asks =
      shut_is (Enable code) (replied form.Ack) (subst Plain (sym asks) is) (λ ms. is) (none_left code is)
      (λ found. acked setup d past sent (Enable code) sound own honest (λ e. cc) asks
      (enable_replied d (met d past) code paying) found)

  -- a dispense request
  doses_it : (serial count : ℕ) → asks_at d.kind d.addr sent ≡ Some (Dispense serial count) →
      Doses d.serial (met d past) (heard hears ∷ met d past) count
  doses_it serial count asks =
      doses_by d.serial (met d past) hears count
      (asked_or_none d past sent honest (AsksFor count (met d past)) (omega arith, λ off. off, λ n. refl)
      (subst (AsksFor count (met d past)) (sym asks) (le_refl count, λ off. off, λ n. refl)))

  taken_fine : (serial count took : ℕ) → asks_at d.kind d.addr sent ≡ Some (Dispense serial count) →
      taken_of d.serial (met d past) (Some (Dispense serial count)) ≡ Some took → hears ≡ Some (Dispense serial count) →
      IsFine (Dispensed serial count)
  taken_fine serial count took asks is heard_it =
      let taken = taken_when d.serial (met d past) (Some (Dispense serial count)) took is in
      let same : serial ≡ d.serial = same_asked serial count d.serial took taken.asks in
      let fresh : last_paid d.serial (heard hears ∷ met d past) ≡ 0 =
      ap (λ x. last_paid d.serial (heard x ∷ met d past)) heard_it
      ∙ ap (λ (s : Shown). s.paid) (shown_heard d.serial (Some (Dispense serial count)) (met d past))
      ∙ ap (λ t. (after_heard t (Some (Dispense serial count)) (shown d.serial (met d past))).paid) is in
      let one : payouts d.serial (heard hears ∷ met d past) ≡ suc (payouts d.serial (met d past)) =
      ap (λ x. payouts d.serial (heard x ∷ met d past)) heard_it
      ∙ ap (λ t. payouts_by t (Some (Dispense serial count)) (payouts d.serial (met d past))) is in
      dispensed_fine d.addr number d.serial (start_of d.body) (met d past) (heard hears ∷ met d past) k serial count
      (doses_it serial count asks) same taken.on taken.rest fresh one before
    where
      same_asked : (s c o t : ℕ) → Some (Dispense s c) ≡ Some (Dispense o t) → s ≡ o
      same_asked s c o t e = cc

  dispense_is : (serial count : ℕ) (y : Option Reply) → replied form.Ack ≡ y →
      asks_at d.kind d.addr sent ≡ Some (Dispense serial count) → IsFine (if_done y (Dispensed serial count) (Asked count))
  dispense_is serial count None is asks =
      asked_fine d.addr number d.serial (start_of d.body) (met d past) (heard hears ∷ met d past) k count
      (doses_it serial count asks) before
  dispense_is serial count (Some reply.ack) is asks =
      by_taken (taken_of d.serial (met d past) (Some (Dispense serial count))) refl
    where
      by_taken : (took : Option ℕ) → taken_of d.serial (met d past) (Some (Dispense serial count)) ≡ took →
          IsFine (Dispensed serial count)
      by_taken None none =
          absurd (refused setup d past sent (Dispense serial count) reply.ack form.Ack sound own honest (λ e. cc) asks
          (dispense_replied d (met d past) serial count paying ∙ ap (λ t. Some (dispense_reply t)) none) is)
      by_taken (Some took) some =
          taken_fine serial count took asks some
          (acked setup d past sent (Dispense serial count) sound own honest (λ e. cc) asks
          (dispense_replied d (met d past) serial count paying ∙ ap (λ t. Some (dispense_reply t)) some) is)
  dispense_is serial count (Some y) is asks =
      asked_fine d.addr number d.serial (start_of d.body) (met d past) (heard hears ∷ met d past) k count
      (doses_it serial count asks) before

  deed_fine : (asked : Option Request) → asks_at d.kind d.addr sent ≡ asked → IsFine (deed_by asked replied)
  deed_fine None asks = still_fine (subst Plain (sym asks) tt)
  deed_fine (Some SerialNumber) asks =
      serial_is (replied form.Serial) (subst Plain (sym asks) tt)
      (λ serial found. told_serial setup d past sent serial sound own honest asks found)
  deed_fine (Some (Enable code)) asks = enable_is code (code == ENABLE_CODE) refl asks
  deed_fine (Some (Dispense serial count)) asks = dispense_is serial count (replied form.Ack) refl asks
  deed_fine (Some GetStatus) asks =
      status_is (replied form.Status) (subst Plain (sym asks) tt)
      (λ e r p u found. told_status setup d past sent e r p u sound own paying honest asks found)
  deed_fine (Some GetLife) asks =
      life_is (replied form.Life) (subst Plain (sym asks) tt)
      (λ count found. told_life setup d past sent count sound own paying honest
      (ap (λ q. life_by q replied) asks ∙ ap life_in found))
  deed_fine (Some ResetDevice) asks =
      reset_is (replied form.Ack) (subst Plain (sym asks) tt)
      (λ found. acked setup d past sent ResetDevice sound own honest (λ e. cc) asks (reset_replied d (met d past)) found)
  deed_fine (Some q) asks = still_fine (subst Plain (sym asks) tt)

-- ---- all taps

abbrev pub deeds : DeviceSetup → List Entry → List Deed
deeds d past = map (deed d.kind d.addr) (taps past)

-- all that is reported as broken at taps that showed this, newest first
abbrev pub all_wrong : ℕ → List Deed → List Said
all_wrong addr [] = []
all_wrong addr (s ∷ past) = all_wrong addr past ++ hopper_broken_at addr s past

-- what is known is so, and nothing was reported as broken
abbrev Shows : DeviceSetup → List Met → List Tap → Type 0
Shows d ms ts =
    Knows d.serial (start_of d.body) ms (hopper_after (map (deed d.kind d.addr) ts))
    × (all_wrong d.addr (map (deed d.kind d.addr) ts) ≡ [])

module _ (setup : Setup) (d : DeviceSetup) (sound : IsSoundSetup setup) (own_one : IsOf setup d)
    (paying : IsHopper d.body) where
  one_fine : (past : List Entry) (e : Entry) → Wild setup past e → HonestPast (e ∷ past) →
      Shows d (met d past) (taps past) → Shows d (met d (e ∷ past)) (taps (e ∷ past))
  one_fine past _ (comes other s e m ls own_other range at) honest fine =
      no_tap other (met other past) s e m ls past (λ moments ts. Shows d (met d (e ∷ past)) ts) at (
        seen_knows d.serial (start_of d.body) d past e (hopper_after (deeds d past))
            (comes_to setup d other past s e m ls own_one own_other range at) fine.0,
        fine.1,
      )
  one_fine past _ (faults f) honest fine = fine
  one_fine past _ (takes c) honest fine = fine
  one_fine past _ (sends addr sent) honest fine =
      let is = deed_fine setup d sound own_one paying past sent honest.0 (suc (length (deeds d past)))
      (hopper_after (deeds d past)) fine.0 (asks_at d.kind d.addr sent) refl in
      let same : deed d.kind d.addr (tap_of sent (heard_after setup past sent))
      ≡ deed_by (asks_at d.kind d.addr sent) (λ form. got d.kind d.addr form sent (heard_after setup past sent)) =
      ap (λ b. cond b OtherAnswers
      (deed_by (asks_at d.kind d.addr sent) (λ form. got d.kind d.addr form sent (heard_after setup past sent))))
      (none_other setup d past sent sound own_one honest.0) in
      let so = subst (Fine d.addr (suc (length (deeds d past))) d.serial (start_of d.body)
      (heard (asks_of d (heard_by_devices (pending past) sent)) ∷ met d past) (hopper_after (deeds d past)))
      (sym same) is in
      (so.known, ap₂ (λ xs ys. xs ++ ys) fine.1 so.silent)

  all_fine : (past : List Entry) → AllWild setup past → HonestPast past → Shows d (met d past) (taps past)
  all_fine [] all honest = (record { serial_is = tt; shut_is = tt; rest_is = omega arith; life_is = tt; counter_is = tt }, refl)
  all_fine (e ∷ past) all honest = one_fine past e all.0 honest (all_fine past all.1 honest.1)

pub none_wrong : (setup : Setup) (steps : List WildStep) (past : List Entry) (d : DeviceSetup) →
    IsSoundSetup setup → IsOf setup d → IsHopper d.body → WildFrom setup [] steps past → HonestPast past →
    all_wrong d.addr (deeds d past) ≡ []
none_wrong setup steps past d sound own_one paying goes honest =
    (all_fine setup d sound own_one paying past (wild_all setup steps [] past goes tt) honest).1
