-- A hopper one step on, over any past: what is read of its last payout, and each thing that it may meet while it pays,
-- while it is idle and while it is off.
use Rattle.std.proofs.Common.{◌≡◌, ◌≢◌, ℕ, suc, ◌+◌, ◌-◌, ◌/◌, ◌%◌, ◌^◌, ◌<◌, ◌==◌, ◌&&◌, ◌||◌, not, Bool, true, false, cond, List, [], ◌∷◌, if◌then◌else◌, Option, Some, None, refl, ap, sym, ◌∙◌, arith, eq-eqb}
use Rattle.std.specs.Bool.{⊤}
use Rattle.std.proofs.lemmas.Bool.{eqb-true, ne_eqb}
use Rattle.std.proofs.lemmas.Bool.Decides.{nat_tests}
use Rattle.cct_model_wire.specs.declared.request.TheConstants.{ENABLE_CODE}
use Rattle.cct_model_wire.specs.declared.request.Request.{Request}
use Rattle.cct_model_wire.specs.declared.request.Request.TheVariants.{ResetDevice, Enable, Dispense, StopNow, TestHopper}
use Rattle.cct_model_wire.specs.Reply as reply
use Rattle.cct_model_wire.specs.History.{Met, coin, alien, fall, jam, reset, heard, unless_reset}
use Rattle.cct_model_wire.specs.Acceptor.{counter}
use Rattle.cct_model_wire.specs.Hopper.{enabled_by, enabled, Payout, stops, is_broken, falls, left_of, paid_of, unpaid_of, jammed_in, left, paid, unpaid, jammed, with_met, payout_by, payout, remaining, taken_of, last_paid, last_unpaid, has_timeout, payouts, is_tested, dropped, life_count, register_of, hopper_reply}

-- what is read of the last payout: how many coins are left to fall, were paid and stayed unpaid, and whether a jam
-- ended it
pub record Shown : Type 0 where
  pub remains : ℕ
  pub paid : ℕ
  pub unpaid : ℕ
  pub timeout : Bool

abbrev pub show : ℕ → ℕ → ℕ → Bool → Shown
show remains paid unpaid timeout = record { remains = remains; paid = paid; unpaid = unpaid; timeout = timeout }

abbrev pub shown_in : Option Payout → Shown
shown_in last = show (left last) (paid last) (unpaid last) (jammed last)

abbrev pub shown : ℕ → List Met → Shown
shown own past = show (remaining own past) (last_paid own past) (last_unpaid own past) (has_timeout own past)

-- one of the coins left was paid
abbrev pub with_paid : Shown → Shown
with_paid s = show (s.remains - 1) (suc s.paid) s.unpaid s.timeout

-- all that was left stays unpaid, after a jam or not
abbrev pub with_unpaid : Bool → Shown → Shown
with_unpaid timeout s = show 0 s.paid s.remains timeout

-- what is read after a fall
abbrev pub after_fall : Shown → Shown
after_fall s = if s.remains == 0 then s else with_paid s

-- what is read after a jam, or after what was heard ended the payout
abbrev pub after_end : Bool → Shown → Shown
after_end by_jam s = if s.remains == 0 then s else with_unpaid (by_jam || s.timeout) s

-- what is read after bytes were heard
abbrev pub after_heard : Option ℕ → Option Request → Shown → Shown
after_heard (Some count) asked s = show count 0 0 false
after_heard None asked s = unless_reset asked (show 0 0 0 false) (if stops asked then after_end false s else s)

-- one step on, by whether the payout is broken and has no coin left
fall_by : (broken none : Bool) (count fallen paid unpaid : ℕ) (timeout : Bool) →
    (cond broken 0 (count - fallen) == 0) ≡ none →
    show (cond broken 0 (count - suc fallen)) (cond none paid (suc paid)) unpaid timeout
    ≡ cond none (show (cond broken 0 (count - fallen)) paid unpaid timeout)
    (show (cond broken 0 (count - fallen) - 1) (suc paid) unpaid timeout)
fall_by true true count fallen paid unpaid timeout test = refl
fall_by true false count fallen paid unpaid timeout test = absurd cc
fall_by false true count fallen paid unpaid timeout test =
    let none : count - fallen ≡ 0 = eqb-true _ _ test in
    let less : count - suc fallen ≡ count - fallen = omega arith in
    ap (λ n. show n paid unpaid timeout) less
fall_by false false count fallen paid unpaid timeout test =
    let less : count - suc fallen ≡ count - fallen - 1 = omega arith in
    ap (λ n. show n (suc paid) unpaid timeout) less

fall_in : (last : Option Payout) → shown_in (with_met fall last) ≡ after_fall (shown_in last)
fall_in None = refl
fall_in (Some last) =
    fall_by (is_broken last.since) (left_of last.count last.since == 0) last.count (falls last.since)
    (paid_of last.count last.since) (unpaid_of last.count last.since) (jammed_in last.count last.since) refl

jam_by : (none : Bool) (remains paid unpaid : ℕ) (timeout : Bool) → (remains == 0) ≡ none →
    show 0 paid (cond (not none) remains unpaid) (not none || timeout)
    ≡ cond none (show remains paid unpaid timeout) (show 0 paid remains true)
jam_by true remains paid unpaid timeout test =
    let none : remains ≡ 0 = eqb-true _ _ test in
    rw none refl
jam_by false remains paid unpaid timeout test = refl

jam_in : (last : Option Payout) → shown_in (with_met jam last) ≡ after_end true (shown_in last)
jam_in None = refl
jam_in (Some last) =
    jam_by (left_of last.count last.since == 0) (left_of last.count last.since) (paid_of last.count last.since)
    (unpaid_of last.count last.since) (jammed_in last.count last.since) refl

stop_by : (none stop broken : Bool) (count fallen paid unpaid : ℕ) (timeout : Bool) →
    (cond broken 0 (count - fallen) == 0) ≡ none →
    show (cond (stop || broken) 0 (count - fallen)) paid
    (cond (stop && not none) (cond broken 0 (count - fallen)) unpaid) timeout
    ≡ cond stop (cond none (show (cond broken 0 (count - fallen)) paid unpaid timeout)
    (show 0 paid (cond broken 0 (count - fallen)) timeout))
    (show (cond broken 0 (count - fallen)) paid unpaid timeout)
stop_by none false broken count fallen paid unpaid timeout test = refl
stop_by true true broken count fallen paid unpaid timeout test =
    let over : cond broken 0 (count - fallen) ≡ 0 = eqb-true _ _ test in
    ap (λ n. show n paid unpaid timeout) (sym over)
stop_by false true broken count fallen paid unpaid timeout test = refl

heard_in : (asked : Option Request) (last : Option Payout) →
    shown_in (with_met (heard asked) last) ≡ cond (stops asked) (after_end false (shown_in last)) (shown_in last)
heard_in asked None = no_payout (stops asked)
  where
    no_payout : (stop : Bool) → show 0 0 0 false ≡ cond stop (show 0 0 0 false) (show 0 0 0 false)
    no_payout true = refl
    no_payout false = refl
heard_in asked (Some last) =
    stop_by (left_of last.count last.since == 0) (stops asked) (is_broken last.since) last.count (falls last.since)
    (paid_of last.count last.since) (unpaid_of last.count last.since) (jammed_in last.count last.since) refl

taken_in : (took : Option ℕ) (asked : Option Request) (last : Option Payout) →
    shown_in (payout_by took asked last) ≡ after_heard took asked (shown_in last)
taken_in (Some count) asked last =
    let whole : count - 0 ≡ count = omega arith in
    ap (λ n. show n 0 0 false) whole
taken_in None None last = heard_in None last
taken_in None (Some ResetDevice) last = refl
taken_in None (Some q) last = heard_in (Some q) last

aside_in : (last : Option Payout) →
    (shown_in (with_met alien last) ≡ shown_in last)
    × ((place : ℕ) → shown_in (with_met (coin place) last) ≡ shown_in last)
aside_in None = (refl, λ place. refl)
aside_in (Some last) = (refl, λ place. refl)

-- what is read of the last payout, one step on
pub shown_coin : (own place : ℕ) (past : List Met) → shown own (coin place ∷ past) ≡ shown own past
shown_coin own place past = (aside_in (payout own past)).1 place

pub shown_alien : (own : ℕ) (past : List Met) → shown own (alien ∷ past) ≡ shown own past
shown_alien own past = (aside_in (payout own past)).0

pub shown_fall : (own : ℕ) (past : List Met) → shown own (fall ∷ past) ≡ after_fall (shown own past)
shown_fall own past = fall_in (payout own past)

pub shown_jam : (own : ℕ) (past : List Met) → shown own (jam ∷ past) ≡ after_end true (shown own past)
shown_jam own past = jam_in (payout own past)

pub shown_heard : (own : ℕ) (asked : Option Request) (past : List Met) →
    shown own (heard asked ∷ past) ≡ after_heard (taken_of own past asked) asked (shown own past)
shown_heard own asked past = taken_in (taken_of own past asked) asked (payout own past)

-- how many coins remain, one step on
pub remaining_coin : (own place : ℕ) (past : List Met) → remaining own (coin place ∷ past) ≡ remaining own past
remaining_coin own place past = ap (λ s. s.remains) (shown_coin own place past)

pub remaining_alien : (own : ℕ) (past : List Met) → remaining own (alien ∷ past) ≡ remaining own past
remaining_alien own past = ap (λ s. s.remains) (shown_alien own past)

less_one : (none : Bool) (remains paid unpaid : ℕ) (timeout : Bool) → (remains == 0) ≡ none →
    (cond none (show remains paid unpaid timeout) (show (remains - 1) (suc paid) unpaid timeout)).remains ≡ remains - 1
less_one true remains paid unpaid timeout test =
    let none : remains ≡ 0 = eqb-true _ _ test in
    omega arith
less_one false remains paid unpaid timeout test = refl

pub remaining_fall : (own : ℕ) (past : List Met) → remaining own (fall ∷ past) ≡ remaining own past - 1
remaining_fall own past =
    ap (λ s. s.remains) (shown_fall own past)
    ∙ less_one (remaining own past == 0) (remaining own past) (last_paid own past) (last_unpaid own past)
    (has_timeout own past) refl

ended_left : (none by_jam : Bool) (remains paid unpaid : ℕ) (timeout : Bool) → (remains == 0) ≡ none →
    (cond none (show remains paid unpaid timeout) (show 0 paid remains (by_jam || timeout))).remains ≡ 0
ended_left true by_jam remains paid unpaid timeout test = eqb-true _ _ test
ended_left false by_jam remains paid unpaid timeout test = refl

pub remaining_jam : (own : ℕ) (past : List Met) → remaining own (jam ∷ past) ≡ 0
remaining_jam own past =
    ap (λ s. s.remains) (shown_jam own past)
    ∙ ended_left (remaining own past == 0) true (remaining own past) (last_paid own past) (last_unpaid own past)
    (has_timeout own past) refl

pub remaining_reset : (own : ℕ) (past : List Met) → remaining own (reset ∷ past) ≡ 0
remaining_reset own past = refl

-- how many remain after bytes were heard
abbrev pub left_heard : Option ℕ → Option Request → ℕ → ℕ
left_heard (Some count) asked before = count
left_heard None asked before = unless_reset asked 0 (if stops asked then 0 else before)

left_by : (stop : Bool) (s : Shown) → (cond stop (after_end false s) s).remains ≡ cond stop 0 s.remains
left_by true s = ended_left (s.remains == 0) false s.remains s.paid s.unpaid s.timeout refl
left_by false s = refl

heard_left : (took : Option ℕ) (asked : Option Request) (s : Shown) →
    (after_heard took asked s).remains ≡ left_heard took asked s.remains
heard_left (Some count) asked s = refl
heard_left None None s = left_by (stops None) s
heard_left None (Some ResetDevice) s = refl
heard_left None (Some q) s = left_by (stops (Some q)) s

pub remaining_heard : (own : ℕ) (asked : Option Request) (past : List Met) →
    remaining own (heard asked ∷ past) ≡ left_heard (taken_of own past asked) asked (remaining own past)
remaining_heard own asked past =
    ap (λ s. s.remains) (shown_heard own asked past) ∙ heard_left (taken_of own past asked) asked (shown own past)

-- a dispense request is taken for its count exactly where the hopper may pay and has nothing left, and the request has
-- its serial number and a count that isn't 0
pub record IsTaken (own : ℕ) (past : List Met) (asked : Option Request) (count : ℕ) : Type 0 where
  pub on : enabled past ≡ true
  pub rest : remaining own past ≡ 0
  pub asks : asked ≡ Some (Dispense own count)
  pub some : count ≢ 0

tests_hold : (on none same empty : Bool) (count n : ℕ) →
    cond (on && none && same && not empty) (Some count) None ≡ Some n →
    (on ≡ true) × (none ≡ true) × (same ≡ true) × (empty ≡ false) × (count ≡ n)
tests_hold true true true false count n e = (refl, refl, refl, refl, cc)
tests_hold true true true true count n e = absurd cc
tests_hold true true false empty count n e = absurd cc
tests_hold true false same empty count n e = absurd cc
tests_hold false none same empty count n e = absurd cc

pub taken_when : (own : ℕ) (past : List Met) (asked : Option Request) (count : ℕ) →
    taken_of own past asked ≡ Some count → IsTaken own past asked count
taken_when own past None count e = absurd cc
taken_when own past (Some (Dispense serial n)) count e =
    let all = tests_hold (enabled past) (remaining own past == 0) (serial == own) (n == 0) n count e in
    let same : serial ≡ own = eqb-true _ _ all.2 in
    let is : n ≡ count = all.4 in
    let some : count ≢ 0 = grind (arith, nat_tests) in
    record { on = all.0; rest = eqb-true _ _ all.1; asks = cc; some = some }
taken_when own past (Some q) count e = absurd cc

pub taken_exactly : (own : ℕ) (past : List Met) (count : ℕ) → enabled past ≡ true → remaining own past ≡ 0 → count ≢ 0 →
    taken_of own past (Some (Dispense own count)) ≡ Some count
taken_exactly own past count on rest some =
    let none : (remaining own past == 0) ≡ true = eq-eqb _ _ rest in
    let same : (own == own) ≡ true = eq-eqb own own refl in
    let empty : (count == 0) ≡ false = ne_eqb count 0 some in
    rw (on, none, same, empty) refl

-- all that a hopper's replies show of its past: whether it may pay, how many payouts it took, what
-- is read of the last one, whether its test register was read, and how many coins it ever dropped
pub record State : Type 0 where
  pub on : Bool
  pub events : ℕ
  pub last : Shown
  pub tested : Bool
  pub ever : ℕ

abbrev pub told : Bool → ℕ → Shown → Bool → ℕ → State
told on events last tested ever = record { on = on; events = events; last = last; tested = tested; ever = ever }

abbrev pub state : ℕ → List Met → State
state own past = told (enabled past) (payouts own past) (shown own past) (is_tested past) (dropped own past)

states : {on may : Bool} {events more : ℕ} {s t : Shown} {tested : Bool} {ever also : ℕ} → on ≡ may → events ≡ more →
    s ≡ t → ever ≡ also →
    told on events s tested ever ≡ told may more t tested also
states e f g h = cc

-- after a reset it is as after power-up, but for the coins that it ever dropped; so it is where the reset was asked for
abbrev pub reset_state : State → State
reset_state s = record s { on = false; events = 0; last = show 0 0 0 false; tested = false }

pub state_reset : (own : ℕ) (past : List Met) → state own (reset ∷ past) ≡ reset_state (state own past)
state_reset own past = refl

pub state_asked_reset : (own : ℕ) (past : List Met) →
    state own (heard (Some ResetDevice) ∷ past) ≡ reset_state (state own past)
state_asked_reset own past = refl

-- coins and other objects that fall in are nothing to it, nor are bytes that ask it nothing
pub coin_passes : (own place : ℕ) (past : List Met) → state own (coin place ∷ past) ≡ state own past
coin_passes own place past = states refl refl (shown_coin own place past) refl

pub alien_passes : (own : ℕ) (past : List Met) → state own (alien ∷ past) ≡ state own past
alien_passes own past = states refl refl (shown_alien own past) refl

pub silence_passes : (own : ℕ) (past : List Met) → state own (heard None ∷ past) ≡ state own past
silence_passes own past = states refl refl (shown_heard own None past) refl

-- nor is a request but those that reset it, enable it, ask it to pay or to stop, or read the test register
abbrev pub IsOther : Request → Type 0
IsOther ResetDevice = ⊥
IsOther (Enable code) = ⊥
IsOther (Dispense serial count) = ⊥
IsOther StopNow = ⊥
IsOther TestHopper = ⊥
IsOther q = ⊤

pub other_passes : (own : ℕ) (past : List Met) (q : Request) → IsOther q →
    state own (heard (Some q) ∷ past) ≡ state own past
other_passes own past ResetDevice other = absurd other
other_passes own past (Enable code) other = absurd other
other_passes own past (Dispense serial count) other = absurd other
other_passes own past StopNow other = absurd other
other_passes own past TestHopper other = absurd other
other_passes own past q other = states refl refl (shown_heard own (Some q) past) refl

-- reading the test register clears the power-up bit alone
pub test_clears_power_up : (own : ℕ) (past : List Met) →
    state own (heard (Some TestHopper) ∷ past) ≡ record (state own past) { tested = true }
test_clears_power_up own past = states refl refl (shown_heard own (Some TestHopper) past) refl

-- enabling it keeps a payout that is under way
pub enable_keeps : (own : ℕ) (past : List Met) →
    state own (heard (Some (Enable ENABLE_CODE)) ∷ past) ≡ record (state own past) { on = true }
enable_keeps own past = states refl refl (shown_heard own (Some (Enable ENABLE_CODE)) past) refl

-- any other byte turns it off
disabling : (own code : ℕ) (past : List Met) → code ≢ ENABLE_CODE →
    shown own (heard (Some (Enable code)) ∷ past) ≡ after_end false (shown own past)
disabling own code past other =
    let not_it : (code == ENABLE_CODE) ≡ false = ne_eqb code ENABLE_CODE other in
    shown_heard own (Some (Enable code)) past ∙ rw not_it refl

disabled : (own code : ℕ) (past : List Met) (s : Shown) → code ≢ ENABLE_CODE → after_end false (shown own past) ≡ s →
    state own (heard (Some (Enable code)) ∷ past) ≡ record (state own past) { on = false; last = s }
disabled own code past s other ends =
    states (ne_eqb code ENABLE_CODE other) refl (disabling own code past other ∙ ends) refl

-- a dispense request that isn't taken is refused and changes nothing
passed : (own serial count : ℕ) (past : List Met) → taken_of own past (Some (Dispense serial count)) ≡ None →
    state own (heard (Some (Dispense serial count)) ∷ past) ≡ state own past
passed own serial count past refused =
    states refl (rw refused refl) (shown_heard own (Some (Dispense serial count)) past ∙ rw refused refl) refl

pub refused_changes_nothing : (own start serial count : ℕ) (past : List Met) →
    taken_of own past (Some (Dispense serial count)) ≡ None →
    (hopper_reply own start past (Dispense serial count) ≡ Some reply.nak)
    × (state own (heard (Some (Dispense serial count)) ∷ past) ≡ state own past)
unfolding hopper_reply
refused_changes_nothing own start serial count past refused = (rw refused refl, passed own serial count past refused)

-- it is refused by a hopper that is off, that is paying, or that has another serial number, and where it asks for nothing
second_fails : (on same empty : Bool) (count : ℕ) → cond (on && false && same && not empty) (Some count) None ≡ None
second_fails true same empty count = refl
second_fails false same empty count = refl

third_fails : (on none empty : Bool) (count : ℕ) → cond (on && none && false && not empty) (Some count) None ≡ None
third_fails true true empty count = refl
third_fails true false empty count = refl
third_fails false none empty count = refl

last_fails : (on none same : Bool) (count : ℕ) → cond (on && none && same && false) (Some count) None ≡ None
last_fails true true true count = refl
last_fails true true false count = refl
last_fails true false same count = refl
last_fails false none same count = refl

pub off_refuses : (own serial count : ℕ) (past : List Met) → enabled past ≡ false →
    taken_of own past (Some (Dispense serial count)) ≡ None
off_refuses own serial count past off = rw off refl

pub paying_refuses : (own serial count : ℕ) (past : List Met) → remaining own past ≢ 0 →
    taken_of own past (Some (Dispense serial count)) ≡ None
paying_refuses own serial count past paying =
    let some : (remaining own past == 0) ≡ false = ne_eqb (remaining own past) 0 paying in
    rw some (second_fails (enabled past) (serial == own) (count == 0) count)

pub wrong_serial_refused : (own serial count : ℕ) (past : List Met) → serial ≢ own →
    taken_of own past (Some (Dispense serial count)) ≡ None
wrong_serial_refused own serial count past other =
    let not_it : (serial == own) ≡ false = ne_eqb serial own other in
    rw not_it (third_fails (enabled past) (remaining own past == 0) (count == 0) count)

pub nothing_refused : (own serial : ℕ) (past : List Met) → taken_of own past (Some (Dispense serial 0)) ≡ None
nothing_refused own serial past = last_fails (enabled past) (remaining own past == 0) (serial == own) 0

-- one that is taken is acknowledged and begins a payout of its count, with nothing paid or unpaid and no timeout
begins : (own : ℕ) (past : List Met) (count : ℕ) → taken_of own past (Some (Dispense own count)) ≡ Some count →
    state own (heard (Some (Dispense own count)) ∷ past)
    ≡ record (state own past) { events = suc (payouts own past); last = show count 0 0 false }
begins own past count took =
    states refl (rw took refl) (shown_heard own (Some (Dispense own count)) past ∙ rw took refl) refl

pub dispense_begins : (own start : ℕ) (past : List Met) (count : ℕ) → enabled past ≡ true → remaining own past ≡ 0 →
    count ≢ 0 →
    (hopper_reply own start past (Dispense own count) ≡ Some reply.ack)
    × (state own (heard (Some (Dispense own count)) ∷ past)
    ≡ record (state own past) { events = suc (payouts own past); last = show count 0 0 false })
unfolding hopper_reply
dispense_begins own start past count on rest some =
    let took : taken_of own past (Some (Dispense own count)) ≡ Some count = taken_exactly own past count on rest some in
    (rw took refl, begins own past count took)

-- the event counter of one payout more: it rises by one, from 255 to 1
rises : (over none full : Bool) (n : ℕ) → (suc n == 0) ≡ over → (n == 0) ≡ none →
    (cond none 0 (1 + (n - 1) % 255) == 255) ≡ full →
    cond over 0 (1 + (suc n - 1) % 255) ≡ cond full 1 (suc (cond none 0 (1 + (n - 1) % 255)))
rises true none full n e f g = grind (arith, nat_tests)
rises false true full n e f g = grind (arith, nat_tests)
rises false false true n e f g = grind (arith, nat_tests)
rises false false false n e f g = grind (arith, nat_tests)

pub counter_rises : (n : ℕ) → counter (suc n) ≡ if counter n == 255 then 1 else suc (counter n)
counter_rises n = rises (suc n == 0) (n == 0) (counter n == 255) n refl refl refl

-- while it pays
module _ (own : ℕ) (past : List Met) (paying : remaining own past ≢ 0) where
  some_left : (remaining own past == 0) ≡ false
  some_left = ne_eqb (remaining own past) 0 paying

  -- a fall pays one coin
  pub dropped_paying : dropped own (fall ∷ past) ≡ suc (dropped own past)
  dropped_paying = rw some_left refl

  pub fall_pays :
      state own (fall ∷ past) ≡ record (state own past) { last = with_paid (shown own past); ever = suc (dropped own past) }
  fall_pays = states refl refl (shown_fall own past ∙ rw some_left refl) dropped_paying

  -- and raises the life count by 1 modulo 2 ^ 24
  pub fall_raises_life : (start : ℕ) → life_count own start (fall ∷ past) ≡ (life_count own start past + 1) % 2 ^ 24
  fall_raises_life start = omega (arith, dropped_paying)

  -- a jam ends the payout and sets the timeout bit
  pub jam_ends : state own (jam ∷ past) ≡ record (state own past) { last = with_unpaid true (shown own past) }
  jam_ends = states refl refl (shown_jam own past ∙ rw some_left refl) refl

  -- a stop is answered with what is left, and ends the payout
  stopped : state own (heard (Some StopNow) ∷ past)
      ≡ record (state own past) { last = with_unpaid (has_timeout own past) (shown own past) }
  stopped = states refl refl (shown_heard own (Some StopNow) past ∙ rw some_left refl) refl

  pub stop_ends : (start : ℕ) →
      (hopper_reply own start past StopNow ≡ Some (reply.remaining (remaining own past)))
      × (state own (heard (Some StopNow) ∷ past)
      ≡ record (state own past) { last = with_unpaid (has_timeout own past) (shown own past) })
  unfolding hopper_reply
  stop_ends start = (refl, stopped)

  -- a disable turns it off and ends the payout
  pub disable_ends : (code : ℕ) → code ≢ ENABLE_CODE →
      state own (heard (Some (Enable code)) ∷ past)
      ≡ record (state own past) { on = false; last = with_unpaid (has_timeout own past) (shown own past) }
  disable_ends code other =
      disabled own code past (with_unpaid (has_timeout own past) (shown own past)) other (rw some_left refl)

-- while it doesn't pay, falls, jams and stops are nothing to it
module _ (own : ℕ) (past : List Met) (rest : remaining own past ≡ 0) where
  none_left : (remaining own past == 0) ≡ true
  none_left = eq-eqb (remaining own past) 0 rest

  pub dropped_resting : dropped own (fall ∷ past) ≡ dropped own past
  dropped_resting = rw none_left refl

  pub fall_passes : state own (fall ∷ past) ≡ state own past
  fall_passes = states refl refl (shown_fall own past ∙ rw none_left refl) dropped_resting

  pub jam_passes : state own (jam ∷ past) ≡ state own past
  jam_passes = states refl refl (shown_jam own past ∙ rw none_left refl) refl

  -- a stop is answered with 0
  not_stopped : state own (heard (Some StopNow) ∷ past) ≡ state own past
  not_stopped = states refl refl (shown_heard own (Some StopNow) past ∙ rw none_left refl) refl

  pub stop_passes : (start : ℕ) →
      (hopper_reply own start past StopNow ≡ Some (reply.remaining 0))
      × (state own (heard (Some StopNow) ∷ past) ≡ state own past)
  unfolding hopper_reply
  stop_passes start = (ap (λ n. Some (reply.remaining n)) rest, not_stopped)

  -- and a disable turns it off alone
  pub disable_turns_off : (code : ℕ) → code ≢ ENABLE_CODE →
      state own (heard (Some (Enable code)) ∷ past) ≡ record (state own past) { on = false }
  disable_turns_off code other = disabled own code past (shown own past) other (rw none_left refl)

-- a hopper that pays may pay: it is never both off and paying
on_by : (same : Bool) (before : Bool) (left_before : ℕ) → cond (not same) 0 left_before ≢ 0 → same ≡ true
on_by true before left_before some = refl
on_by false before left_before some = absurd (some refl)

on_heard : (own : ℕ) (past : List Met) (took : Option ℕ) (asked : Option Request) → taken_of own past asked ≡ took →
    left_heard took asked (remaining own past) ≢ 0 → (remaining own past ≢ 0 → enabled past ≡ true) →
    enabled_by asked (enabled past) ≡ true
on_heard own past (Some count) asked took some before =
    let so = taken_when own past asked count took in
    rw so.asks so.on
on_heard own past None None took some before = before some
on_heard own past None (Some ResetDevice) took some before = absurd (some refl)
on_heard own past None (Some StopNow) took some before = absurd (some refl)
on_heard own past None (Some (Enable code)) took some before =
    on_by (code == ENABLE_CODE) (enabled past) (remaining own past) some
on_heard own past None (Some q) took some before = before some

pub paying_is_on : (own : ℕ) (past : List Met) → remaining own past ≢ 0 → enabled past ≡ true
paying_is_on own [] some = absurd (some refl)
paying_is_on own (coin place ∷ past) some = paying_is_on own past (λ e. some (remaining_coin own place past ∙ e))
paying_is_on own (alien ∷ past) some = paying_is_on own past (λ e. some (remaining_alien own past ∙ e))
paying_is_on own (fall ∷ past) some = paying_is_on own past (λ e. some (omega (arith, e, remaining_fall own past)))
paying_is_on own (jam ∷ past) some = absurd (some (remaining_jam own past))
paying_is_on own (reset ∷ past) some = absurd (some refl)
paying_is_on own (heard asked ∷ past) some =
    on_heard own past (taken_of own past asked) asked refl (λ e. some (remaining_heard own asked past ∙ e))
    (paying_is_on own past)

or_false : (a b : Bool) → (a || b) ≡ false → b ≡ false
or_false true b e = absurd cc
or_false false b e = e

heard_whole : (stop broken : Bool) (remains unpaid : ℕ) → (stop || broken) ≡ false → (broken ≡ false → unpaid ≡ 0) →
    cond (stop && not (remains == 0)) remains unpaid ≡ 0
heard_whole true broken remains unpaid whole before = absurd cc
heard_whole false broken remains unpaid whole before = before whole

-- a payout that nothing ended has nothing unpaid, and no timeout
unbroken : (count : ℕ) (since : List Met) → is_broken since ≡ false →
    (unpaid_of count since ≡ 0) × (jammed_in count since ≡ false)
unbroken count [] whole = (refl, refl)
unbroken count (coin place ∷ since) whole = unbroken count since whole
unbroken count (alien ∷ since) whole = unbroken count since whole
unbroken count (fall ∷ since) whole = unbroken count since whole
unbroken count (jam ∷ since) whole = absurd cc
unbroken count (reset ∷ since) whole = unbroken count since whole
unbroken count (heard asked ∷ since) whole =
    let before : is_broken since ≡ false = or_false (stops asked) (is_broken since) whole in
    let so = unbroken count since before in
    (heard_whole (stops asked) (is_broken since) (left_of count since) (unpaid_of count since) whole (λ _. so.0), so.1)

left_whole : (count : ℕ) (since : List Met) → left_of count since ≢ 0 → is_broken since ≡ false
left_whole count since some = by_broken (is_broken since) some
  where
    by_broken : (broken : Bool) → cond broken 0 (count - falls since) ≢ 0 → broken ≡ false
    by_broken true none = absurd (none refl)
    by_broken false none = refl

clear_in : (last : Option Payout) → left last ≢ 0 → (unpaid last ≡ 0) × (jammed last ≡ false)
clear_in None some = absurd (some refl)
clear_in (Some last) some = unbroken last.count last.since (left_whole last.count last.since some)

pub paying_is_clear : (own : ℕ) (past : List Met) → remaining own past ≢ 0 →
    (last_unpaid own past ≡ 0) × (has_timeout own past ≡ false)
paying_is_clear own past some = clear_in (payout own past) some

-- what was paid of a payout, what is left and what stayed unpaid make its count
abbrev total : Shown → ℕ
total s = s.paid + s.remains + s.unpaid

total_fall : (none : Bool) (remains paid unpaid : ℕ) (timeout : Bool) → (remains == 0) ≡ none →
    total (cond none (show remains paid unpaid timeout) (show (remains - 1) (suc paid) unpaid timeout))
    ≡ paid + remains + unpaid
total_fall true remains paid unpaid timeout test = refl
total_fall false remains paid unpaid timeout test = grind (arith, nat_tests)

total_end : (none by_jam : Bool) (remains paid unpaid : ℕ) (timeout : Bool) → (remains == 0) ≡ none →
    (remains ≢ 0 → unpaid ≡ 0) →
    total (cond none (show remains paid unpaid timeout) (show 0 paid remains (by_jam || timeout)))
    ≡ paid + remains + unpaid
total_end true by_jam remains paid unpaid timeout test clear = refl
total_end false by_jam remains paid unpaid timeout test clear =
    let some : remains ≢ 0 = grind (arith, nat_tests) in
    omega (arith, clear some)

total_heard : (stop : Bool) (remains paid unpaid : ℕ) (timeout : Bool) → (remains ≢ 0 → unpaid ≡ 0) →
    total (cond stop (after_end false (show remains paid unpaid timeout)) (show remains paid unpaid timeout))
    ≡ paid + remains + unpaid
total_heard true remains paid unpaid timeout clear =
    total_end (remains == 0) false remains paid unpaid timeout refl clear
total_heard false remains paid unpaid timeout clear = refl

adds : (count : ℕ) (since : List Met) → paid_of count since + left_of count since + unpaid_of count since ≡ count
adds count [] = omega arith
adds count (coin place ∷ since) = adds count since
adds count (alien ∷ since) = adds count since
adds count (reset ∷ since) = adds count since
adds count (fall ∷ since) =
    ap total (fall_in (Some (record { count = count; since = since })))
    ∙ total_fall (left_of count since == 0) (left_of count since) (paid_of count since) (unpaid_of count since)
    (jammed_in count since) refl
    ∙ adds count since
adds count (jam ∷ since) =
    ap total (jam_in (Some (record { count = count; since = since })))
    ∙ total_end (left_of count since == 0) true (left_of count since) (paid_of count since) (unpaid_of count since)
    (jammed_in count since) refl (λ some. (unbroken count since (left_whole count since some)).0)
    ∙ adds count since
adds count (heard asked ∷ since) =
    ap total (heard_in asked (Some (record { count = count; since = since })))
    ∙ total_heard (stops asked) (left_of count since) (paid_of count since) (unpaid_of count since)
    (jammed_in count since) (λ some. (unbroken count since (left_whole count since some)).0)
    ∙ adds count since

pub payout_adds : (last : Payout) → paid (Some last) + left (Some last) + unpaid (Some last) ≡ last.count
payout_adds last = adds last.count last.since

-- the test register has the timeout bit, the power-up bit and the bit of a hopper that is off, and no other
bits_by : (timeout tested on : Bool) →
    let bits = cond timeout 2 0 + cond tested 0 64 + cond on 0 128 in
    (bits / 2 % 2 ≡ cond timeout 1 0) × (bits / 64 % 2 ≡ cond tested 0 1) × (bits / 128 % 2 ≡ cond on 0 1)
    × (bits < 256)
bits_by true true true = (refl, refl, refl, omega arith)
bits_by true true false = (refl, refl, refl, omega arith)
bits_by true false true = (refl, refl, refl, omega arith)
bits_by true false false = (refl, refl, refl, omega arith)
bits_by false true true = (refl, refl, refl, omega arith)
bits_by false true false = (refl, refl, refl, omega arith)
bits_by false false true = (refl, refl, refl, omega arith)
bits_by false false false = (refl, refl, refl, omega arith)

pub register_bits : (own : ℕ) (past : List Met) →
    (register_of own past / 2 % 2 ≡ (if has_timeout own past then 1 else 0))
    × (register_of own past / 64 % 2 ≡ (if is_tested past then 0 else 1))
    × (register_of own past / 128 % 2 ≡ (if enabled past then 0 else 1)) × (register_of own past < 256)
register_bits own past = bits_by (has_timeout own past) (is_tested past) (enabled past)
