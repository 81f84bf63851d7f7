-- A job at a device ends for want of an answer exactly after three failed tries.
use Rattle.std.proofs.Common.{◌≡◌, ℕ, suc, ◌<◌, ◌≤◌, ◌^◌, ◌==◌, cond, true, false, Bool, List, [], ◌∷◌, ◌++◌, refl, ap, sym, ◌∙◌, subst, Option, Some, None, inl, inr, arith, rules, eqb-true, true≢false}
use Rattle.std.specs.Prelude.{⊤}
use Rattle.std.proofs.lemmas.Bool.Decides.{nat_tests}
use Rattle.cct_model.specs.terms.device.DeviceSetup.{DeviceSetup}
use Rattle.cct_model.specs.terms.device.Setup.{Setup}
use Rattle.cct_model.specs.terms.request.Request.{Request}
use Rattle.cct_model.specs.terms.request.Request.TheVariants.{Dispense}
use Rattle.cct_model.specs.lines.record.Record.{Record}
use Rattle.cct_model.specs.declared.judging.Judged.{Judged}
use Rattle.cct_model.specs.declared.judging.EpochState.{EpochState}
use Rattle.cct_model.specs.lines.command.Command.{Command}
use Rattle.cct_model.specs.lines.command.Command.TheVariants as command
use Rattle.cct_model.specs.lines.command.Step.{Step}
use Rattle.cct_model.specs.lines.entry.End.{End}
use Rattle.cct_model.specs.lines.entry.End.TheVariants.{NoAnswer}
use Rattle.cct_model.specs.lines.entry.Entry.{Entry}
use Rattle.cct_model.specs.lines.entry.Entry.TheVariants as entry
use Rattle.cct_model.specs.Exchange.{ask, asked, asks_of}
use Rattle.cct_model.specs.Request.{header_of}
use Rattle.cct_model.specs.History.{Met}
use Rattle.cct_model.specs.Reply.{Reply}
use Rattle.cct_model.specs.Device.{IsSound}
use Rattle.cct_model.specs.Setup.{IsSoundSetup}
use Rattle.cct_model.specs.Line.{Line, accepted, dispensed, exchange, put, taken, ended, restarted}
use Rattle.cct_model.specs.Job.{Job, free, works, job, with_line, epoch, judged_in, sends, ident_requests, Noted, noted_in, tries, tries_after, address_of}
use Rattle.cct_model.specs.Rows.{end_of, left, rows_of, TableRow, asks_for, asks_once, waits_for_coins, puts_due, telling, after, first, rest, row, done, sent_once}
use Rattle.cct_model.specs.Claims.{AllPast}
use Rattle.cct_model.specs.Legal.{Legal}
use Rattle.cct_model.specs.Order.{order}
use Rattle.cct_model.specs.Transcript.{pending, met, own, lines_of, heard_by_devices, heard_after, got_by, doses_of, onto}
use Rattle.cct_msg.specs.Forms.{FitsItsBytes}
use Rattle.cct_msg.proofs.Exchanges.{again_fits, serial_fits, asked_back}
use Rattle.cct_laws.specs.Ending.{IsEndOf}
use Rattle.cct_laws.specs.Ids.{Ids}
use Rattle.cct_laws.specs.DeviceJobs.{with_ended}
use Rattle.cct_laws.specs.Law.{IsOf, lines_in}
use Rattle.cct_laws.specs.Tries.{failed_by, failed_tries, failed_in, TriesAt}
use Rattle.cct_laws.proofs.jobs.StepBrings.{Comes, takes_coin, leaves_coin, takes_bill, leaves_bill, leaves_alien, drops_coin, drops_none, jams, jams_none, is_reset, AtDevice, came, took, halted, idled, made_exchange, made_put, Brought, wire_of, wire_end, record_end, begun_at_work}
use Rattle.cct_model.proofs.Doses.{AreDoses, doses_are, job_undosed}
use Rattle.cct_laws.proofs.orders.Ids.{put_owned}
use Rattle.cct_laws.proofs.setups.DeviceAt.{found_in}
use Rattle.cct_model.proofs.Rows.{IfEnd, RowHolds, EachRow, answer_end, put_end, Asks, AnswerEnds, PutEnds, each_told, each_after, state_holds, but_first, after_next, EachBefore, before_on, fact_after, told_fact}
use Rattle.cct_laws.proofs.jobs.EntriesOfStep.{any_steps}
use Rattle.cct_laws.proofs.jobs.SeenAtOne.{ArePassed, loose, loose_line, Lost, bare, kept_here, kept_elsewhere, seen_here, seen_aside, seen_lost, seen_from, along, lines_wire, lines_with_end, lines_put, lines_taken, lines_kept, lines_kept_elsewhere}
use Rattle.cct_model.proofs.Requests.{is_asked_again}
use Rattle.cct_model.proofs.Tries.{tried, IfHeard, fails_as, IsHeardEnd, answers_heard, puts_heard, due_sends, same_request, left_asks, asked_fails}
use Rattle.cct_model.proofs.RowEnds.{IfOnce, once_sent, failed_stays, once_goes, rest_asks, fails_rest}
use Rattle.cct_model.specs.declared.judging.OpenOrder.{OpenOrder}

-- what is sent once dispenses under the device's own serial number, if it dispenses
abbrev IsOwnDose : ℕ → Request → Type 0
IsOwnDose own (Dispense serial count) = serial ≡ own
IsOwnDose own q = ⊤

own_doses : (d : DeviceSetup) (c : Command) → EachRow (IfOnce (IsOwnDose d.serial)) (rows_of d c)
own_doses d (command.Ident addr) =
    each_told (IfOnce (IsOwnDose d.serial)) (λ q. tt) (λ q. tt) (ident_requests d.body)
own_doses d c = search rules

own_fits : (own : ℕ) (q : Request) → own < 2 ^ 24 → IsOwnDose own q → FitsItsBytes q
own_fits own (Dispense serial count) low same = serial_fits serial count (subst (λ n. n < 2 ^ 24) (sym same) low)
own_fits own q low same = λ serial count is. cc

-- so what a row sends fits its bytes
pub sent_fits : (d : DeviceSetup) (c : Command) (since : List Line) (state : EpochState) (owed : Option OpenOrder)
    (q : Request) → d.serial < 2 ^ 24 → row d c since state owed ≡ sends q → FitsItsBytes q
sent_fits d c since state owed q low is =
    elim (fails_rest d c since state owed q is) [
      | inl again ↦ again_fits q again.0
      | inr once ↦ own_fits d.serial q low
          (once_sent (IsOwnDose d.serial) (address_of c) (judged_in c since state) (noted_in since owed) (rest d c since) q
          (rest_asks d c since state owed q is) once.1
          (each_after (IfOnce (IsOwnDose d.serial)) (rows_of d c) (done (rows_of d c) since) (own_doses d c)))
    ]

-- a request hasn't the header of one that these rows send once
abbrev IsApart : List TableRow → Request → Type 0
IsApart rows q = EachRow (IfOnce (λ x. (header_of q == header_of x) ≡ false)) rows

-- no row asks under the header of a later one that is sent once
abbrev AreApart : List TableRow → Type 0
AreApart rows = EachBefore (λ r later. Asks (IsApart later) r) rows

told_apart : (qs : List Request) → ((q : Request) → IsApart (telling qs) q) × AreApart (telling qs)
told_apart =
    told_fact (λ rows. ((q : Request) → IsApart rows q) × AreApart rows) ((λ q. tt), tt)
    (λ q behind rows apart. ((λ x. (tt, apart.0 x)), (apart.0 q, apart.1)))

rows_apart : (d : DeviceSetup) (c : Command) → AreApart (rows_of d c)
rows_apart d (command.Ident addr) = (told_apart (ident_requests d.body)).1
rows_apart d c = search rules

apart_first : (addr : ℕ) (means : Judged) (p : Noted) (rows : List TableRow) (q : Request) → AreApart rows →
    first addr means p rows ≡ sends q → IsApart (but_first rows) q
apart_first addr means p [] q each is = absurd cc
apart_first addr means p (asks_for x behind ∷ rows) q each is = subst (IsApart rows) (same_request x q is) each.0
apart_first addr means p (asks_once x behind without ∷ rows) q each is =
    subst (IsApart rows) (same_request x q is) each.0
apart_first addr means p (waits_for_coins ∷ rows) q each is =
    subst (RowHolds (IsApart rows) (λ r. ⊤)) is
    (state_holds (IsApart rows) (λ r. ⊤) p.is_marked each.0.0 each.0.1)
apart_first addr means p (puts_due due behind ∷ rows) q each is = absurd (due_sends addr means p due q is)

-- of what these rows send once no try has failed
abbrev Untried : List Line → List TableRow → Type 0
Untried since rows = EachRow (IfOnce (λ q. tries (header_of q) since ≡ 0)) rows

-- that is so where no failed try is counted
none_tried : (since : List Line) → ((header : ℕ) → tries header since ≡ 0) → (rows : List TableRow) → Untried since rows
none_tried since none [] = tt
none_tried since none (asks_for q behind ∷ rows) = (tt, none_tried since none rows)
none_tried since none (asks_once q behind without ∷ rows) = (none (header_of q), none_tried since none rows)
none_tried since none (waits_for_coins ∷ rows) = (tt, none_tried since none rows)
none_tried since none (puts_due due behind ∷ rows) = (tt, none_tried since none rows)

-- and after a failed try of a request under another header
other_tried : (since : List Line) (q : Request) (rows : List TableRow) → IsApart rows q →
    Untried (exchange (Some q) None ∷ since) rows
other_tried since q [] apart = tt
other_tried since q (asks_for x behind ∷ rows) apart = (tt, other_tried since q rows apart.1)
other_tried since q (asks_once x behind without ∷ rows) apart =
    (ap (λ same. cond same (suc (tries (header_of x) since)) 0) apart.0, other_tried since q rows apart.1)
other_tried since q (waits_for_coins ∷ rows) apart = (tt, other_tried since q rows apart.1)
other_tried since q (puts_due due behind ∷ rows) apart = (tt, other_tried since q rows apart.1)

-- a first row that isn't sent once asks for no such fact
first_tried : (since : List Line) (rows : List TableRow) → sent_once rows ≡ false → Untried since (but_first rows) →
    Untried since rows
first_tried since [] again later = tt
first_tried since (asks_for q behind ∷ rows) again later = (tt, later)
first_tried since (asks_once q behind without ∷ rows) again later = absurd (true≢false again)
first_tried since (waits_for_coins ∷ rows) again later = (tt, later)
first_tried since (puts_due due behind ∷ rows) again later = (tt, later)

-- no try has failed of what a job has still to send once
abbrev NoneOfOnce : DeviceSetup → Job → Type 0
NoneOfOnce d free = ⊤
NoneOfOnce d (works c since) = Untried since (rest d c since)

-- a job that goes on has few failed tries
pub record HasTriesLeft (d : DeviceSetup) (j : Job) : Type 0 where
  pub few : failed_in j < 3
  pub none_of_once : NoneOfOnce d j

-- the newest exchange of a job asked what it asks again
abbrev pub asks_again : List Line → Bool
asks_again [] = true
asks_again (exchange (Some q) got ∷ since) = is_asked_again q
asks_again (exchange None got ∷ since) = true
asks_again (l ∷ since) = asks_again since

abbrev pub again_in : Job → Bool
again_in free = true
again_in (works c since) = asks_again since

-- a job is given up exactly after its third failed try in succession of what it asks again
abbrev pub GivenUpAt : List Line → Line → Type 0
GivenUpAt past (ended NoAnswer) = (failed_in (job past) ≡ 3) × (again_in (job past) ≡ true)
GivenUpAt past l = failed_in (job past) < 3

tries_at : (past : List Line) (l : Line) → GivenUpAt past l → TriesAt past l
tries_at past (ended NoAnswer) given = given.0
tries_at past l few = few

pub all_tries : (lines : List Line) → AllPast GivenUpAt lines → AllPast TriesAt lines
all_tries [] each = tt
all_tries (l ∷ lines) each = (tries_at lines l each.0, all_tries lines each.1)

-- what holds of the lines of an address after every step
pub record Steady (d : DeviceSetup) (lines : List Line) : Type 0 where
  pub each : AllPast GivenUpAt lines
  pub goes_on : HasTriesLeft d (job lines)

free_on : (d : DeviceSetup) → HasTriesLeft d free
free_on d = record { few = omega arith; none_of_once = tt }

-- a line more, which is no such end
steady_line : (d : DeviceSetup) (l : Line) (lines : List Line) →
    ((older : List Line) → failed_in (job older) < 3 → GivenUpAt older l) →
    HasTriesLeft d (job (l ∷ lines)) → Steady d lines → Steady d (l ∷ lines)
steady_line d l lines no_third goes steady =
    record { each = (no_third lines steady.goes_on.few, steady.each); goes_on = goes }

-- no header has more failed tries than the newest one
tries_same : (same : Bool) (h : ℕ) (q : Request) (since : List Line) → (header_of q == h) ≡ same →
    cond same (suc (tries h since)) 0 ≤ suc (tries (header_of q) since)
tries_same true h q since test =
    subst (λ k. suc (tries k since) ≤ suc (tries (header_of q) since)) (eqb-true (header_of q) h test) (omega arith)
tries_same false h q since test = omega arith

pub tries_by : (h : ℕ) (asks : Option Request) (found : Option Reply) (since : List Line) →
    tries_after h asks found (tries h since) ≤ failed_by asks found since
tries_by h None None since = omega arith
tries_by h None (Some y) since = omega arith
tries_by h (Some q) (Some y) since = omega arith
tries_by h (Some q) None since = tries_same (header_of q == h) h q since refl

pub tries_most : (h : ℕ) (since : List Line) → tries h since ≤ failed_tries since
tries_most h [] = omega arith
tries_most h (exchange asks found ∷ since) = tries_by h asks found since
tries_most h (put r ∷ since) = omega arith
tries_most h (l ∷ since) = tries_most h since

steady_ended : (d : DeviceSetup) (end : Option End) (lines : List Line) → IfHeard end → Steady d lines →
    Steady d (with_ended end lines)
steady_ended d None lines heard steady = steady
steady_ended d (Some NoAnswer) lines heard steady = absurd heard
steady_ended d (Some end) lines heard steady = steady_line d (ended end) lines (λ older few. few) (free_on d) steady

-- the ends of an answered exchange and of a put are those of a job that got its answers
abbrev pub IfEndOf : Command → Option End → Type 0
IfEndOf c found = IfEnd (IsEndOf c) found

answers_end : (d : DeviceSetup) (c : Command) → EachRow (AnswerEnds (IsEndOf c)) (rows_of d c)
answers_end d (command.Ident addr) =
    each_told (AnswerEnds (IsEndOf (command.Ident addr))) (λ q. tt) (λ q. tt) (ident_requests d.body)
answers_end d c = search rules

pub ends_of_answer : (d : DeviceSetup) (c : Command) (asked : Option Request) (y : Reply) (since : List Line)
    (state : EpochState) → IfEndOf c (end_of d c (exchange asked (Some y)) since state)
ends_of_answer d c asked y since state = answer_end (IsEndOf c) d c asked y since state (answers_end d c)

puts_end : (d : DeviceSetup) (c : Command) → EachRow (PutEnds (IsEndOf c)) (rows_of d c)
puts_end d (command.Ident addr) =
    each_told (PutEnds (IsEndOf (command.Ident addr))) (λ q. tt) (λ q. tt) (ident_requests d.body)
puts_end d c = search rules

pub ends_of_put : (d : DeviceSetup) (c : Command) (r : Record) (since : List Line) (state : EpochState) →
    IfEndOf c (end_of d c (put r) since state)
ends_of_put d c r since state = put_end (IsEndOf c) d c r since state (puts_end d c)

-- an exchange of a job that is no third failed try
steady_exchange : (d : DeviceSetup) (lines since : List Line) (c : Command) (q : Request) (found : Option Reply) →
    job lines ≡ works c since → failed_by (Some q) found since < 3 →
    NoneOfOnce d (works c (exchange (Some q) found ∷ since)) → Steady d lines →
    Steady d (exchange (Some q) found ∷ lines)
steady_exchange d lines since c q found is_job few none steady =
    let l = exchange (Some q) found in
    let goes : HasTriesLeft d (with_line l (works c since)) = record { few = few; none_of_once = none } in
    steady_line d l lines (λ older few. few) (subst (λ j. HasTriesLeft d (with_line l j)) (sym is_job) goes) steady

-- and one that may be the third
below : (n : ℕ) → n < 3 → (suc n == 3) ≡ false → suc n < 3
below n most not_three = grind (arith, nat_tests)

steady_failed : (d : DeviceSetup) (lines since : List Line) (c : Command) (q : Request) (third : Bool) →
    (suc (tries (header_of q) since) == 3) ≡ third → is_asked_again q ≡ true →
    NoneOfOnce d (works c (exchange (Some q) None ∷ since)) → job lines ≡ works c since → Steady d lines →
    Steady d (with_ended (cond third (Some NoAnswer) None) (exchange (Some q) None ∷ lines))
steady_failed d lines since c q true test again none is_job steady =
    let third : failed_in (job (exchange (Some q) None ∷ lines)) ≡ 3 =
    ap (λ j. failed_in (with_line (exchange (Some q) None) j)) is_job ∙ eqb-true (suc (tries (header_of q) since))
    3 test in
    let asks : again_in (job (exchange (Some q) None ∷ lines)) ≡ true =
    ap (λ j. again_in (with_line (exchange (Some q) None) j)) is_job ∙ again in
    record { each = ((third, asks), (steady.goes_on.few, steady.each)); goes_on = free_on d }
steady_failed d lines since c q false test again none is_job steady =
    let before : failed_tries since < 3 = (subst (HasTriesLeft d) is_job steady.goes_on).few in
    let most = tries_most (header_of q) since in
    steady_exchange d lines since c q None is_job (below (tries (header_of q) since) (omega arith) test) none steady

-- what a job asks under its own header leaves what it has still to send once
apart_row : (d : DeviceSetup) (c : Command) (since : List Line) (state : EpochState) (owed : Option OpenOrder)
    (q : Request) → row d c since state owed ≡ sends q → IsApart (but_first (rest d c since)) q
apart_row d c since state owed q is =
    apart_first (address_of c) (judged_in c since state) (noted_in since owed) (rest d c since) q
    (fact_after AreApart (before_on (λ r later. Asks (IsApart later) r)) (rows_of d c) (done (rows_of d c) since)
    (rows_apart d c)) (rest_asks d c since state owed q is)

again_none : (d : DeviceSetup) (c : Command) (since : List Line) (state : EpochState) (owed : Option OpenOrder)
    (q : Request) → row d c since state owed ≡ sends q → sent_once (rest d c since) ≡ false →
    NoneOfOnce d (works c (exchange (Some q) None ∷ since))
again_none d c since state owed q is again =
    let work = exchange (Some q) None ∷ since in
    subst (λ n. Untried work (after (rows_of d c) n)) (sym (failed_stays (rows_of d c) (Some q) since again))
    (first_tried work (rest d c since) again
    (other_tried since q (but_first (rest d c since)) (apart_row d c since state owed q is)))

once_none : (d : DeviceSetup) (c : Command) (since : List Line) (state : EpochState) (owed : Option OpenOrder)
    (q : Request) → row d c since state owed ≡ sends q → sent_once (rest d c since) ≡ true →
    NoneOfOnce d (works c (exchange (Some q) None ∷ since))
once_none d c since state owed q is once =
    let work = exchange (Some q) None ∷ since in
    subst (λ n. Untried work (after (rows_of d c) n)) (sym (once_goes (rows_of d c) (Some q) None since once))
    (subst (Untried work) (sym (after_next (rows_of d c) (done (rows_of d c) since)))
    (other_tried since q (but_first (rest d c since)) (apart_row d c since state owed q is)))

-- what is sent once has no failed try before
once_tries : (d : DeviceSetup) (lines since : List Line) (c : Command) (state : EpochState) (owed : Option OpenOrder)
    (q : Request) → job lines ≡ works c since → row d c since state owed ≡ sends q →
    sent_once (rest d c since) ≡ true → Steady d lines → tries (header_of q) since ≡ 0
once_tries d lines since c state owed q is_job is once steady =
    once_sent (λ x. tries (header_of x) since ≡ 0) (address_of c) (judged_in c since state) (noted_in since owed)
    (rest d c since) q (rest_asks d c since state owed q is) once
    (subst (HasTriesLeft d) is_job steady.goes_on).none_of_once

-- an exchange of a job, and its end; what is sent once ends no job for want of an answer
steady_wire : (d : DeviceSetup) (lines since : List Line) (c : Command) (q : Request) (found : Option Reply)
    (state : EpochState) (owed : Option OpenOrder) → job lines ≡ works c since → row d c since state owed ≡ sends q →
    Steady d lines →
    Steady d (with_ended (end_of d c (exchange (Some q) found) since state) (exchange (Some q) found ∷ lines))
steady_wire d lines since c q (Some y) state owed is_job is steady =
    let work = exchange (Some q) (Some y) ∷ since in
    steady_ended d _ (exchange (Some q) (Some y) ∷ lines)
    (answer_end IsHeardEnd d c (Some q) y since state (answers_heard d c))
    (steady_exchange d lines since c q (Some y) is_job (omega arith) (none_tried work (λ header. refl) (rest d c work))
    steady)
steady_wire d lines since c q None state owed is_job is steady =
    elim (fails_as d c since state owed q is) [
      | inl again ↦ (
          let at_row = subst (λ rows. sent_once rows ≡ false) (left_asks d c since state owed q is) again.1 in
          rw (tried q since, asked_fails (left d c since state) (suc (tries (header_of q) since)) again.1)
          (steady_failed d lines since c q (suc (tries (header_of q) since) == 3) refl again.0
          (again_none d c since state owed q is at_row) is_job steady))
      | inr once ↦ (
          let at_row = subst (λ rows. sent_once rows ≡ true) (left_asks d c since state owed q is) once.1 in
          let none = once_tries d lines since c state owed q is_job is at_row steady in
          steady_ended d _ (exchange (Some q) None ∷ lines) (once.2 _)
          (steady_exchange d lines since c q None is_job (omega (arith, none))
          (once_none d c since state owed q is at_row) steady))
    ]

with_put : (d : DeviceSetup) (r : Record) (j : Job) → HasTriesLeft d (with_line (put r) j)
with_put d r free = free_on d
with_put d r (works c since) =
    record { few = omega arith; none_of_once = none_tried (put r ∷ since) (λ header. refl) (rest d c (put r ∷ since)) }

with_halt : (d : DeviceSetup) (addr : ℕ) (j : Job) → HasTriesLeft d j →
    HasTriesLeft d (with_line (taken (command.Halt addr)) j)
with_halt d addr free left = free_on d
with_halt d addr (works c since) left = record { few = left.few; none_of_once = left.none_of_once }

-- what a device did in an exchange, and entries that are none of it
steady_dosed : (d : DeviceSetup) (ls lines : List Line) → AreDoses ls → Steady d lines → Steady d (ls ++ lines)
steady_dosed d [] lines are steady = steady
steady_dosed d (dispensed count ∷ ls) lines are steady =
    let before = steady_dosed d ls lines are steady in
    steady_line d (dispensed count) (ls ++ lines) (λ older few. few) before.goes_on before
steady_dosed d (accepted coin ∷ ls) lines are steady =
    let before = steady_dosed d ls lines are steady in
    steady_line d (accepted coin) (ls ++ lines) (λ older few. few) before.goes_on before
steady_dosed d (l ∷ ls) lines are steady = absurd are

steady_passed : (d : DeviceSetup) (past news : List Entry) → ArePassed d past news → Steady d (lines_of d past) →
    Steady d (lines_of d (news ++ past))
steady_passed d past [] passes steady = steady
steady_passed d past (e ∷ news) passes steady =
    steady_dosed d (own d (news ++ past) e) (lines_of d (news ++ past)) passes.0.dosed
    (steady_passed d past news passes.1 steady)

-- what comes to the device ends no job
came_steady : (d : DeviceSetup) (past : List Met) (s : Step) (e : Entry) (m : Met) (ls lines : List Line) →
    Comes d past s e m ls → failed_in (job lines) < 3 → AllPast GivenUpAt lines → AllPast GivenUpAt (ls ++ lines)
came_steady d past _ _ _ _ lines (takes_coin place accepting test) few before = (few, before)
came_steady d past _ _ _ _ lines (leaves_coin place accepting test) few before = (few, before)
came_steady d past _ _ _ _ lines (takes_bill place banking test) few before = before
came_steady d past _ _ _ _ lines (leaves_bill place banking test) few before = (few, before)
came_steady d past _ _ _ _ lines (leaves_alien accepting) few before = (few, before)
came_steady d past _ _ _ _ lines (drops_coin paying test) few before = (few, before)
came_steady d past _ _ _ _ lines (drops_none paying test) few before = before
came_steady d past _ _ _ _ lines (jams paying test) few before = before
came_steady d past _ _ _ _ lines (jams_none paying test) few before = before
came_steady d past _ _ _ _ lines is_reset few before = (few, before)

-- what each step brings at the device
steady_there : (capacity : ℕ) (setup : Setup) (d : DeviceSetup) (past news : List Entry) (s : Step) →
    IsSoundSetup setup → IsOf setup d → Ids setup past → AtDevice capacity setup d past s news →
    Steady d (lines_of d past) → Steady d (lines_of d (news ++ past))
steady_there capacity setup d past _ _ sound own ids (came s e m ls comes) steady =
    let is = loose d (met d past) s e m ls comes in
    rw (loose_line d past s e m ls is)
    (record {
      each = came_steady d (met d past) s e m ls (lines_of d past) comes steady.goes_on.few steady.each;
      goes_on = subst (HasTriesLeft d) (sym (is.same_job (lines_of d past))) steady.goes_on;
    })
steady_there capacity setup d past _ _ sound own ids (took s c gives suited here is_free is_taken is_owed lets) steady =
    rw (lines_taken d past c here) (steady_line d (taken c) (lines_of d past) (λ older few. few)
    (rw (begun_at_work d.body c (lines_of d past) suited)
    (record { few = omega arith; none_of_once = none_tried [] (λ header. refl) (rest d c []) })) steady)
steady_there capacity setup d past _ _ sound own ids (halted paying can) steady =
    rw (lines_taken d past (command.Halt d.addr) refl)
    (steady_line d (taken (command.Halt d.addr)) (lines_of d past) (λ older few. few)
    (with_halt d d.addr (job (lines_of d past)) steady.goes_on) steady)
steady_there capacity setup d past _ _ sound own ids (idled is_free) steady = steady
steady_there capacity setup d past _ _ sound own ids (made_exchange c since q at_work is_row) steady =
    let state = epoch (lines_of d past) in
    let sent = ask d.kind d.addr q in
    let got = got_by d sent (heard_after setup past sent) in
    let owed = order (lines_of d past) in
    let low = (found_in IsSound setup.devices d.addr d sound.devices own).0.serial in
    let asks : asked d.kind sent ≡ Some q =
    asked_back d.kind d.addr q (sent_fits d c since state owed q low is_row) in
    let heard_it = asks_of d (heard_by_devices (pending past) sent) in
    let dosed = doses_of d past sent ++ lines_of d past in
    let before : Steady d dosed =
    steady_dosed d (doses_of d past sent) (lines_of d past) (doses_are d.body d.serial (met d past) heard_it) steady in
    let job_is : job dosed ≡ works c since =
    job_undosed d.body d.serial (met d past) heard_it (lines_of d past) ∙ at_work.job_is in
    subst (Steady d) (sym (lines_with_end d past (wire_of setup d past q) (wire_end setup d past c since q) _
    (lines_wire d past sent (heard_after setup past sent))))
    (subst (λ a. Steady d (with_ended (end_of d c (exchange a got) since state) (exchange a got ∷ dosed))) (sym asks)
    (steady_wire d dosed since c q got state owed job_is is_row before))
steady_there capacity setup d past _ _ sound own ids (made_put c since r at_work is_row) steady =
    subst (Steady d) (sym (lines_with_end d past (entry.Put r) (record_end d past c since r) (put r ∷ lines_of d past)
    (lines_put d past r (put_owned setup past d c since r own ids at_work is_row))))
    (steady_ended d (end_of d c (put r) since (epoch (lines_of d past))) (put r ∷ lines_of d past)
    (put_end IsHeardEnd d c r since (epoch (lines_of d past)) (puts_heard d c))
    (steady_line d (put r) (lines_of d past) (λ older few. few) (with_put d r (job (lines_of d past))) steady))

-- a power cut
steady_restart : (d : DeviceSetup) (lines : List Line) → Steady d lines → Steady d (restarted ∷ lines)
steady_restart d lines steady = steady_line d restarted lines (λ older few. few) (free_on d) steady

steady_lost : (d : DeviceSetup) (past news : List Entry) → Lost d past news → Steady d (lines_of d past) →
    Steady d (lines_of d (news ++ past))
steady_lost d past _ bare steady = steady_restart d (lines_of d past) steady
steady_lost d past _ (kept_here c since r at_work is_row owned) steady =
    subst (Steady d) (sym (lines_kept d past r owned))
    (steady_line d (put r) (restarted ∷ lines_of d past) (λ older few. few) (free_on d)
    (steady_restart d (lines_of d past) steady))
steady_lost d past _ (kept_elsewhere r away caused) steady =
    subst (Steady d) (sym (lines_kept_elsewhere d past r away)) (steady_restart d (lines_of d past) steady)

pub steady_step : (capacity : ℕ) (setup : Setup) (d : DeviceSetup) → IsSoundSetup setup → IsOf setup d →
    (past news : List Entry) (s : Step) → ⊤ → Ids setup past → Brought capacity setup past s news →
    Steady d (lines_of d past) → Steady d (lines_of d (news ++ past))
steady_step capacity setup d sound own past news s any ids told steady =
    elim (seen_from capacity setup d past news s sound own ids told) [
      | seen_here at ↦ steady_there capacity setup d past news s sound own ids at steady
      | seen_aside aside ↦ steady_passed d past news aside.passes steady
      | seen_lost lost no_next ↦ steady_lost d past news lost steady
    ]

legal_steady : (capacity : ℕ) (setup : Setup) (steps : List Step) (transcript : List Entry) (d : DeviceSetup) →
    IsSoundSetup setup → IsOf setup d → Legal capacity setup steps transcript → Steady d (lines_in d transcript)
legal_steady capacity setup steps transcript d sound own legal =
    along capacity setup (λ s. ⊤) (λ past. Steady d (lines_of d past)) sound (steady_step capacity setup d sound own)
    (λ past addr steady. steady) steps (onto [] transcript) (any_steps steps) legal (record { each = tt; goes_on = free_on d })

-- a job ends for want of an answer exactly after its third failed try of what it asks again
pub legal_given_up : (capacity : ℕ) (setup : Setup) (steps : List Step) (transcript : List Entry)
    (d : DeviceSetup) → IsSoundSetup setup → IsOf setup d → Legal capacity setup steps transcript →
    AllPast GivenUpAt (lines_in d transcript)
legal_given_up capacity setup steps transcript d sound own legal =
    (legal_steady capacity setup steps transcript d sound own legal).each

pub legal_tries : (capacity : ℕ) (setup : Setup) (steps : List Step) (transcript : List Entry)
    (d : DeviceSetup) → IsSoundSetup setup → IsOf setup d → Legal capacity setup steps transcript →
    AllPast TriesAt (lines_in d transcript)
legal_tries capacity setup steps transcript d sound own legal =
    all_tries (lines_in d transcript) (legal_given_up capacity setup steps transcript d sound own legal)

-- and no job goes on that has three
pub legal_few_tries : (capacity : ℕ) (setup : Setup) (steps : List Step) (transcript : List Entry)
    (d : DeviceSetup) → IsSoundSetup setup → IsOf setup d → Legal capacity setup steps transcript →
    failed_in (job (lines_in d transcript)) < 3
legal_few_tries capacity setup steps transcript d sound own legal =
    (legal_steady capacity setup steps transcript d sound own legal).goes_on.few
