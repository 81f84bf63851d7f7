-- A scan ends for want of an answer exactly after three failed tries of an address poll.
use Rattle.std.proofs.Common.{◌≡◌, ℕ, suc, ◌<◌, ◌≤◌, ◌==◌, ◌&&◌, ◌||◌, cond, true, false, Bool, List, [], ◌∷◌, ◌++◌, bytes_eq, slice_index, refl, ap, sym, subst, Option, Some, None, inl, inr, arith, eqb-true}
use Rattle.std.specs.Prelude.{⊤}
use Rattle.std.proofs.lemmas.Bool.Decides.{nat_tests}
use Rattle.cct_model.specs.terms.wire.CheckKind.{CheckKind}
use Rattle.cct_model.specs.terms.wire.CheckKind.TheVariants.{Simple, Crc}
use Rattle.cct_model.specs.terms.device.Setup.{Setup}
use Rattle.cct_model.specs.lines.command.Command.{Command}
use Rattle.cct_model.specs.lines.command.Step.{Step}
use Rattle.cct_model.specs.lines.entry.End.TheVariants.{NoAnswer}
use Rattle.cct_model.specs.lines.entry.Entry.{Entry}
use Rattle.cct_model.specs.lines.entry.Entry.TheVariants as entry
use Rattle.cct_model.specs.Setup.{IsSoundSetup}
use Rattle.cct_model.specs.Exchange.{ask, after_echo}
use Rattle.cct_model.specs.Line.{Line, scanned, ended, restarted}
use Rattle.cct_model.specs.Job.{works, job, with_line}
use Rattle.cct_model.specs.Scan.{same_check, scan_row, scan_tries, end_of_scan, end_by_row, poll_of}
use Rattle.cct_model.specs.Claims.{AllPast}
use Rattle.cct_model.specs.Legal.{with_end, Legal}
use Rattle.cct_model.specs.Transcript.{scan_lines, scan_line, onto}
use Rattle.cct_laws.specs.Ids.{Ids}
use Rattle.cct_laws.specs.Tries.{HasFewTries, HasThreeTries, ScanTriesAt}
use Rattle.cct_laws.proofs.jobs.AtDesk.{desk_apart}
use Rattle.cct_laws.proofs.jobs.StepBrings.{Brought, of_device, faulted, refused, began_scan, began_sale, nobody, polled, sold, balanced, of_desk, ended_short, lost_power, lost_in_put, lost_in_sale}
use Rattle.cct_laws.proofs.jobs.SeenAtOne.{unscanned, along}
use Rattle.cct_laws.proofs.jobs.EntriesOfStep.{any_steps}

-- what holds of the lines of address 0 after every step
pub record Polls (lines : List Line) : Type 0 where
  pub each : AllPast ScanTriesAt lines
  pub few : HasFewTries (job lines)

abbrev pub PollsAt : List Entry → Type 0
PollsAt past = Polls (scan_lines past)

-- one poll is at most one failed try more
tries_if : (b : Bool) (n : ℕ) → cond b (suc n) 0 ≤ suc n
tries_if true n = omega arith
tries_if false n = omega arith

pub tries_more : (check other : CheckKind) (addr : ℕ) (rest : Option (List ℕ)) (since : List Line) →
    scan_tries check (scanned other addr rest ∷ since) ≤ suc (scan_tries check since)
tries_more check other addr None since = tries_if (same_check check other && (addr == 0)) (scan_tries check since)
tries_more check other addr (Some rest) since = omega arith

few_more : (n before : ℕ) → n ≤ suc before → before < 3 → (n == 3) ≡ false → n < 3
few_more n before most few other = grind (arith, nat_tests)

-- the ends of a scan that isn't given up
row_end : (past : List Entry) (e : Entry) (since : List Line) (l : Line) (due : Option (CheckKind × ℕ)) →
    PollsAt (e ∷ past) → PollsAt (with_end 0 e (end_by_row since due) ++ past)
row_end past e since l None polls = record { each = (polls.few, polls.each); few = tt }
row_end past e since l (Some poll) polls = polls

poll_by : (past : List Entry) (c : Command) (since : List Line) (e : Entry) (check : CheckKind) (addr : ℕ)
    (rest : Option (List ℕ)) (simple crc : Bool) →
    scan_lines (e ∷ past) ≡ scanned check addr rest ∷ scan_lines past → job (scan_lines past) ≡ works c since →
    (scan_tries Simple (scanned check addr rest ∷ since) == 3) ≡ simple →
    (scan_tries Crc (scanned check addr rest ∷ since) == 3) ≡ crc → PollsAt past →
    PollsAt (with_end 0 e (cond (simple || crc) (Some NoAnswer)
    (end_by_row (scanned check addr rest ∷ since) (scan_row (scanned check addr rest ∷ since)))) ++ past)
poll_by past c since e check addr rest true crc lines_are is_job simple_test crc_test polls =
    let l = scanned check addr rest in
    let third : HasThreeTries (job (l ∷ scan_lines past)) =
    subst (λ j. HasThreeTries (with_line l j)) (sym is_job) (inl (eqb-true _ 3 simple_test)) in
    subst (λ ls. Polls (ended NoAnswer ∷ ls)) (sym lines_are)
    (record { each = (third, (polls.few, polls.each)); few = tt })
poll_by past c since e check addr rest false true lines_are is_job simple_test crc_test polls =
    let l = scanned check addr rest in
    let third : HasThreeTries (job (l ∷ scan_lines past)) =
    subst (λ j. HasThreeTries (with_line l j)) (sym is_job) (inr (eqb-true _ 3 crc_test)) in
    subst (λ ls. Polls (ended NoAnswer ∷ ls)) (sym lines_are)
    (record { each = (third, (polls.few, polls.each)); few = tt })
poll_by past c since e check addr rest false false lines_are is_job simple_test crc_test polls =
    let l = scanned check addr rest in
    let before : HasFewTries (works c since) = subst HasFewTries is_job polls.few in
    let after : HasFewTries (works c (l ∷ since)) = (
      few_more (scan_tries Simple (l ∷ since)) (scan_tries Simple since) (tries_more Simple check addr rest since)
          before.0 simple_test,
      few_more (scan_tries Crc (l ∷ since)) (scan_tries Crc since) (tries_more Crc check addr rest since)
          before.1 crc_test,
    ) in
    let few : HasFewTries (job (l ∷ scan_lines past)) = subst (λ j. HasFewTries (with_line l j)) (sym is_job) after in
    row_end past e (l ∷ since) l (scan_row (l ∷ since))
    (subst Polls (sym lines_are) (record { each = (polls.few, polls.each); few = few }))

poll_kept : (past : List Entry) (c : Command) (since : List Line) (e : Entry) (check : CheckKind) (addr : ℕ)
    (rest : Option (List ℕ)) →
    scan_lines (e ∷ past) ≡ scanned check addr rest ∷ scan_lines past → job (scan_lines past) ≡ works c since →
    PollsAt past → PollsAt (with_end 0 e (end_of_scan (scanned check addr rest ∷ since)) ++ past)
unfolding end_of_scan
poll_kept past c since e check addr rest lines_are is_job polls =
    poll_by past c since e check addr rest _ _ lines_are is_job refl refl polls

-- the line of a poll after whose echo this came
abbrev pub IsPoll : Option (List ℕ) → Line → Type 0
IsPoll rest l = (check : CheckKind) × (addr : ℕ) × (l ≡ scanned check addr rest)

poll_if : (b : Bool) (addr : ℕ) (rest : Option (List ℕ)) →
    IsPoll rest (cond b (scanned Simple addr rest) (scanned Crc addr rest))
poll_if true addr rest = (Simple, addr, refl)
poll_if false addr rest = (Crc, addr, refl)

pub scan_line_is : (sent piece : List ℕ) → IsPoll (after_echo sent piece) (scan_line sent piece)
unfolding scan_line
scan_line_is sent piece =
    poll_if (bytes_eq sent (ask Simple (slice_index sent 0) (poll_of (slice_index sent 0)))) (slice_index sent 0)
    (after_echo sent piece)

wire_kept : (past : List Entry) (c : Command) (since : List Line) (sent piece : List ℕ) →
    job (scan_lines past) ≡ works c since →
    PollsAt past → PollsAt (with_end 0 (entry.Wire 0 sent piece) (end_of_scan (scan_line sent piece ∷ since)) ++ past)
wire_kept past c since sent piece is_job polls =
    let is = scan_line_is sent piece in
    let wire = entry.Wire 0 sent piece in
    subst (λ l. PollsAt (with_end 0 wire (end_of_scan (l ∷ since)) ++ past)) (sym is.2)
    (poll_kept past c since wire is.0 is.1 (after_echo sent piece) (ap (λ l. l ∷ scan_lines past) is.2) is_job polls)

-- a power cut ends a scan
restart_kept : (past : List Entry) → PollsAt past → Polls (restarted ∷ scan_lines past)
restart_kept past polls = record { each = (polls.few, polls.each); few = tt }

-- what each step brings at address 0
pub polls_step : (capacity : ℕ) (setup : Setup) → IsSoundSetup setup → (past news : List Entry) (s : Step) → ⊤ →
    Ids setup past → Brought capacity setup past s news → PollsAt past → PollsAt (news ++ past)
polls_step capacity setup sound past _ _ any ids (of_device d s news own told) polls =
    subst Polls (sym (unscanned capacity setup d past news s sound own told)) polls
polls_step capacity setup sound past _ _ any ids (faulted f) polls = polls
polls_step capacity setup sound past _ _ any ids (refused c why was) polls = polls
polls_step capacity setup sound past _ _ any ids (began_scan is_free) polls =
    record { each = (polls.few, polls.each); few = (omega arith, omega arith) }
polls_step capacity setup sound past _ _ any ids (began_sale id price is_free lets) polls = polls
polls_step capacity setup sound past _ _ any ids (nobody addr none) polls = polls
polls_step capacity setup sound past _ _ any ids (polled c since check addr none is_job is_row) polls =
    wire_kept past c since _ _ is_job polls
polls_step capacity setup sound past _ _ any ids (sold id price since none selling) polls = polls
polls_step capacity setup sound past _ _ any ids balanced polls = polls
polls_step capacity setup sound past _ _ any ids (of_desk s e is) polls =
    subst Polls (sym (ap (λ front. front ++ scan_lines past) (desk_apart s e is).no_scan)) polls
polls_step capacity setup sound past _ _ any ids (ended_short addr id count why paid rest small range was) polls = polls
polls_step capacity setup sound past _ _ any ids (lost_power at choice) polls = restart_kept past polls
polls_step capacity setup sound past _ _ any ids (lost_in_put at choice d c since r own at_work is_row) polls =
    restart_kept past polls
polls_step capacity setup sound past _ _ any ids (lost_in_sale at choice id price since none selling) polls =
    restart_kept past polls

legal_polls : (capacity : ℕ) (setup : Setup) (steps : List Step) (transcript : List Entry) →
    IsSoundSetup setup → Legal capacity setup steps transcript → PollsAt (onto [] transcript)
legal_polls capacity setup steps transcript sound legal =
    along capacity setup (λ s. ⊤) PollsAt sound (polls_step capacity setup sound) (λ past addr polls. polls) steps
    (onto [] transcript) (any_steps steps) legal (record { each = tt; few = tt })

-- a scan ends for want of an answer exactly after its third failed try
pub legal_scans : (capacity : ℕ) (setup : Setup) (steps : List Step) (transcript : List Entry) →
    IsSoundSetup setup → Legal capacity setup steps transcript → AllPast ScanTriesAt (scan_lines (onto [] transcript))
legal_scans capacity setup steps transcript sound legal = (legal_polls capacity setup steps transcript sound legal).each

-- and no scan goes on that has three
pub legal_few_polls : (capacity : ℕ) (setup : Setup) (steps : List Step) (transcript : List Entry) →
    IsSoundSetup setup → Legal capacity setup steps transcript → HasFewTries (job (scan_lines (onto [] transcript)))
legal_few_polls capacity setup steps transcript sound legal =
    (legal_polls capacity setup steps transcript sound legal).few
