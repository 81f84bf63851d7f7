-- In each life of a host a job ends for want of an answer exactly after the third failed try, and no settlement is refused
-- for want of room.
use Rattle.std.proofs.Common.{◌≡◌, ◌≢◌, ℕ, ◌+◌, ◌≤◌, ◌<◌, ◌==◌, Bool, true, false, cond, max, List, [], ◌∷◌, ◌++◌, length, map, refl, ap, sym, subst, Some, arith}
use Rattle.cct_model.specs.terms.device.DeviceSetup.{DeviceSetup}
use Rattle.cct_model.specs.lines.command.Command.TheVariants as command
use Rattle.cct_model.specs.lines.command.CommandNo.TheVariants.{JournalFull}
use Rattle.cct_model.specs.lines.record.Record.{Record}
use Rattle.cct_model.specs.lines.entry.Entry.TheVariants as entry
use Rattle.cct_model.specs.Claims.{AllPast}
use Rattle.cct_model.specs.Job.{free, job, with_line}
use Rattle.cct_model.specs.Line.{Line, put, restarted}
use Rattle.cct_model.specs.Records.{records}
use Rattle.cct_model.specs.Refusal.{held, refusal}
use Rattle.cct_model.specs.Transcript.{lines_of, owner, scan_lines}
use Rattle.cct_laws.specs.Law.{IsOf}
use Rattle.cct_laws.specs.Recorded.{open_orders}
use Rattle.cct_laws.specs.Tries.{HasFewTries, ScanTriesAt, TriesAt, failed_in}
use Rattle.cct_laws.proofs.jobs.Scans.{Polls, PollsAt, polls_step}
use Rattle.cct_laws.proofs.jobs.Tries.{GivenUpAt, Steady, all_tries, steady_step}
use Rattle.cct_laws.proofs.money.Journal.{settle_has_room}
use Rattle.cct_laws_live.specs.Life.{EachLife}
use Rattle.cct_laws_live.specs.Live.{shown, started}
use Rattle.cct_laws_live.specs.Tries.{SeenTriesAt}
use Rattle.cct_laws_live.proofs.Followed.{alike_shown}
use Rattle.cct_laws_live.proofs.LifeBooks.{life_room}
use Rattle.cct_laws_live.proofs.LifeLaws.{life_along}
use Rattle.cct_laws_live.proofs.Tries.{scans_shown, tries_seen, tries_undosed}
use Rattle.cct_laws_live.proofs.Undosed.{lines_shown}

-- records that are found are lines of no job
record IsQuiet (lines : List Line) : Type 0 where
  job_is : job lines ≡ free
  each : AllPast GivenUpAt lines

put_quiet : (here : Bool) (r : Record) (lines : List Line) → IsQuiet lines → IsQuiet (cond here (put r ∷ []) [] ++ lines)
put_quiet true r lines quiet = record {
  job_is = ap (with_line (put r)) quiet.job_is;
  each = (subst (λ j. failed_in j < 3) (sym quiet.job_is) (omega arith), quiet.each);
}
put_quiet false r lines quiet = quiet

puts_quiet : (d : DeviceSetup) (found : List Record) → IsQuiet (lines_of d (map (λ r. entry.Put r) found))
puts_quiet d [] = record { job_is = refl; each = tt }
puts_quiet d (r ∷ found) =
    let puts = map (λ r. entry.Put r) found in
    put_quiet (owner puts r == d.addr) r (lines_of d puts) (puts_quiet d found)

steady_start : (d : DeviceSetup) (found : List Record) → Steady d (lines_of d (started found))
steady_start d found =
    let quiet = puts_quiet d found in
    record {
      each = (subst (λ j. failed_in j < 3) (sym quiet.job_is) (omega arith), quiet.each);
      goes_on = record { few = omega arith; none_of_once = tt };
    }

pub life_tries : EachLife (λ capacity setup found past. (d : DeviceSetup) → IsOf setup d →
    AllPast SeenTriesAt (lines_of d past))
life_tries capacity setup found steps past sound life d own =
    life_along (λ es. Steady d (lines_of d es)) (λ es. AllPast SeenTriesAt (lines_of d es)) capacity setup found steps past
    sound life
    (λ before news s ids told steady. steady_step capacity setup d sound own before news s tt ids told steady)
    (λ before addr steady. steady)
    (λ before steady.
    tries_seen (lines_of d (shown before))
    (subst (AllPast TriesAt) (lines_shown d before) (tries_undosed (lines_of d before) (all_tries (lines_of d before) steady.each))))
    (steady_start d found)

pub life_few_tries : EachLife (λ capacity setup found past. (d : DeviceSetup) → IsOf setup d →
    failed_in (job (lines_of d past)) < 3)
life_few_tries capacity setup found steps past sound life d own =
    life_along (λ es. Steady d (lines_of d es)) (λ es. failed_in (job (lines_of d es)) < 3) capacity setup found steps past
    sound life
    (λ before news s ids told steady. steady_step capacity setup d sound own before news s tt ids told steady)
    (λ before addr steady. steady)
    (λ before steady. subst (λ at_work. failed_in at_work < 3) ((alike_shown before).devices d) steady.goes_on.few)
    (steady_start d found)

-- and of no scan
puts_unscanned : (found : List Record) → scan_lines (map (λ r. entry.Put r) found) ≡ []
puts_unscanned [] = refl
puts_unscanned (r ∷ found) = puts_unscanned found

polls_start : (found : List Record) → PollsAt (started found)
polls_start found =
    subst (λ ls. Polls (restarted ∷ ls)) (sym (puts_unscanned found)) (record { each = (tt, tt); few = tt })

pub life_scans : EachLife (λ capacity setup found past. AllPast ScanTriesAt (scan_lines past))
life_scans capacity setup found steps past sound life =
    life_along PollsAt (λ es. AllPast ScanTriesAt (scan_lines es)) capacity setup found steps past sound life
    (λ before news s ids told polls. polls_step capacity setup sound before news s tt ids told polls)
    (λ before addr polls. polls)
    (λ before polls. subst (AllPast ScanTriesAt) (scans_shown before) polls.each) (polls_start found)

pub life_few_polls : EachLife (λ capacity setup found past. HasFewTries (job (scan_lines past)))
life_few_polls capacity setup found steps past sound life =
    life_along PollsAt (λ es. HasFewTries (job (scan_lines es))) capacity setup found steps past sound life
    (λ before news s ids told polls. polls_step capacity setup sound before news s tt ids told polls)
    (λ before addr polls. polls)
    (λ before polls. subst (λ ls. HasFewTries (job ls)) (scans_shown before) polls.few) (polls_start found)

-- a settlement
pub life_settle : EachLife (λ capacity setup found past. length found + open_orders setup found ≤ capacity →
    (addr used held need : ℕ) → refusal capacity setup past (command.Settle addr) ≢ Some (JournalFull used held need))
life_settle capacity setup found steps past sound life fits addr used many need =
    let most = life_room capacity setup found steps past sound life in
    settle_has_room capacity setup past addr
    (within (length (records past) + held setup past) capacity (length found + open_orders setup found) most fits) used many
    need
  where
    within : (all most other : ℕ) → all ≤ max most other → other ≤ most → all ≤ most
    within all most other le fits = omega (arith, le, fits)
