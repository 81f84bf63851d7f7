-- How many records are held for the lines of a device, and for all devices and the sale, after one line more.
use Rattle.std.proofs.Common.{◌≡◌, ◌≢◌, ℕ, suc, ◌+◌, ◌≤◌, false, cond, List, [], ◌∷◌, ◌++◌, refl, ap, ap₂, sym, ◌∙◌, subst, Option, Some, None, arith, eq-eqb}
use Rattle.std.proofs.lemmas.Bool.{ne_eqb}
use Rattle.cct_model.specs.terms.device.DeviceSetup.{DeviceSetup}
use Rattle.cct_model.specs.terms.device.Setup.{Setup}
use Rattle.cct_model.specs.terms.request.Request.{Request}
use Rattle.cct_model.specs.lines.record.Record.{Record}
use Rattle.cct_model.specs.lines.command.Command.{Command}
use Rattle.cct_model.specs.lines.command.Command.TheVariants as command
use Rattle.cct_model.specs.lines.entry.End.{End}
use Rattle.cct_model.specs.lines.entry.Entry.{Entry}
use Rattle.cct_model.specs.lines.entry.Entry.TheVariants as entry
use Rattle.cct_model.specs.Reply.{Reply}
use Rattle.cct_model.specs.Setup.{AreDistinct}
use Rattle.cct_model.specs.Line.{Line, exchange, put, taken, restarted}
use Rattle.cct_model.specs.Order.{order}
use Rattle.cct_model.specs.Job.{Job, free, works, with_line, job, sends, puts, epoch}
use Rattle.cct_model.specs.Rows.{row, end_of}
use Rattle.cct_model.specs.Refusal.{order_holds, holds_of, holds_at, sale_holds, held, need_for}
use Rattle.cct_model.specs.Transcript.{owner, lines_of, sale_lines}
use Rattle.cct_laws.specs.DeviceJobs.{with_ended}
use Rattle.cct_laws.specs.KeptHopper.{IsOwed}
use Rattle.cct_laws.specs.Law.{IsOf}
use Rattle.cct_laws.proofs.money.Sums.{sum_grows, sum_moved}
use Rattle.cct_laws.proofs.money.FromRecordsAlone.{restart_frees}
use Rattle.cct_laws.proofs.money.RecordsHeld.{holds_with, free_least, asked_no_more, put_least, put_goes_on, taken_holds, halted_holds}

-- the job of lines, at hand
holds_as : (d : DeviceSetup) (lines : List Line) (j : Job) → job lines ≡ j →
    holds_of d lines ≡ holds_with d j (epoch lines) (order lines)
holds_as d lines j is = ap (λ x. holds_with d x (epoch lines) (order lines)) is

-- lines that show the same job, epoch and order hold the same
pub holds_same : (d : DeviceSetup) (one other : List Line) → job one ≡ job other → epoch one ≡ epoch other →
    order one ≡ order other → holds_of d one ≡ holds_of d other
holds_same d one other jobs epochs orders =
    holds_as d one (job other) jobs
    ∙ ap₂ (λ e o. holds_with d (job other) e o) epochs orders
    ∙ sym (holds_as d other (job other) refl)

-- a device without a job holds no more than with one
holds_least : (d : DeviceSetup) (lines : List Line) → order_holds false (order lines) ≤ holds_of d lines
holds_least d lines = by_job (job lines) refl
  where
    by_job : (j : Job) → job lines ≡ j → order_holds false (order lines) ≤ holds_of d lines
    by_job free is =
        let same = holds_as d lines free is in
        omega arith
    by_job (works c since) is =
        let same = holds_as d lines (works c since) is in
        let least = free_least d c since (epoch lines) (order lines) in
        omega arith

-- a power cut
pub holds_restarted : (d : DeviceSetup) (lines : List Line) → holds_of d (restarted ∷ lines) ≤ holds_of d lines
holds_restarted d lines =
    let least = holds_least d lines in
    omega arith

-- a command, and a halt
pub holds_taken : (d : DeviceSetup) (c : Command) (lines : List Line) → job lines ≡ free →
    job (taken c ∷ lines) ≡ works c [] →
    IsOwed c (order lines) → holds_of d (taken c ∷ lines) ≤ holds_of d lines + need_for (Some d) c
holds_taken d c lines none begins is_owed =
    let before = holds_as d lines free none in
    let after = holds_as d (taken c ∷ lines) (works c []) begins in
    let more = taken_holds d c (epoch lines) (order lines) is_owed in
    omega arith

pub holds_halted : (d : DeviceSetup) (addr : ℕ) (lines : List Line) →
    holds_of d (taken (command.Halt addr) ∷ lines) ≡ holds_of d lines
holds_halted d addr lines = halted_holds d (command.Halt addr) (job lines) (epoch lines) (order lines)

-- an exchange and its end, over lines that may have a dispense more than those before
pub holds_asked : (d : DeviceSetup) (c : Command) (since : List Line) (q : Request) (got : Option Reply)
    (end : Option End)
    (lines between : List Line) → job lines ≡ works c since → row d c since (epoch lines) (order lines) ≡ sends q →
    job between ≡ job lines → epoch between ≡ epoch lines → order between ≡ order lines →
    holds_of d (with_ended end (exchange (Some q) got ∷ between)) ≤ holds_of d lines
holds_asked d c since q got None lines between is asks jobs epochs orders =
    let before = holds_as d lines (works c since) is in
    let after =
    holds_as d (exchange (Some q) got ∷ between) (works c (exchange (Some q) got ∷ since))
    (ap (with_line (exchange (Some q) got)) (jobs ∙ is)) in
    let same : holds_with d (works c (exchange (Some q) got ∷ since)) (epoch between) (order between)
    ≡ holds_with d (works c (exchange (Some q) got ∷ since)) (epoch lines) (order lines) =
    ap₂ (λ e o. holds_with d (works c (exchange (Some q) got ∷ since)) e o) epochs orders in
    let fewer = asked_no_more d c since (epoch lines) (order lines) q got asks in
    omega arith
holds_asked d c since q got (Some end) lines between is asks jobs epochs orders =
    let least = holds_least d lines in
    let same : order_holds false (order between) ≡ order_holds false (order lines) = ap (order_holds false) orders in
    omega arith

-- a put and its end
pub holds_put : (d : DeviceSetup) (c : Command) (since : List Line) (r : Record) (lines : List Line) →
    job lines ≡ works c since → row d c since (epoch lines) (order lines) ≡ puts r →
    suc (holds_of d (with_ended (end_of d c (put r) since (epoch lines)) (put r ∷ lines))) ≤ holds_of d lines
holds_put d c since r lines is puts_it = by_end (end_of d c (put r) since (epoch lines)) refl
  where
    by_end : (end : Option End) → end_of d c (put r) since (epoch lines) ≡ end →
        suc (holds_of d (with_ended end (put r ∷ lines))) ≤ holds_of d lines
    by_end None none =
        let before = holds_as d lines (works c since) is in
        let after = holds_as d (put r ∷ lines) (works c (put r ∷ since)) (ap (with_line (put r)) is) in
        let fewer = put_goes_on d c since (epoch lines) (order lines) r puts_it none in
        omega arith
    by_end (Some end) some =
        let before = holds_as d lines (works c since) is in
        let fewer = put_least d c since (epoch lines) (order lines) r puts_it in
        omega arith

-- a record that was kept when the power was cut
pub holds_kept : (d : DeviceSetup) (c : Command) (since : List Line) (r : Record) (lines : List Line) →
    job lines ≡ works c since → row d c since (epoch lines) (order lines) ≡ puts r →
    suc (holds_of d (put r ∷ restarted ∷ lines)) ≤ holds_of d lines
holds_kept d c since r lines is puts_it =
    let before = holds_as d lines (works c since) is in
    let fewer = put_least d c since (epoch lines) (order lines) r puts_it in
    omega arith

-- all devices and the sale

-- what is held of one device changes, and no more of the others
pub held_moved : (setup : Setup) (d : DeviceSetup) (past after : List Entry) → AreDistinct setup.devices →
    IsOf setup d →
    ((e : DeviceSetup) → e.addr ≢ d.addr → holds_of e (lines_of e after) ≤ holds_of e (lines_of e past)) →
    sale_holds (job (sale_lines after)) ≤ sale_holds (job (sale_lines past)) →
    held setup after + holds_of d (lines_of d past) ≤ held setup past + holds_of d (lines_of d after)
held_moved setup d past after distinct is_of others sale =
    let moved = sum_moved (holds_at after) (holds_at past) setup.devices d distinct is_of others in
    omega arith

-- a power cut leaves no more held
pub held_restarted : (setup : Setup) (past : List Entry) (n : ℕ) → held setup (entry.Crash n ∷ past) ≤ held setup past
held_restarted setup past n =
    let grows =
    sum_grows (holds_at (entry.Crash n ∷ past)) (holds_at past) setup.devices
    (λ e. holds_restarted e (lines_of e past)) in
    omega arith

-- nor does one that kept a record: it leaves one less
pub held_kept : (setup : Setup) (d : DeviceSetup) (past : List Entry) (n : ℕ) (c : Command) (since : List Line)
    (r : Record) →
    AreDistinct setup.devices → IsOf setup d → owner past r ≡ d.addr → job (lines_of d past) ≡ works c since →
    row d c since (epoch (lines_of d past)) (order (lines_of d past)) ≡ puts r →
    suc (held setup (entry.Kept r ∷ entry.Crash n ∷ past)) ≤ held setup past
held_kept setup d past n c since r distinct is_of own is puts_it =
    let moved =
    held_moved setup d past (entry.Kept r ∷ entry.Crash n ∷ past) distinct is_of
    (λ e other.
    subst (λ b. holds_of e (cond b (put r ∷ []) [] ++ restarted ∷ lines_of e past) ≤ holds_of e (lines_of e past))
    (sym (ne_eqb (owner past r) e.addr (λ same. other (sym same ∙ own)))) (holds_restarted e (lines_of e past)))
    (subst (λ j. sale_holds j ≤ sale_holds (job (sale_lines past)))
    (sym ((restart_frees (entry.Kept r ∷ entry.Crash n ∷ past) tt).sale)) (omega arith)) in
    let here : suc (holds_of d (lines_of d (entry.Kept r ∷ entry.Crash n ∷ past))) ≤ holds_of d (lines_of d past) =
    subst (λ b. suc (holds_of d (cond b (put r ∷ []) [] ++ restarted ∷ lines_of d past)) ≤ holds_of d (lines_of d past))
    (sym (eq-eqb (owner past r) d.addr own)) (holds_kept d c since r (lines_of d past) is puts_it) in
    omega arith
