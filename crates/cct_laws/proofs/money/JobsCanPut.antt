-- What running jobs need to put records that fit those before them, which every legal step keeps, whatever the wire
-- does; and that what they put fits.
use Rattle.std.proofs.Common.{◌≡◌, ℕ, List, [], ◌++◌, refl, ap, sym, ◌∙◌, subst, Option, Some, None}
use Rattle.std.proofs.lemmas.Bool.{and_from}
use Rattle.std.specs.Prelude.{⊤}
use Rattle.cct_model.specs.terms.wire.TheConstants.{BROADCAST}
use Rattle.cct_model.specs.terms.device.DeviceSetup.{DeviceSetup}
use Rattle.cct_model.specs.terms.device.Setup.{Setup}
use Rattle.cct_model.specs.lines.record.Record.{Record}
use Rattle.cct_model.specs.lines.record.Record.TheVariants as record_of
use Rattle.cct_model.specs.lines.command.Command.{Command}
use Rattle.cct_model.specs.lines.command.Command.TheVariants as command
use Rattle.cct_model.specs.lines.command.Step.{Step}
use Rattle.cct_model.specs.lines.entry.End.{End}
use Rattle.cct_model.specs.lines.entry.Entry.{Entry}
use Rattle.cct_model.specs.Setup.{IsSoundSetup}
use Rattle.cct_model.specs.Line.{Line}
use Rattle.cct_model.specs.Order.{order}
use Rattle.cct_model.specs.Job.{Job, free, works, job, epoch, puts}
use Rattle.cct_model.specs.Rows.{rows_of, rest}
use Rattle.cct_model.specs.Records.{records}
use Rattle.cct_model.specs.Legal.{with_end, keeping_restart}
use Rattle.cct_model.specs.Script.{IsCommand, IsInRange}
use Rattle.cct_model.specs.Transcript.{lines_of, sale_own, sale_lines}
use Rattle.cct_laws.specs.Ids.{waiting, Ids}
use Rattle.cct_laws.specs.Law.{IsOf}
use Rattle.cct_laws.proofs.jobs.AtDesk.{desk_apart}
use Rattle.cct_laws.proofs.jobs.StepBrings.{AtWork, row_after, poll_wire, poll_end, Selling, Due, from_job, from_sale, Brought, of_device, faulted, refused, began_scan, began_sale, nobody, polled, sold, balanced, of_desk, ended_short, lost_power, lost_in_put, lost_in_sale}
use Rattle.cct_laws.proofs.steps.EachKeeps.{IsRanged, ranged_step, works_at}
use Rattle.cct_laws.proofs.money.JobsNeed.{NeedsIn, needs_as, needs_at, needs_step}
use Rattle.cct_laws.proofs.money.FromRecordsAlone.{epoch_recorded, order_recorded, restart_frees}
use Rattle.cct_laws.proofs.jobs.LeftAlone.{unsold, off_host}
use Rattle.cct_laws.proofs.money.PutsFollow.{Fits, NewOf, Stands, unopened, not_none, row_fits}
use Rattle.cct_laws.proofs.orders.Orders.{Belongs}

-- a sale is of a command in its range
abbrev pub IsSold : Job → Type 0
IsSold free = ⊤
IsSold (works c since) = IsCommand c

-- a sale is in its range, and the job at each device is for its kind and in its range, and has what it needs
pub record Base (setup : Setup) (past : List Entry) : Type 0 where
  pub sells : IsSold (job (sale_lines past))
  pub ranged : (e : DeviceSetup) → IsOf setup e → IsRanged e (job (lines_of e past))
  pub needs : (e : DeviceSetup) → IsOf setup e → NeedsIn e (lines_of e past)

-- before any entry no job runs
pub base_start : (setup : Setup) → Base setup []
base_start setup = record {
  sells = tt;
  ranged = λ e own. tt;
  needs = λ e own. needs_as e [] free refl tt;
}

-- what a job at a device puts fits
new_of : (setup : Setup) (d : DeviceSetup) (past : List Entry) (c : Command) (since : List Line) → Ids setup past →
    IsOf setup d → job (lines_of d past) ≡ works c since → NewOf (records past) (rest d c since)
new_of setup d past c since ids own is = λ id waits.
    unopened id (records past) (ids.waits d id own (ap (waiting (rows_of d)) is ∙ waits))

put_fits : (setup : Setup) (d : DeviceSetup) (past : List Entry) (c : Command) (since : List Line) (r : Record) →
    Ids setup past → IsOf setup d → Base setup past → Belongs setup (records past) → AtWork d past c since →
    row_after d past c since ≡ puts r → Fits setup (records past) r
put_fits setup d past c since r ids own base belongs at_work is_row =
    let in_range = works_at d past c since at_work (base.ranged d own) in
    let state = epoch (lines_of d past) in
    let owed = order (lines_of d past) in
    let stands : Stands setup (records past) d d.addr state owed = record {
      found = own;
      epoch_is = sym (epoch_recorded d past);
      order_is = sym (order_recorded d past);
      belongs = belongs;
    } in
    row_fits setup (records past) d c since state owed r
    (subst (λ a. Stands setup (records past) d a state owed) (sym at_work.is_here) stands) in_range.in_range
    in_range.suited (needs_at d (lines_of d past) c since at_work.job_is (base.needs d own))
    (new_of setup d past c since ids own at_work.job_is) is_row

-- and so does what a sale puts
sale_fits : (setup : Setup) (past : List Entry) (id price : ℕ) (since : List Line) → Base setup past →
    Selling past id price since → Fits setup (records past) (record_of.Sold id price)
sale_fits setup past id price since base selling =
    let range : IsCommand (command.Vend id price) = subst IsSold selling.job_is base.sells in
    and_from _ _ (not_none id range.0) (not_none price range.1)

-- so any record that is due does
pub due_fits : (setup : Setup) (past : List Entry) (r : Record) → Ids setup past → Base setup past →
    Belongs setup (records past) → Due setup past r → Fits setup (records past) r
due_fits setup past _ ids base belongs (from_job d c since r own at_work is_row) =
    put_fits setup d past c since r ids own base belongs at_work is_row
due_fits setup past _ ids base belongs (from_sale id price since none selling) =
    sale_fits setup past id price since base selling

-- a poll is no line of a sale
pub scan_unsold : (past : List Entry) (x : Entry) (end : Option End) → sale_own x ≡ [] →
    sale_lines (with_end BROADCAST x end ++ past) ≡ sale_lines past
scan_unsold past x None none = ap (λ front. front ++ sale_lines past) none
scan_unsold past x (Some end) none = ap (λ front. front ++ sale_lines past) none

-- each step keeps it
sells_step : (capacity : ℕ) (setup : Setup) (past news : List Entry) (s : Step) → IsSoundSetup setup → IsInRange s →
    Brought capacity setup past s news → IsSold (job (sale_lines past)) → IsSold (job (sale_lines (news ++ past)))
sells_step capacity setup past _ _ sound range (of_device d s news own at) sells =
    subst IsSold (sym (ap job (unsold capacity setup d past news s (λ same. off_host setup d sound own (sym same)) at)))
    sells
sells_step capacity setup past _ _ sound range (faulted f) sells = sells
sells_step capacity setup past _ _ sound range (refused c why was) sells = sells
sells_step capacity setup past _ _ sound range (began_scan is_free) sells = sells
sells_step capacity setup past _ _ sound range (began_sale id price is_free lets) sells = range
sells_step capacity setup past _ _ sound range (nobody addr none) sells = sells
sells_step capacity setup past _ _ sound range (polled c since check addr none is_job is_row) sells =
    subst IsSold
    (sym (ap job (scan_unsold past (poll_wire setup past check addr) (poll_end setup past since check addr) refl)))
    sells
sells_step capacity setup past _ _ sound range (sold id price since none selling) sells = tt
sells_step capacity setup past _ _ sound range balanced sells = sells
sells_step capacity setup past _ _ sound range (of_desk s e is) sells =
    subst IsSold (sym (ap (λ front. job (front ++ sale_lines past)) (desk_apart s e is).no_sale)) sells
sells_step capacity setup past _ _ sound range (ended_short addr id count why paid rest small fits was) sells =
    sells
sells_step capacity setup past _ _ sound range (lost_power at choice) sells = tt
sells_step capacity setup past _ _ sound range (lost_in_put at choice d c since r own at_work is_row) sells =
    subst IsSold (sym (restart_frees (keeping_restart past r ++ past) tt).sale) tt
sells_step capacity setup past _ _ sound range (lost_in_sale at choice id price since none selling) sells = tt

pub base_step : (capacity : ℕ) (setup : Setup) (past news : List Entry) (s : Step) → IsSoundSetup setup →
    IsInRange s → Ids setup past → Brought capacity setup past s news → Base setup past → Base setup (news ++ past)
base_step capacity setup past news s sound range ids told base = record {
  sells = sells_step capacity setup past news s sound range told base.sells;
  ranged = λ e own. ranged_step capacity setup e past news s sound own range ids told (base.ranged e own);
  needs = λ e own. needs_step capacity setup e past news s sound own ids told (base.needs e own);
}
