-- What records alone show.
use Rattle.std.proofs.Common.{◌≡◌, ℕ, ◌+◌, ◌-◌, ◌==◌, Bool, true, false, cond, List, [], ◌∷◌, ◌++◌, refl, ap, ◌∙◌, Option, Some, None, arith}
use Rattle.cct_model.specs.terms.device.DeviceBody.{DeviceBody}
use Rattle.cct_model.specs.terms.device.DeviceSetup.{DeviceSetup}
use Rattle.cct_model.specs.terms.device.Setup.{Setup}
use Rattle.cct_model.specs.terms.request.Request.{Request}
use Rattle.cct_model.specs.lines.record.Record.{Record}
use Rattle.cct_model.specs.lines.record.Record.TheVariants as record_of
use Rattle.cct_model.specs.lines.entry.Entry.{Entry}
use Rattle.cct_model.specs.lines.entry.Entry.TheVariants as entry
use Rattle.cct_model.specs.lines.entry.Totals.{Totals}
use Rattle.cct_model.specs.declared.judging.EpochState.{EpochState}
use Rattle.cct_model.specs.declared.judging.OpenOrder.{OpenOrder}
use Rattle.cct_model.specs.History.{Met}
use Rattle.cct_model.specs.Line as line
use Rattle.cct_model.specs.Line.{Line, accepted, inhibited, alien, fell, reset, exchange, put, taken, ended, restarted}
use Rattle.cct_model.specs.Order.{order_by, order}
use Rattle.cct_model.specs.Exchange.{asked}
use Rattle.cct_model.specs.Job.{Job, free, works, job, epoch_by, epoch, address_of}
use Rattle.cct_model.specs.Rows.{closes_order}
use Rattle.cct_model.specs.Records.{records, records_at, epoch_of, epoch_in, order_of, order_in, greatest_id}
use Rattle.cct_model.specs.Money.{sum_over, posted_in, paid_in, sold_in, reserved_in, reserved_by, reserved_by_sale, reserved_at_work, reserved, totals}
use Rattle.cct_model.specs.Refusal.{job_holds, order_holds, holds_at, sale_holds, held, running_id, sale_id, greatest_running, last_id}
use Rattle.cct_model.specs.Transcript.{owner, lines_of, doses, doses_of, got_by, sold_line, sale_lines}
use Rattle.cct_model.proofs.Doses.{undosed}
use Rattle.cct_laws.specs.Recorded.{put_in, IsRestart, HasNoJob, many_open, open_orders, totals_in}
use Rattle.cct_laws.proofs.money.Sums.{sum_none, sum_same}

-- lines that are no records

no_put : (here : Bool) (l : Line) (lines : List Line) → put_in (l ∷ lines) ≡ put_in lines →
    put_in (cond here (l ∷ []) [] ++ lines) ≡ put_in lines
no_put true l lines none = none
no_put false l lines none = refl

pub no_put_doses : (body : DeviceBody) (serial : ℕ) (past : List Met) (asked : Option Request) (lines : List Line) →
    put_in (doses body serial past asked ++ lines) ≡ put_in lines
no_put_doses = undosed put_in (record { dosed = λ count lines. refl; stacked = λ coin lines. refl })

pub put_here : (here : Bool) (r : Record) (lines : List Line) (before : List Record) → put_in lines ≡ before →
    put_in (cond here (put r ∷ []) [] ++ lines) ≡ cond here (r ∷ before) before
put_here true r lines before same = ap (λ rs. r ∷ rs) same
put_here false r lines before same = same

-- the records among the lines of a device are those at its address
pub put_recorded : (d : DeviceSetup) (past : List Entry) → put_in (lines_of d past) ≡ records_at d.addr (records past)
put_recorded d [] = refl
put_recorded d (entry.Put r ∷ past) =
    put_here (owner past r == d.addr) r (lines_of d past) (records_at d.addr (records past)) (put_recorded d past)
put_recorded d (entry.Kept r ∷ past) =
    put_here (owner past r == d.addr) r (lines_of d past) (records_at d.addr (records past)) (put_recorded d past)
put_recorded d (entry.Accepted addr c ∷ past) =
    no_put (addr == d.addr) (accepted c) (lines_of d past) refl ∙ put_recorded d past
put_recorded d (entry.Inhibited addr place ∷ past) =
    no_put (addr == d.addr) (inhibited place) (lines_of d past) refl ∙ put_recorded d past
put_recorded d (entry.Alien addr ∷ past) =
    no_put (addr == d.addr) alien (lines_of d past) refl ∙ put_recorded d past
put_recorded d (entry.Fell addr ∷ past) =
    no_put (addr == d.addr) fell (lines_of d past) refl ∙ put_recorded d past
put_recorded d (entry.Reset addr ∷ past) =
    no_put (addr == d.addr) line.reset (lines_of d past) refl ∙ put_recorded d past
put_recorded d (entry.Taken command ∷ past) =
    no_put (address_of command == d.addr) (taken command) (lines_of d past) refl ∙ put_recorded d past
put_recorded d (entry.Wire addr sent piece ∷ past) =
    wired (addr == d.addr) (exchange (asked d.kind sent) (got_by d sent piece)) refl ∙ put_recorded d past
  where
    wired : (here : Bool) (l : Line) → put_in (l ∷ doses_of d past sent ++ lines_of d past)
        ≡ put_in (doses_of d past sent ++ lines_of d past) →
        put_in ((cond here (l ∷ []) [] ++ doses_of d past sent) ++ lines_of d past) ≡ put_in (lines_of d past)
    wired true l none = none ∙ no_put_doses d.body d.serial _ _ (lines_of d past)
    wired false l none = no_put_doses d.body d.serial _ _ (lines_of d past)
put_recorded d (entry.Ended addr end ∷ past) =
    no_put (addr == d.addr) (ended end) (lines_of d past) refl ∙ put_recorded d past
put_recorded d (entry.Crash n ∷ past) = put_recorded d past
put_recorded d (e ∷ past) = put_recorded d past

-- the epoch and the open order of lines are those of the records among them
pub epoch_put : (lines : List Line) → epoch lines ≡ epoch_of (put_in lines)
epoch_put [] = refl
epoch_put (put r ∷ lines) = ap (epoch_by r) (epoch_put lines)
epoch_put (l ∷ lines) = epoch_put lines

pub order_put : (lines : List Line) → order lines ≡ order_of (put_in lines)
order_put [] = refl
order_put (put r ∷ lines) = ap (order_by r) (order_put lines)
order_put (l ∷ lines) = order_put lines

pub epoch_recorded : (d : DeviceSetup) (past : List Entry) → epoch (lines_of d past) ≡ epoch_in d.addr (records past)
epoch_recorded d past = epoch_put (lines_of d past) ∙ ap epoch_of (put_recorded d past)

pub order_recorded : (d : DeviceSetup) (past : List Entry) → order (lines_of d past) ≡ order_in d.addr (records past)
order_recorded d past = order_put (lines_of d past) ∙ ap order_of (put_recorded d past)

-- after a power cut

freed : (here : Bool) (r : Record) (lines : List Line) → job (cond here (put r ∷ []) [] ++ restarted ∷ lines) ≡ free
freed true r lines = refl
freed false r lines = refl

sale_freed : (r : Record) (lines : List Line) → job (sold_line r ++ restarted ∷ lines) ≡ free
sale_freed (record_of.Sold id price) lines = refl
sale_freed r lines = refl

-- no job is at any address
pub restart_frees : (past : List Entry) → IsRestart past → HasNoJob past
restart_frees (entry.Crash n ∷ past) at = record { devices = λ d. refl; scan = refl; sale = refl }
restart_frees (entry.Kept r ∷ entry.Crash n ∷ past) at =
    record {
      devices = λ d. freed (owner (entry.Crash n ∷ past) r == d.addr) r (lines_of d past);
      scan = refl;
      sale = sale_freed r (sale_lines past);
    }
restart_frees past at = absurd at

-- where no job runs, nothing is reserved for one
pub nothing_at_work : (setup : Setup) (past : List Entry) → HasNoJob past → reserved_at_work setup past ≡ 0
nothing_at_work setup past none =
    let devices : sum_over (λ d. reserved_by setup d (job (lines_of d past))) setup.devices ≡ 0 =
    sum_none (λ d. reserved_by setup d (job (lines_of d past))) setup.devices
    (λ d. ap (reserved_by setup d) (none.devices d)) in
    let sale : reserved_by_sale setup (job (sale_lines past)) ≡ 0 = ap (reserved_by_sale setup) none.sale in
    omega arith

pub reserved_recorded : (setup : Setup) (past : List Entry) → HasNoJob past →
    reserved setup past ≡ reserved_in setup (records past)
reserved_recorded setup past none =
    let nothing = nothing_at_work setup past none in
    omega arith

-- one record is held for each open order
held_for : (d : DeviceSetup) (j : Job) (state : EpochState) (owed order_is : Option OpenOrder) → j ≡ free →
    owed ≡ order_is → job_holds d state j + order_holds (closes_order d j) owed ≡ many_open order_is
held_for d (works c since) state owed order_is none same = absurd cc
held_for d free state None order_is none same = ap many_open same
held_for d free state (Some o) order_is none same = ap many_open same

pub held_recorded : (setup : Setup) (past : List Entry) → HasNoJob past →
    held setup past ≡ open_orders setup (records past)
held_recorded setup past none =
    let devices : sum_over (holds_at past) setup.devices ≡ open_orders setup (records past) =
    sum_same (holds_at past) (λ d. many_open (order_in d.addr (records past))) setup.devices
    (λ d. held_for d (job (lines_of d past)) (epoch (lines_of d past)) (order (lines_of d past))
    (order_in d.addr (records past)) (none.devices d) (order_recorded d past)) in
    let sale : sale_holds (job (sale_lines past)) ≡ 0 = ap sale_holds none.sale in
    omega arith

-- the last id is the greatest that a record uses
greatest_none : (past : List Entry) (ds : List DeviceSetup) → HasNoJob past → greatest_running past ds ≡ 0
greatest_none past [] none = refl
greatest_none past (d ∷ ds) none =
    let here : running_id d (job (lines_of d past)) ≡ 0 = ap (running_id d) (none.devices d) in
    let rest = greatest_none past ds none in
    omega arith

pub last_recorded : (setup : Setup) (past : List Entry) → HasNoJob past →
    last_id setup past ≡ greatest_id (records past)
last_recorded setup past none =
    let devices = greatest_none past setup.devices none in
    let sale : sale_id (job (sale_lines past)) ≡ 0 = ap sale_id none.sale in
    omega arith

-- what the operator has is what the records show
abbrev totals_of : Setup → List Record → ℕ → Totals
totals_of setup before much = record {
  available = posted_in setup before - (much + paid_in setup before + sold_in before);
  reserved = much;
  paid = paid_in setup before;
  sold = sold_in before;
}

pub totals_recorded : (setup : Setup) (past : List Entry) → HasNoJob past →
    totals setup past ≡ totals_in setup (records past)
totals_recorded setup past none =
    ap (λ (much : ℕ). totals_of setup (records past) much) (reserved_recorded setup past none)
