-- The open order after a job's record was put.
use Rattle.std.proofs.Common.{◌≡◌, List, sym, ap, ◌∙◌, Option}
use Rattle.cct_model.specs.lines.command.Command.{Command}
use Rattle.cct_model.specs.lines.record.Record.{Record}
use Rattle.cct_model.specs.lines.record.Record.TheVariants.{Epoch, EpochEnd}
use Rattle.cct_model.specs.terms.device.DeviceSetup.{DeviceSetup}
use Rattle.cct_model.specs.declared.judging.EpochState.{EpochState}
use Rattle.cct_model.specs.Line.{Line}
use Rattle.cct_model.specs.Job.{address_of, accepts_before, accepts_read, credits_read, mask_read}
use Rattle.cct_model.specs.Order.{order_by}
use Rattle.cct_jobs.specs.declared.job.Job.{Job}
use Rattle.cct_jobs.specs.declared.job.Job.TheVariants.{Asks, StartPuts, RoundPuts, StopPuts, StopEnds, OrderOpens, OrderCloses, Done}
use Rattle.cct_jobs.specs.declared.job.Need.TheVariants as need
use Rattle.cct_jobs.specs.declared.owed.Owed.{Owed}
use Rattle.cct_jobs.specs.Jobs.{Stands, need_of, opened_by, order_of, owed_after}
use Rattle.cct_jobs.proofs.Owners.{close_leaves_none, reading_owes}
use Rattle.cct_jobs.proofs.Puts.{round_row, stop_row}

owes_by : (d : DeviceSetup) (job : Job) (c : Command) (since : List Line) (state : EpochState) (before : Option Owed)
    (entry : Record) → need_of job ≡ need.Put entry → Stands d job c since state (order_of before)
    → order_of (owed_after job before) ≡ order_by entry (order_of before)
owes_by d (StartPuts device mask counted) c since state before entry e at =
    let same : Epoch device.addr mask counted.accepts ≡ entry = cc in
    ap (λ r. order_by r (order_of before)) same
owes_by d (RoundPuts own end) c since state before entry e at =
    let same : own ≡ entry = cc in
    sym (reading_owes (order_of before) (address_of c) state (credits_read since) (mask_read since) (accepts_before since) (accepts_read since) own
    (round_row d own end c since state (order_of before) at))
    ∙ ap (λ r. order_by r (order_of before)) same
owes_by d (StopPuts device own end) c since state before entry e (device_is, rest_is, at) =
    let same : own ≡ entry = cc in
    sym (reading_owes (order_of before) (address_of c) state (credits_read since) (mask_read since) (accepts_before since) (accepts_read since) own
    (stop_row d device own end c since state (order_of before) at))
    ∙ ap (λ r. order_by r (order_of before)) same
owes_by d (StopEnds device) c since state before entry e at =
    let same : EpochEnd device.addr ≡ entry = cc in
    ap (λ r. order_by r (order_of before)) same
owes_by d (OrderOpens device own halted) c since state before entry e at =
    let same : opened_by own.order ≡ entry = cc in
    ap (λ r. order_by r (order_of before)) same
owes_by d (OrderCloses own end) c since state before entry e at =
    let same : own ≡ entry = cc in
    sym (ap (λ r. order_by r (order_of before)) at.closes ∙ close_leaves_none (order_of before) at.order at.life)
    ∙ ap (λ r. order_by r (order_of before)) same
owes_by d (Asks device stage failed) c since state before entry e at = absurd cc
owes_by d (Done end) c since state before entry e at = absurd cc
owes_by d job c since state before entry e at = absurd at

-- the put of a job's record moves the open order
pub put_owes : (d : DeviceSetup) (job : Job) (c : Command) (since : List Line) (state : EpochState)
    (before after : Option Owed) (entry : Record) → after ≡ owed_after job before → need_of job ≡ need.Put entry
    → Stands d job c since state (order_of before) → order_of after ≡ order_by entry (order_of before)
put_owes d job c since state before after entry is e at =
    ap order_of is ∙ owes_by d job c since state before entry e at
