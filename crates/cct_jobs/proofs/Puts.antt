-- The records that jobs at a device put, by the rows that they have ahead.
use Rattle.std.proofs.Common.{◌≡◌, ℕ, Bool, List, sym, ap, ap₂, ◌∙◌, Option, Some}
use Rattle.cct_model.specs.lines.command.Command.{Command}
use Rattle.cct_model.specs.lines.entry.End.{End}
use Rattle.cct_model.specs.lines.record.Record.{Record}
use Rattle.cct_model.specs.lines.record.Record.TheVariants as record_of
use Rattle.cct_model.specs.terms.device.DeviceSetup.{DeviceSetup}
use Rattle.cct_model.specs.declared.judging.EpochState.{EpochState}
use Rattle.cct_model.specs.declared.judging.OpenOrder.{OpenOrder}
use Rattle.cct_model.specs.Line.{Line}
use Rattle.cct_model.specs.Job.{accepts_read, address_of, begin_row, close_row, judged_in, no_row, open_row, noted_in, put_or, puts}
use Rattle.cct_model.specs.Order.{close, life_read}
use Rattle.cct_model.specs.Rows.{first, left, row}
use Rattle.cct_jobs.specs.declared.job.Job.{Job}
use Rattle.cct_jobs.specs.declared.job.Job.TheVariants.{StartPuts, RoundPuts, StopPuts, StopEnds, OrderOpens, OrderCloses}
use Rattle.cct_jobs.specs.declared.counted.Counted.{Counted}
use Rattle.cct_jobs.specs.declared.owed.Owed.{Owed}
use Rattle.cct_jobs.specs.declared.target.Target.{Target}
use Rattle.cct_jobs.specs.Ahead.{ahead}
use Rattle.cct_jobs.specs.Jobs.{Putting, opened_by}

-- the row of a job is the first of those that it has ahead
pub row_ahead : (d : DeviceSetup) (job : Job) (c : Command) (since : List Line) (state : EpochState)
    (owed : Option OpenOrder) → left d c since state ≡ ahead job
    → row d c since state owed ≡ first (address_of c) (judged_in c since state) (noted_in since owed) (ahead job)
row_ahead d job c since state owed at = ap (first (address_of c) (judged_in c since state) (noted_in since owed)) at

-- a round and a stop put what was judged
pub stop_row : (d : DeviceSetup) (device : Target) (entry : Record) (end : Option End) (c : Command) (since : List Line)
    (state : EpochState) (owed : Option OpenOrder) → Putting d (StopPuts device entry end) entry end c since state owed
    → put_or no_row (judged_in c since state) ≡ puts entry
stop_row d device entry end c since state owed at =
    sym (row_ahead d (StopPuts device entry end) c since state owed at.ahead_is) ∙ at.row_is

pub round_row : (d : DeviceSetup) (entry : Record) (end : End) (c : Command) (since : List Line) (state : EpochState)
    (owed : Option OpenOrder) → Putting d (RoundPuts entry end) entry (Some end) c since state owed
    → put_or no_row (judged_in c since state) ≡ puts entry
round_row d entry end c since state owed at = sym (row_ahead d (RoundPuts entry end) c since state owed at.ahead_is) ∙ at.row_is

-- a start puts its epoch with the accept counter that it read, and a stop the end of one
pub start_row : (d : DeviceSetup) (device : Target) (mask : ℕ) (counted : Counted) (c : Command) (since : List Line)
    (state : EpochState) (owed : Option OpenOrder) → address_of c ≡ d.addr → accepts_read since ≡ Some counted.accepts
    → left d c since state ≡ ahead (StartPuts device mask counted)
    → row d c since state owed ≡ puts (record_of.Epoch d.addr mask counted.accepts)
start_row d device mask counted c since state owed here read at =
    row_ahead d (StartPuts device mask counted) c since state owed at ∙ ap₂ (λ a count. begin_row a mask count) here read

pub end_row : (d : DeviceSetup) (device : Target) (c : Command) (since : List Line) (state : EpochState)
    (owed : Option OpenOrder) → address_of c ≡ d.addr → left d c since state ≡ ahead (StopEnds device)
    → row d c since state owed ≡ puts (record_of.EpochEnd d.addr)
end_row d device c since state owed here at =
    row_ahead d (StopEnds device) c since state owed at ∙ ap (λ a. puts (record_of.EpochEnd a)) here

-- a payment opens its order with the life count that it read
pub open_row_is : (d : DeviceSetup) (device : Target) (own : Owed) (halted : Bool) (c : Command) (since : List Line)
    (state : EpochState) (owed : Option OpenOrder) → address_of c ≡ d.addr → own.order.addr ≡ d.addr
    → life_read since ≡ Some own.order.life → left d c since state ≡ ahead (OrderOpens device own halted)
    → row d c since state owed ≡ puts (opened_by own.order)
open_row_is d device own halted c since state owed here own_is read at =
    row_ahead d (OrderOpens device own halted) c since state owed at
    ∙ ap₂ (λ a life. open_row a own.order.id own.order.count life) (here ∙ sym own_is) read

-- the open order is closed
pub close_row_is : (d : DeviceSetup) (entry : Record) (end : End) (c : Command) (since : List Line) (state : EpochState)
    (owed : Option OpenOrder) (o : OpenOrder) (life : ℕ) → owed ≡ Some o → life_read since ≡ Some life
    → left d c since state ≡ ahead (OrderCloses entry end) → row d c since state owed ≡ puts (close o life)
close_row_is d entry end c since state owed o life owed_is read at =
    row_ahead d (OrderCloses entry end) c since state owed at ∙ ap₂ close_row owed_is read
