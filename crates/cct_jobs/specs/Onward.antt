-- How a job goes on: by which line, and what it keeps to.
use Rattle.std.specs.Prelude.{◌≡◌, ◌≤◌, ℕ, true, List, ◌∷◌, Option, Some}
use Rattle.cct_model.specs.terms.wire.CheckKind.{CheckKind}
use Rattle.cct_model.specs.terms.request.Request.{Request}
use Rattle.cct_model.specs.lines.record.Record.{Record}
use Rattle.cct_model.specs.terms.device.DeviceSetup.{DeviceSetup}
use Rattle.cct_model.specs.declared.judging.EpochState.{EpochState}
use Rattle.cct_model.specs.declared.judging.OpenOrder.{OpenOrder}
use Rattle.cct_model.specs.lines.command.Command.{Command}
use Rattle.cct_model.specs.Exchange.{ask}
use Rattle.cct_model.specs.Job.{sends}
use Rattle.cct_model.specs.Line.{Line, exchange, put}
use Rattle.cct_model.specs.Order.{order_by}
use Rattle.cct_model.specs.Reply.{Reply}
use Rattle.cct_model.specs.Rows.{TableRow, has_closes, puts_in, row}
use Rattle.cct_model.specs.Scan.{poll_of, scan_row}
use Rattle.cct_model.specs.Transcript.{scan_line}
use Rattle.cct_jobs.specs.declared.job.Job.{Job}
use Rattle.cct_jobs.specs.declared.job.Need.TheVariants as need
use Rattle.cct_jobs.specs.declared.job.Sending.{Sending}
use Rattle.cct_jobs.specs.declared.stage.Stage.{Stage}
use Rattle.cct_jobs.specs.declared.target.Target.{Target}
use Rattle.cct_jobs.specs.Ahead.{ahead, coins_in}
use Rattle.cct_jobs.specs.Jobs.{Asking, PutsFit, Stands, line_heard, need_of, request_of}
use Rattle.cct_jobs.specs.Sales.{StandsSale}
use Rattle.cct_jobs.specs.Scans.{StandsScan}

-- A job that had these rows ahead keeps to them: it may put no more records than they do, and what
-- it is about to put can be spelt in a journal; if they close an order, so does the job while it
-- may put anything; and it reserves no more coins than they do.
pub record KeepsTo (rows : List TableRow) (job : Job) : Type 0 where
  -- What it may still put doesn't rise when it hears.
  pub may_put : puts_in (ahead job) ≤ puts_in rows
  pub fits : PutsFit job
  pub closes : has_closes rows ≡ true → 1 ≤ puts_in (ahead job) → has_closes (ahead job) ≡ true
  pub reserves : coins_in (ahead job) ≤ coins_in rows

-- A job that had these rows ahead keeps to them, and is running to close an order.
pub record KeepsClosing (rows : List TableRow) (job : Job) : Type 0 where
  pub keeps : KeepsTo rows job
  pub closes : has_closes (ahead job) ≡ true

-- Whichever job asks its device at this stage, after so many failed tries: this reply, or none that
-- was wanted, leads it on to this one.
abbrev pub LeadsTo : Target → Stage → ℕ → Option Reply → Job → Type 0
LeadsTo device stage failed got job =
    (d : DeviceSetup) (c : Command) (since : List Line) (state : EpochState)
    (owed : Option OpenOrder)
    → Asking d device stage failed c since state owed
    → Stands d job c (exchange (Some (request_of device.family stage)) got ∷ since) state owed

-- Wherever a job asks its device, this is what it sends.
abbrev pub SendsToDevice : Job → Sending → Type 0
SendsToDevice job sending =
    (d : DeviceSetup) (c : Command) (since : List Line) (state : EpochState)
    (owed : Option OpenOrder) (q : Request)
    → Stands d job c since state owed → row d c since state owed ≡ sends q
    → sending ≡ record { to = d.addr; kind = d.kind; request = q }

-- Wherever a scan polls an address, this is what it sends.
abbrev pub SendsPoll : Job → Sending → Type 0
SendsPoll job sending =
    (since : List Line) (check : CheckKind) (addr : ℕ) → StandsScan job since → scan_row since
    ≡ Some (check, addr)
    → sending ≡ record { to = addr; kind = check; request = poll_of addr }

-- Wherever a job asks its device, what is heard after its request leads it on to this one.
abbrev pub HearsDevice : Job → List ℕ → List ℕ → Job → Type 0
HearsDevice old sent heard new =
    (d : DeviceSetup) (c : Command) (since : List Line) (state : EpochState)
    (owed : Option OpenOrder) (q : Request)
    → Stands d old c since state owed → row d c since state owed ≡ sends q → sent
    ≡ ask d.kind d.addr q
    → Stands d new c (line_heard d sent heard ∷ since) state owed

-- Wherever a scan polls an address, what is heard after its poll leads it on to this one.
abbrev pub HearsPolled : Job → List ℕ → List ℕ → Job → Type 0
HearsPolled old sent heard new =
    (since : List Line) (check : CheckKind) (addr : ℕ) → StandsScan old since → scan_row since
    ≡ Some (check, addr)
    → sent ≡ ask check addr (poll_of addr) → StandsScan new (scan_line sent heard ∷ since)

-- Wherever a job of a device puts its record, it goes on as this one. What it does then no longer
-- depends on the epoch, which the record has moved, and beside an order the record has moved it.
abbrev pub GoesOnAfterPut : Job → Job → Type 0
GoesOnAfterPut old new =
    (d : DeviceSetup) (c : Command) (since : List Line) (state after : EpochState)
    (owed : Option OpenOrder)
    (entry : Record) → need_of old ≡ need.Put entry → Stands d old c since state owed
    → Stands d new c (put entry ∷ since) after (order_by entry owed)

-- Wherever a sale puts its record, it goes on as this one.
abbrev pub GoesOnAfterSale : Job → Job → Type 0
GoesOnAfterSale old new =
    (c : Command) (since : List Line) (entry : Record) → need_of old ≡ need.Put entry →
    StandsSale old c since
    → StandsSale new c (put entry ∷ since)
