-- What the job at a place is still to do: the records that it may put, what it reserves, and the
-- record that is next.
use Rattle.std.specs.Prelude.{ℕ, ◌+◌, Bool, true, false, List, Option, Some, None, ⊤}
use Rattle.std.proofs.Props.{props}
use Rattle.cct_model.specs.lines.record.Record.{Record}
use Rattle.cct_model.specs.lines.record.Record.TheVariants as record_of
use Rattle.cct_model.specs.declared.judging.OpenOrder.{OpenOrder}
use Rattle.cct_model.specs.Exchange.{ask}
use Rattle.cct_record.specs.Body.{Encodable}
use Rattle.cct_jobs.specs.declared.job.Job.{Job}
use Rattle.cct_jobs.specs.declared.job.Job.TheVariants.{RoundPuts, StopPuts, OrderCloses, SalePuts}
use Rattle.cct_model.specs.Rows.{has_closes, puts_in}
use Rattle.cct_model.specs.Refusal.{order_holds}
use Rattle.cct_jobs.specs.Ahead.{ahead, coins_in, price_in}
use Rattle.cct_jobs.specs.declared.job.Sending.{Sending}
use Rattle.cct_jobs.specs.Jobs.{PutsFit, need_of, put_in, sending_of}

-- How many records the job at a place may still put.
abbrev pub puts_left : Option Job → ℕ
puts_left None = 0
puts_left (Some job) = puts_in (ahead job)

-- One record for the open order of a place that no job there is running to close.
abbrev pub order_left : Option Job → Option OpenOrder → ℕ
order_left None owed = order_holds false owed
order_left (Some job) owed = order_holds (has_closes (ahead job)) owed

-- How many records are held for a place.
abbrev pub held_by : Option Job → Option OpenOrder → ℕ
held_by job owed = puts_left job + order_left job owed

-- The record that the job at a place is about to put, if it is about to put one.
abbrev pub due_by : Option Job → Option Record
due_by None = None
due_by (Some job) = put_in (need_of job)

-- The request that the job at a place sends next, if it is about to send one.
abbrev pub sending_by : Option Job → Option Sending
sending_by None = None
sending_by (Some job) = sending_of job

-- The piece by which a request is sent, if there is one.
abbrev pub piece_of : Option Sending → Option (List ℕ)
piece_of None = None
piece_of (Some s) = Some (ask s.kind s.to s.request)

-- What the job at a place reserves besides coins.
abbrev pub price_by : Option Job → ℕ
price_by None = 0
price_by (Some job) = price_in (ahead job)

-- The job at a place, if there is one, is a sale that is still to be put.
abbrev pub sells_only : Option Job → Bool
sells_only None = true
sells_only (Some (SalePuts id price)) = true
sells_only (Some job) = false

-- How many coins the job at a place reserves.
abbrev pub coins_by : Option Job → ℕ
coins_by None = 0
coins_by (Some job) = coins_in (ahead job)

-- What the job at a place is about to put, if it is about to put something, can be spelt in a
-- journal.
abbrev pub FitsIn : Option Job → Type 0
FitsIn None = ⊤
FitsIn (Some job) = PutsFit job

-- Each of these facts has one proof at most.
pub Encodable-prop : (r : Record) → IsProp (Encodable r)
Encodable-prop (record_of.Reading addr counter lost accepts posted) = hlevel props
Encodable-prop r = hlevel props

pub PutsFit-prop : (job : Job) → IsProp (PutsFit job)
PutsFit-prop (RoundPuts entry end) = Encodable-prop entry
PutsFit-prop (StopPuts target entry end) = Encodable-prop entry
PutsFit-prop (OrderCloses entry end) = Encodable-prop entry
PutsFit-prop job = hlevel props

pub FitsIn-prop : (job : Option Job) → IsProp (FitsIn job)
FitsIn-prop None = hlevel props
FitsIn-prop (Some job) = PutsFit-prop job
