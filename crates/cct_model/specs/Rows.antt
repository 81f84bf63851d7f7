-- The table of jobs, and what is read off the rows of it that a job has left: what it sends or puts
-- next, how it ends, what it may still put and what it reserves, and whether it can be halted.
use Rattle.std.specs.Prelude.{ℕ, suc, zero, ◌==◌, Bool, true, false, List, [], ◌∷◌, ◌++◌}
use Rattle.std.specs.Prelude.{if◌then◌else◌, Option, Some, None}
use Rattle.cct_model.specs.terms.request.TheConstants.{ENABLE_CODE}
use Rattle.cct_model.specs.terms.device.DeviceSetup.{DeviceSetup}
use Rattle.cct_model.specs.terms.request.Request.{Request}
use Rattle.cct_model.specs.terms.request.Request.TheVariants.{ResetDevice, SetMask, GetMask}
use Rattle.cct_model.specs.terms.request.Request.TheVariants.{SetMaster, AcceptCount, RouteBill}
use Rattle.cct_model.specs.terms.request.Request.TheVariants.{Enable, Dispense, GetLife}
use Rattle.cct_model.specs.lines.record.Record.{Record}
use Rattle.cct_model.specs.lines.record.Record.TheVariants as record_of
use Rattle.cct_model.specs.declared.judging.Judged.{Judged}
use Rattle.cct_model.specs.declared.judging.Judged.TheVariants.{Nothing}
use Rattle.cct_model.specs.declared.judging.EpochState.{EpochState}
use Rattle.cct_model.specs.declared.judging.OpenOrder.{OpenOrder}
use Rattle.cct_model.specs.lines.command.Command.{Command}
use Rattle.cct_model.specs.lines.command.Command.TheVariants as command
use Rattle.cct_model.specs.lines.entry.End.{End}
use Rattle.cct_model.specs.lines.entry.End.TheVariants.{Started, StartUnsure, Posted, Broke}
use Rattle.cct_model.specs.lines.entry.End.TheVariants.{Stopped, Told, PathSet, Routed, RouteUnsure}
use Rattle.cct_model.specs.lines.entry.End.TheVariants.{Sold}
use Rattle.cct_model.specs.Request.{header_of}
use Rattle.cct_model.specs.Reply.{Reply}
use Rattle.cct_model.specs.Reply as reply
use Rattle.cct_model.specs.Line.{Line, exchange, put}
use Rattle.cct_model.specs.Job.{Job, free, works, tries, Row, sends, puts, no_row, put_or}
use Rattle.cct_model.specs.Job.{begin_row, credits_request, ident_requests, path_set, path_read}
use Rattle.cct_model.specs.Job.{Noted, state_row, open_row, close_row, address_of, judged_in}
use Rattle.cct_model.specs.Job.{noted_in, end_of_close, end_of_credits, end_of_moving}
use Rattle.cct_model.specs.Job.{end_of_reading, end_of_tries}

-- How a job goes on after a row: by its next row; it ends so; by the next row if the acceptor's
-- counter is 0; by the next row if the reading gives a record, else it ends by what the reading
-- means; by the next row unless the reading has to be made again, which ends it. With the path that
-- was read it ends. A break ends it, and a reading may. The record that closes the order ends it.
pub data Then : Type 0 where
  goes_on : Then
  ends_as : (end : End) → Then
  if_quiet : Then
  if_judged : Then
  if_unmoved : Then
  path_told : (place : ℕ) → Then
  if_posted : (of_reading : Option End) → Then
  if_closed : Then

-- What a row puts: that an epoch begins; what the reading was judged to be, if it means something;
-- that the epoch ends; that an order is opened, and closed; a sale.
pub data Due : Type 0 where
  new_epoch : (mask : ℕ) → Due
  reading : Due
  epoch_end : Due
  new_order : (id : ℕ) (count : ℕ) → Due
  order_end : Due
  sale : (id : ℕ) (price : ℕ) → Due

-- A row of the table of jobs. It asks, up to three times; or asks once, and goes on without an
-- answer too; or waits until a payout has no coin left, and stops it before where it was halted; or
-- it puts a record.
pub data TableRow : Type 0 where
  asks_for : (request : Request) (behind : Then) → TableRow
  asks_once : (request : Request) (behind : Then) (without : Then) → TableRow
  waits_for_coins : TableRow
  puts_due : (due : Due) (behind : Then) → TableRow

-- The rows that settle an order.
abbrev pub settling : List TableRow
settling = waits_for_coins ∷ asks_for GetLife goes_on ∷ puts_due order_end if_closed ∷ []

-- The rows that ask for one thing after the other; the last answer ends them.
abbrev pub telling : List Request → List TableRow
telling [] = []
telling (q ∷ []) = asks_for q (ends_as Told) ∷ []
telling (q ∷ r ∷ qs) = asks_for q goes_on ∷ telling (r ∷ qs)

-- The table: the rows of a command at a device.
abbrev pub rows_of : DeviceSetup → Command → List TableRow
rows_of d (command.Start addr mask) =
    asks_for ResetDevice goes_on
    ∷ asks_for (credits_request d.body) if_quiet
    ∷ asks_for AcceptCount goes_on
    ∷ puts_due (new_epoch mask) goes_on
    ∷ asks_once (SetMask mask) (ends_as Started) (ends_as StartUnsure)
    ∷ []
rows_of d (command.Round addr) =
    asks_for AcceptCount goes_on
    ∷ asks_for (credits_request d.body) goes_on
    ∷ asks_for GetMask goes_on
    ∷ asks_for AcceptCount if_judged
    ∷ puts_due reading (if_posted (Some Posted))
    ∷ []
rows_of d (command.Stop addr) =
    asks_for (SetMaster 0) goes_on
    ∷ asks_for AcceptCount goes_on
    ∷ asks_for (credits_request d.body) goes_on
    ∷ asks_for GetMask goes_on
    ∷ asks_for AcceptCount if_unmoved
    ∷ puts_due reading (if_posted None)
    ∷ puts_due epoch_end (ends_as Stopped)
    ∷ []
rows_of d (command.Pay addr id count) =
    asks_for (Enable ENABLE_CODE) goes_on
    ∷ asks_for GetLife goes_on
    ∷ puts_due (new_order id count) goes_on
    ∷ asks_once (Dispense d.serial count) goes_on goes_on
    ∷ settling
rows_of d (command.Settle addr) = settling
rows_of d (command.Ident addr) = telling (ident_requests d.body)
rows_of d (command.Path addr place path) =
    asks_for (path_set place path) goes_on ∷ asks_for (path_read place) (path_told place) ∷ []
rows_of d (command.Route addr way) =
    asks_once (RouteBill way) (ends_as Routed) (ends_as RouteUnsure) ∷ []
rows_of d c = []

-- The rows of a command at no device: those of a sale.
abbrev pub rows_of_sale : Command → List TableRow
rows_of_sale (command.Vend id price) = puts_due (sale id price) (ends_as Sold) ∷ []
rows_of_sale c = []

-- The rows of a command, beside the device at its address.
abbrev pub rows_for : Option DeviceSetup → Command → List TableRow
rows_for None c = rows_of_sale c
rows_for (Some d) c = rows_of_sale c ++ rows_of d c

-- The rows after so many.
abbrev pub after : List TableRow → ℕ → List TableRow
after [] n = []
after (row ∷ rows) zero = row ∷ rows
after (row ∷ rows) (suc n) = after rows n

-- The rows from one on, without one that puts what was judged where that is nothing.
abbrev pub from : List TableRow → Judged → List TableRow
from (puts_due reading behind ∷ rows) Nothing = rows
from rows means = rows

-- The first of these rows is sent once, whatever is heard of it.
abbrev pub sent_once : List TableRow → Bool
sent_once (asks_once q behind without ∷ rows) = true
sent_once rows = false

-- An exchange ends the first of these rows: by its answer; one that is sent once without an answer
-- too; and a wait by a state with no coin left to pay, not by the answer to a stop.
abbrev pub ends_first : List TableRow → Option Reply → Bool
ends_first (asks_for q behind ∷ rows) (Some y) = true
ends_first (asks_once q behind without ∷ rows) got = true
ends_first (waits_for_coins ∷ rows) (Some (reply.status events left_to_pay paid unpaid)) =
    left_to_pay == 0
ends_first rows got = false

-- How many of these rows a job has done: by its exchanges that ended their row, and by its puts.
abbrev pub done : List TableRow → List Line → ℕ
done rows [] = 0
done rows (put entry ∷ since) = suc (done rows since)
done rows (exchange asked got ∷ since) =
    if ends_first (after rows (done rows since)) got then suc (done rows since) else done rows since
done rows (line ∷ since) = done rows since

-- The rows that a job hasn't done.
abbrev pub rest : DeviceSetup → Command → List Line → List TableRow
rest d c since = after (rows_of d c) (done (rows_of d c) since)

-- The rows of a command at a device that are left after so many, beside what was judged.
abbrev pub left_at : DeviceSetup → Command → ℕ → Judged → List TableRow
left_at d c n means = from (after (rows_of d c) n) means

-- The rows of a job that are left, beside its epoch.
abbrev pub left : DeviceSetup → Command → List Line → EpochState → List TableRow
left d c since state = left_at d c (done (rows_of d c) since) (judged_in c since state)

-- The rows of a sale that are left.
abbrev pub left_of_sale : Command → List Line → List TableRow
left_of_sale c since = after (rows_of_sale c) (done (rows_of_sale c) since)

-- What a row at an address has to put, beside what was judged and what is known of a payout.
abbrev pub due_row : ℕ → Judged → Noted → Due → Row
due_row addr means p (new_epoch mask) = begin_row addr mask p.accepts
due_row addr means p reading = put_or no_row means
due_row addr means p epoch_end = puts (record_of.EpochEnd addr)
due_row addr means p (new_order id count) = open_row addr id count p.life
due_row addr means p order_end = close_row p.owed p.life
due_row addr means p (sale id price) = puts (record_of.Sold id price)

-- What the first of these rows sends or puts.
abbrev pub first : ℕ → Judged → Noted → List TableRow → Row
first addr means p [] = no_row
first addr means p (asks_for q behind ∷ rows) = sends q
first addr means p (asks_once q behind without ∷ rows) = sends q
first addr means p (waits_for_coins ∷ rows) = state_row p.is_marked
first addr means p (puts_due due behind ∷ rows) = due_row addr means p due

-- The row at which a job at a device stands, after so many rows.
abbrev pub row_at : DeviceSetup → Command → ℕ → Judged → Noted → Row
row_at d c n means p = first (address_of c) means p (left_at d c n means)

-- The row at which a job at a device stands, beside its epoch and its open order.
abbrev pub row : DeviceSetup → Command → List Line → EpochState → Option OpenOrder → Row
row d c since state owed =
    row_at d c (done (rows_of d c) since) (judged_in c since state) (noted_in since owed)

-- The row at which a job that is at no device stands: a sale.
abbrev pub row_of_sale : Command → List Line → Row
row_of_sale c since = first (address_of c) Nothing (noted_in since None) (left_of_sale c since)

-- How many records these rows may put.
abbrev pub puts_in : List TableRow → ℕ
puts_in [] = 0
puts_in (puts_due due behind ∷ rows) = suc (puts_in rows)
puts_in (row ∷ rows) = puts_in rows

-- Among these rows is one that waits for a payout.
abbrev pub has_waits : List TableRow → Bool
has_waits [] = false
has_waits (waits_for_coins ∷ rows) = true
has_waits (row ∷ rows) = has_waits rows

-- The job at a device can be halted: it has a row to come that waits for a payout.
abbrev pub can_halt : DeviceSetup → Job → Bool
can_halt d free = false
can_halt d (works c since) = has_waits (rest d c since)

-- Among these rows is one that closes an order.
abbrev pub has_closes : List TableRow → Bool
has_closes [] = false
has_closes (puts_due order_end behind ∷ rows) = true
has_closes (row ∷ rows) = has_closes rows

-- The job at a device is to close the open order: it has a row to come that closes one.
abbrev pub closes_order : DeviceSetup → Job → Bool
closes_order d free = false
closes_order d (works c since) = has_closes (rest d c since)

-- How many records these rows want room for: those that they put, but for one that closes an order
-- which none of them opens; that one is held already.
abbrev pub need_in : List TableRow → ℕ
need_in [] = 0
need_in (puts_due (new_order id count) behind ∷ rows) = suc (puts_in rows)
need_in (puts_due order_end behind ∷ rows) = need_in rows
need_in (puts_due due behind ∷ rows) = suc (need_in rows)
need_in (row ∷ rows) = need_in rows

-- The id that these rows record: of an order or of a sale; none where they record none.
abbrev pub id_ahead : List TableRow → Option ℕ
id_ahead [] = None
id_ahead (puts_due (new_order id count) behind ∷ rows) = Some id
id_ahead (puts_due (sale id price) behind ∷ rows) = Some id
id_ahead (row ∷ rows) = id_ahead rows

-- The end that an answer brings after a row, beside what the reading then means.
abbrev pub end_by_answer : Then → Reply → Judged → Option End
end_by_answer (ends_as end) y means = Some end
end_by_answer if_quiet (reply.credits c) means = end_of_credits c.counter
end_by_answer if_judged y means = end_of_reading means
end_by_answer if_unmoved y means = end_of_moving means
end_by_answer (path_told place) (reply.path number) means = Some (PathSet place number)
end_by_answer behind y means = None

-- The end that is brought without an answer, or with any record.
abbrev pub end_bare : Then → Option End
end_bare (ends_as end) = Some end
end_bare behind = None

-- The end that a record brings after the row that puts it.
abbrev pub end_by_record : Then → Record → Option End
end_by_record (ends_as end) r = Some end
end_by_record (if_posted of_reading) (record_of.Reading addr counter lost accepts coins) =
    of_reading
end_by_record (if_posted of_reading) (record_of.Broken addr seen counter lost accepts coins) =
    Some Broke
end_by_record if_closed r = end_of_close r
end_by_record behind r = None

-- The end that an answer brings to the first of these rows.
abbrev pub end_answered : List TableRow → Reply → Judged → Option End
end_answered (asks_for q behind ∷ rows) y means = end_by_answer behind y means
end_answered (asks_once q behind without ∷ rows) y means = end_by_answer behind y means
end_answered rows y means = None

-- The end that so many failed tries bring to the first of these rows.
abbrev pub end_failed : List TableRow → ℕ → Option End
end_failed (asks_once q behind without ∷ rows) failed = end_bare without
end_failed rows failed = end_of_tries failed

-- The end that a record brings to the first of these rows that may put it: one that puts what was
-- judged puts a reading or a break.
abbrev pub end_kept : List TableRow → Record → Option End
end_kept [] r = None
end_kept (puts_due reading behind ∷ rows) (record_of.Reading addr counter lost accepts coins) =
    end_by_record behind (record_of.Reading addr counter lost accepts coins)
end_kept (puts_due reading behind ∷ rows) (record_of.Broken addr seen counter lost accepts coins) =
    end_by_record behind (record_of.Broken addr seen counter lost accepts coins)
end_kept (puts_due reading behind ∷ rows) r = end_kept rows r
end_kept (puts_due due behind ∷ rows) r = end_by_record behind r
end_kept (row ∷ rows) r = None

-- The end that a line brings to a job at a device, if it brings one.
abbrev pub end_of : DeviceSetup → Command → Line → List Line → EpochState → Option End
end_of d c (put entry) since state = end_kept (rest d c since) entry
end_of d c (exchange asked (Some y)) since state =
    end_answered (left d c since state) y (judged_in c (exchange asked (Some y) ∷ since) state)
end_of d c (exchange (Some q) None) since state =
    end_failed (left d c since state) (tries (header_of q) (exchange (Some q) None ∷ since))
end_of d c line since state = None

-- The end that a record brings to a sale, if it brings one.
abbrev pub end_of_sale : Command → Record → List Line → Option End
end_of_sale c r since = end_kept (left_of_sale c since) r
