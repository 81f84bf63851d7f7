-- Where in the table of jobs a job stands: the rows that it has ahead, the one at which it stands
-- first.
use Rattle.std.specs.Prelude.{ℕ, suc, ◌==◌, Bool, false, List, [], ◌∷◌, if◌then◌else◌, Some}
use Rattle.cct_model.specs.terms.device.DeviceBody.{DeviceBody}
use Rattle.cct_model.specs.terms.device.DeviceBody.TheVariants.{Acceptor, Bill, Hopper}
use Rattle.cct_model.specs.terms.device.DeviceSetup.{DeviceSetup}
use Rattle.cct_model.specs.terms.family.Family.{Family}
use Rattle.cct_model.specs.terms.family.Family.TheVariants as family
use Rattle.cct_model.specs.terms.request.Request.{Request}
use Rattle.cct_model.specs.terms.request.Request.TheVariants.{CoinId}
use Rattle.cct_model.specs.lines.command.Command.{Command}
use Rattle.cct_model.specs.lines.command.Command.TheVariants as command
use Rattle.cct_model.specs.lines.entry.End.TheVariants.{Posted}
use Rattle.cct_model.specs.Request.{header_of}
use Rattle.cct_model.specs.Job.{ident_requests}
use Rattle.cct_model.specs.Reply.{Reply}
use Rattle.cct_model.specs.Rows.{TableRow, puts_due, new_order, sale, reading, if_posted, settling}
use Rattle.cct_model.specs.Rows.{rows_of, rows_of_sale, after, ends_first}
use Rattle.cct_jobs.specs.declared.target.Target.{Target}
use Rattle.cct_jobs.specs.declared.payout.Payout.{Payout}
use Rattle.cct_jobs.specs.declared.payout.Payout.TheVariants.{Enables, Counts, Dispenses, Waits}
use Rattle.cct_jobs.specs.declared.payout.Payout.TheVariants.{Stops, Recounts}
use Rattle.cct_jobs.specs.declared.stage.ReadBy.{ReadBy}
use Rattle.cct_jobs.specs.declared.stage.ReadBy.TheVariants.{Round, Stop}
use Rattle.cct_jobs.specs.declared.stage.Stage.{Stage}
use Rattle.cct_jobs.specs.declared.stage.Stage.TheVariants.{StartResets, StartReads, StartCounts}
use Rattle.cct_jobs.specs.declared.stage.Stage.TheVariants.{StartSets, StopInhibits, CountsBefore}
use Rattle.cct_jobs.specs.declared.stage.Stage.TheVariants.{Reads, Looks, CountsAfter, IdentAsks}
use Rattle.cct_jobs.specs.declared.stage.Stage.TheVariants.{PathSets, PathReads, Routes, Pays}
use Rattle.cct_jobs.specs.declared.job.Job.{Job}
use Rattle.cct_jobs.specs.declared.job.Job.TheVariants.{Asks, StartPuts, RoundPuts, StopPuts}
use Rattle.cct_jobs.specs.declared.job.Job.TheVariants.{StopEnds, OrderOpens, OrderCloses, SalePuts}

-- A device of a family of which nothing else is set up.
abbrev pub body_of : Family → DeviceBody
body_of family.Acceptor = Acceptor 0 [] []
body_of family.Hopper = Hopper 0 0
body_of family.Bill = Bill 0 [] []

-- A device of which no more is set up than what a job knows of it; the table looks at nothing else.
abbrev pub known : Target → DeviceSetup
known device = record {
  addr = device.addr;
  kind = device.kind;
  serial = device.serial;
  texts = record { maker = []; product = []; software = []; build = [] };
  named = false;
  body = body_of device.family;
}

-- The rows of a command at a device.
abbrev pub table_of : Target → Command → List TableRow
table_of device c = rows_of (known device) c

-- All that a device is asked of itself.
abbrev pub questions_of : Target → List Request
questions_of device = ident_requests (body_of device.family)

-- Two questions of an identification are the same: those for coins by their place, and others by
-- their header.
abbrev pub same_question : Request → Request → Bool
same_question (CoinId place) (CoinId other) = place == other
same_question question other = header_of question == header_of other

-- The place of a question among these, counted from 0.
abbrev pub place_of : Request → List Request → ℕ
place_of question [] = 0
place_of question (other ∷ more) =
    if same_question question other then 0 else suc (place_of question more)

-- The rows that a round or a stop has ahead that reads an acceptor.
abbrev pub reading_ahead : Target → ReadBy → List TableRow
reading_ahead device Round = table_of device (command.Round device.addr)
reading_ahead device Stop = after (table_of device (command.Stop device.addr)) 1

-- The rows that a payment or a settlement has ahead.
abbrev pub payout_ahead : Target → Payout → List TableRow
payout_ahead device (Enables id count halted) = table_of device (command.Pay device.addr id count)
payout_ahead device (Counts id count halted) =
    after (table_of device (command.Pay device.addr id count)) 1
payout_ahead device (Dispenses serial own halted) =
    after (table_of device (command.Pay device.addr own.order.id own.order.count)) 3
payout_ahead device (Waits closing own) = settling
payout_ahead device (Stops closing own) = settling
payout_ahead device (Recounts closing own) = after settling 1

-- The rows that a job has ahead that asks its device.
abbrev pub stage_ahead : Target → Stage → List TableRow
stage_ahead device (StartResets mask) = table_of device (command.Start device.addr mask)
stage_ahead device (StartReads mask) = after (table_of device (command.Start device.addr mask)) 1
stage_ahead device (StartCounts mask) = after (table_of device (command.Start device.addr mask)) 2
stage_ahead device (StartSets mask) = after (table_of device (command.Start device.addr mask)) 4
stage_ahead device (StopInhibits recorded) = table_of device (command.Stop device.addr)
stage_ahead device (CountsBefore read_by recorded) = reading_ahead device read_by
stage_ahead device (Reads read_by recorded before) = after (reading_ahead device read_by) 1
stage_ahead device (Looks read_by recorded before read) = after (reading_ahead device read_by) 2
stage_ahead device (CountsAfter read_by recorded before read seen) =
    after (reading_ahead device read_by) 3
stage_ahead device (IdentAsks question) =
    after (table_of device (command.Ident device.addr)) (place_of question (questions_of device))
stage_ahead device (PathSets place path) = table_of device (command.Path device.addr place path)
stage_ahead device (PathReads place path) =
    after (table_of device (command.Path device.addr place path)) 1
stage_ahead device (Routes way) = table_of device (command.Route device.addr way)
stage_ahead device (Pays row) = payout_ahead device row

-- The rows that a job has ahead; a scan has none in the table, and neither has a job that is done.
abbrev pub ahead : Job → List TableRow
ahead (Asks device stage failed) = stage_ahead device stage
ahead (StartPuts device mask counted) = after (table_of device (command.Start device.addr mask)) 3
ahead (RoundPuts entry end) = puts_due reading (if_posted (Some Posted)) ∷ []
ahead (StopPuts device entry end) = after (table_of device (command.Stop device.addr)) 5
ahead (StopEnds device) = after (table_of device (command.Stop device.addr)) 6
ahead (OrderOpens device own halted) =
    after (table_of device (command.Pay device.addr own.order.id own.order.count)) 2
ahead (OrderCloses entry end) = after settling 2
ahead (SalePuts id price) = rows_of_sale (command.Vend id price)
ahead job = []

-- A reply says that nothing is left to pay: a wait for coins is over.
abbrev pub nothing_left : Reply → Bool
nothing_left y = ends_first settling (Some y)

-- How many coins these rows reserve: those of the order that they open.
abbrev pub coins_in : List TableRow → ℕ
coins_in [] = 0
coins_in (puts_due (new_order id count) behind ∷ rows) = count
coins_in (row ∷ rows) = coins_in rows

-- What these rows reserve besides coins: the price of a sale.
abbrev pub price_in : List TableRow → ℕ
price_in [] = 0
price_in (puts_due (sale id price) behind ∷ rows) = price
price_in (row ∷ rows) = price_in rows
