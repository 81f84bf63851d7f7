-- Where the host may have a job: at each device, at the address of all devices, where scans are,
-- and at its own, where sales are.
use Rattle.std.specs.Prelude.{◌≡◌, ◌≢◌, ℕ, List, ◌∷◌, ◌++◌, Option, Some, None, ⊤}
use Rattle.std.specs.Option.{IfSome}
use Rattle.cct_model.specs.terms.wire.TheConstants.{BROADCAST, HOST}
use Rattle.cct_model.specs.terms.wire.CheckKind.{CheckKind}
use Rattle.cct_model.specs.terms.device.DeviceSetup.{DeviceSetup}
use Rattle.cct_model.specs.terms.device.Setup.{Setup}
use Rattle.cct_model.specs.terms.request.Request.{Request}
use Rattle.cct_model.specs.lines.command.Command.{Command}
use Rattle.cct_model.specs.lines.entry.End.{End}
use Rattle.cct_model.specs.lines.entry.Entry.{Entry}
use Rattle.cct_model.specs.declared.judging.EpochState.{EpochState}
use Rattle.cct_model.specs.declared.judging.OpenOrder.{OpenOrder}
use Rattle.cct_model.specs.Exchange.{ask}
use Rattle.cct_model.specs.Line.{Line, exchange}
use Rattle.cct_model.specs.Job as model
use Rattle.cct_model.specs.Rows as table
use Rattle.cct_model.specs.Order.{order}
use Rattle.cct_model.specs.Scan.{end_of_scan, poll_of, scan_row}
use Rattle.cct_model.specs.Legal.{NextEntries, SaleEntries, ScanEntries, due_at, due_of}
use Rattle.cct_model.specs.Transcript.{lines_of, sale_lines, scan_line, scan_lines}
use Rattle.cct_jobs.specs.declared.job.Job.{Job}
use Rattle.cct_jobs.specs.Jobs.{ClosesItsOwn, SendsNext, Stands, line_heard}
use Rattle.cct_jobs.specs.Sales.{StandsSale, newest_sale_end}
use Rattle.cct_jobs.specs.Scans.{PollsNext, StandsScan}

-- A device of the setup, the place of scans, or that of sales.
pub data Place : Type 0 where
  device : (d : DeviceSetup) → Place
  scans : Place
  sales : Place

-- The address of a place.
abbrev pub addr_of : Place → ℕ
addr_of (device d) = d.addr
addr_of scans = BROADCAST
addr_of sales = HOST

-- The lines of a place.
abbrev pub lines_at : Place → List Entry → List Line
lines_at (device d) past = lines_of d past
lines_at scans past = scan_lines past
lines_at sales past = sale_lines past

-- The line of a place that an exchange of its job is; a sale makes none, so nothing is asked in it.
abbrev pub line_at : Place → List ℕ → List ℕ → Line
line_at (device d) sent heard = line_heard d sent heard
line_at scans sent heard = scan_line sent heard
line_at sales sent heard = exchange None None

-- The end that a line brings to a job at a place, if it brings one.
abbrev pub end_at : Place → Command → Line → List Line → EpochState → Option End
end_at (device d) c line since state = table.end_of d c line since state
end_at scans c line since state = end_of_scan (line ∷ since)
end_at sales c line since state = newest_sale_end c (line ∷ since)

-- The row of a job at a place sends something next.
abbrev pub AsksNext : Place → Command → List Line → EpochState → Option OpenOrder → Type 0
AsksNext (device d) c since state owed = SendsNext d c since state owed
AsksNext scans c since state owed = PollsNext since
AsksNext sales c since state owed = ⊥

-- This piece is what the row of a job at a place sends.
abbrev pub Asks : Place → Command → List Line → EpochState → Option OpenOrder → List ℕ → Type 0
Asks (device d) c since state owed sent =
    (q : Request) × (table.row d c since state owed ≡ model.sends q) × (sent ≡ ask d.kind d.addr q)
Asks scans c since state owed sent =
    (poll : CheckKind × ℕ) × (scan_row since ≡ Some poll)
    × (sent ≡ ask poll.0 poll.1 (poll_of poll.1))
Asks sales c since state owed sent = ⊥

-- A job represents the lines of a place since its command was taken.
abbrev pub StandsAt : Place → Job → Command → List Line → EpochState → Option OpenOrder → Type 0
StandsAt (device d) job c since state owed = Stands d job c since state owed
StandsAt scans job c since state owed = StandsScan job since
StandsAt sales job c since state owed = StandsSale job c since

-- The entries of a `next` at a place, newest first, by the job there. What follows a piece that is
-- sent is an argument.
abbrev pub NextAt : (List ℕ → List ℕ) → Place → List Entry → model.Job → List Entry → Type 0
NextAt hears (device d) past job news = NextEntries hears d past job news
NextAt hears scans past job news = ScanEntries hears job news
NextAt hears sales past job news = SaleEntries job news

-- Entries change no job, no epoch and no open order at a place.
abbrev pub IsAsBefore : Place → List Entry → List Entry → Type 0
IsAsBefore place past news =
    (model.job (lines_at place (news ++ past)) ≡ model.job (lines_at place past))
    × (model.epoch (lines_at place (news ++ past)) ≡ model.epoch (lines_at place past))
    × (order (lines_at place (news ++ past)) ≡ order (lines_at place past))

-- Entries are of one address: they change no job, no epoch and no open order at another one.
abbrev pub AreAt : ℕ → List Entry → List Entry → Type 0
AreAt addr past news = (place : Place) → addr_of place ≢ addr → IsAsBefore place past news

-- The record that the job at an address is about to put, if it puts one, closes no order of another
-- address.
abbrev pub OwnsItsPut : Setup → List Entry → ℕ → Type 0
OwnsItsPut setup past addr = IfSome (due_at setup past addr) (ClosesItsOwn past addr)

-- The same of a place; a scan puts nothing, and a sale closes no order.
abbrev pub OwnsAt : Place → List Entry → Type 0
OwnsAt (device d) past =
    IfSome (due_of d (lines_of d past) (model.job (lines_of d past))) (ClosesItsOwn past d.addr)
OwnsAt scans past = ⊤
OwnsAt sales past = ⊤
