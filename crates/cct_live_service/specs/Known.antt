-- What is known at a point of a service: what holds of the desk and of all that happened.
use Rattle.std.specs.Prelude.{◌≡◌, ℕ, Bool, true, false, List, ◌++◌, Option, Some, None, is_some}
use Rattle.cct_model.specs.terms.device.Setup.{Setup}
use Rattle.cct_model.specs.lines.command.Command.{Command}
use Rattle.cct_model.specs.lines.command.Command.TheVariants as command
use Rattle.cct_model.specs.lines.record.Record.{Record}
use Rattle.cct_model.specs.lines.entry.Entry.{Entry}
use Rattle.cct_model.specs.declared.change.Due.{Due}
use Rattle.cct_model.specs.declared.change.Phase.{Phase}
use Rattle.cct_model.specs.declared.change.Phase.TheVariants.{Begun, Opened}
use Rattle.cct_model.specs.declared.change.Session.{Session}
use Rattle.cct_model.specs.Change.{Desk}
use Rattle.cct_disk.specs.Disk.{IsTrusted}
use Rattle.cct_disk.specs.declared.disk.Disk.{Ghosts}
use Rattle.cct_journal.specs.declared.format.TheConstants.{MOST_RECORDS}
use Rattle.cct_host.specs.declared.host.Host.{Host}
use Rattle.cct_host.specs.Host.{Keeps, setup_of}
use Rattle.cct_host.specs.Standing.{command_at, epoch_at}
use Rattle.cct_laws_live.specs.Life.{IsLife}
use Rattle.cct_laws_live.specs.LiveStep.{LiveStep}
use Rattle.cct_live_service.specs.declared.visit.Task.{Task}
use Rattle.cct_live_service.specs.declared.visit.Task.TheVariants as task
use Rattle.cct_live_service.specs.AtDesk.{AtDesk}
use Rattle.cct_live_service.specs.Opening.{is_running}
use Rattle.cct_live_service.specs.Since.{Given, StandsSince}
use Rattle.cct_live_service.specs.Told.{Told, news_of}

-- After what was reported, what is known of the desk and of all that happened.
abbrev pub Knows : Type 1
Knows = List Told → (Desk → List Entry → Type 0) → Type 0

-- The address of a payment that isn't settled: its job is running, or its order is open.
abbrev pub waits_in : Due → Phase → Option ℕ
waits_in due Begun = Some due.payment.addr
waits_in due Opened = Some due.payment.addr
waits_in due phase = None

-- The same of the payment of a session, if there is one.
abbrev pub waits_for : Option Due → Option ℕ
waits_for None = None
waits_for (Some due) = waits_in due due.phase

-- A job is at an address, if it is one.
abbrev pub works_at : Setup → List Entry → Option ℕ → Bool
works_at setup past None = false
works_at setup past (Some addr) = is_some (command_at setup past addr)

-- A session has nothing to do: none runs, or the job of its payment is still at its hopper.
abbrev pub rests : Setup → List Entry → Option Session → Bool
rests setup past None = true
rests setup past (Some s) = works_at setup past (waits_for s.due)

-- The session at a desk has nothing to do, or it has, after all that happened.
abbrev pub Rests : Setup → Bool → Desk → List Entry → Type 0
Rests setup rest desk past = rests setup past desk.session ≡ rest

-- A job is at an address, or none is.
abbrev pub HasJob : Setup → ℕ → Bool → Desk → List Entry → Type 0
HasJob setup addr has desk past = is_some (command_at setup past addr) ≡ has

-- An epoch runs at an address, or none does.
abbrev pub Runs : Setup → ℕ → Bool → Desk → List Entry → Type 0
Runs setup addr runs desk past = is_running (epoch_at setup past addr) ≡ runs

-- What is to be done at an address, by the command of its job and by whether an epoch runs there.
abbrev pub task_of : Option Command → Bool → Task
task_of None true = task.ReadOut
task_of None false = task.Nothing
task_of (Some (command.Round addr)) runs = task.ReadOut
task_of (Some c) runs = task.Attempt

-- This is to be done at an address.
abbrev pub HasTask : Setup → ℕ → Task → Desk → List Entry → Type 0
HasTask setup addr what desk past =
    task_of (command_at setup past addr) (is_running (epoch_at setup past addr)) ≡ what

-- After what was reported, what is to be done at each address.
abbrev pub Tasks : Type 1
Tasks = List Told → ℕ → Task → Type 0

-- Of what is known.
abbrev pub tasks_by : Knows → Setup → Tasks
tasks_by knows setup told addr what = knows told (HasTask setup addr what)

module _ {D : Type 0} {g : Ghosts D} where
  -- It holds of a desk and of all that this host has.
  abbrev pub IsKnown : Host D g → Desk → (Desk → List Entry → Type 0) → Type 0
  IsKnown host desk Fact = (past : List Entry) → Keeps host past → Fact desk past

  -- It holds after what was reported since a host and a desk were so, whatever was given and found.
  abbrev pub KnownAfter : Host D g → Desk → Knows
  KnownAfter host desk told Fact =
      (now : Desk) × AtDesk desk now told
      × ((given : Given D) (found : List Record) (before : List LiveStep) (past : List Entry)
      → IsLife MOST_RECORDS (setup_of host) found before past → StandsSince host given found past
      → Fact now (news_of told ++ past))

  -- Whether the session has nothing to do.
  abbrev pub Rested : Host D g → Desk → Bool → Type 0
  Rested host desk rest = IsKnown host desk (Rests (setup_of host) rest)

  -- What is to be done at an address.
  abbrev pub TaskNow : Host D g → Desk → ℕ → Task → Type 0
  TaskNow host desk addr what = IsKnown host desk (HasTask (setup_of host) addr what)

  -- And after what was reported since.
  abbrev pub TaskAfter : Host D g → Desk → Tasks
  TaskAfter host desk = tasks_by (KnownAfter host desk) (setup_of host)

  -- This was missed since a host was so, whatever was given and found, if the disk that was given
  -- is trusted.
  abbrev pub MissedFrom : Host D g → Type 0 → Type 0
  MissedFrom host Missed =
      (given : Given D) (found : List Record) (before : List LiveStep) (past : List Entry)
      → IsLife MOST_RECORDS (setup_of host) found before past → StandsSince host given found past
      → IsTrusted g.honest g.seen given.disk → Missed
