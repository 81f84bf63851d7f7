-- A host and a bus that represent all that happened on them, and the operator's desk beside them.
use Rattle.std.specs.Prelude.{◌≡◌, ◌≢◌, ◌≤◌, ◌+◌, Bool, false, ℕ, List, [], ◌++◌, length, Option}
use Rattle.std.specs.Prelude.{Some, reverse, ⊤}
use Rattle.cct_model.specs.terms.device.Setup.{Setup}
use Rattle.cct_model.specs.lines.command.CrashAt.{CrashAt}
use Rattle.cct_model.specs.lines.command.Step.{Step}
use Rattle.cct_model.specs.lines.command.Step.TheVariants as step
use Rattle.cct_model.specs.lines.record.Record.{Record}
use Rattle.cct_model.specs.lines.entry.Entry.{Entry}
use Rattle.cct_model.specs.AtDesk.{EntriesAtDesk}
use Rattle.cct_model.specs.Change.{Desk, desk_after, gone_on}
use Rattle.cct_model.specs.Legal.{due_at}
use Rattle.cct_model.specs.Records.{records}
use Rattle.cct_model.specs.declared.change.Payment.{Payment}
use Rattle.cct_model.specs.declared.change.Session.{Session}
use Rattle.cct_host_change.specs.Serving.{entries_by}
use Rattle.cct_edge.specs.Faults.{Caused, Rose}
use Rattle.cct_disk.specs.declared.disk.Disk.{Ghosts}
use Rattle.cct_disk.specs.Disk.{IsTrusted}
use Rattle.cct_bus.specs.Bus as wires
use Rattle.cct_journal.specs.Journal as journals
use Rattle.cct_laws.specs.Restart.{RestartSuits, due_in}
use Rattle.cct_host.specs.OnDisk.{LeavesRecords}
use Rattle.cct_host.specs.Host as hosts
use Rattle.cct_host.specs.Host.{PutSuits}
use Rattle.cct_host.specs.Restarting as restarting
use Rattle.cct_world.specs.declared.machine.Machine.{Machine}
use Rattle.cct_host.specs.declared.refusal.CrashNo.{CrashNo}
use Rattle.cct_host.specs.declared.refusal.CrashNo.TheVariants as crash_no
use Rattle.cct_world.specs.Restarts.{Loses, Restarts, kept_in}
use Rattle.cct_world.specs.Step.{CutsIn, LastsIn, crashes, crashes_of}

-- What a step takes for granted of the past: of a `next`, that the record that it puts, if it puts
-- one, suits the records before it; and of a power cut, that the records follow one another, with
-- the one whose put it interrupts. Of any other step nothing is asked.
abbrev pub StepSuits : Setup → List Entry → Step → Type 0
StepSuits setup past (step.Next addr) = PutSuits setup past addr
StepSuits setup past (step.Crash at choice) = RestartSuits setup past at
StepSuits setup past s = ⊤

-- What a step takes for granted of the disk: of a power cut, that it is trusted. Of any other step
-- nothing is asked.
abbrev pub Survives : Type 0 → Step → Type 0
Survives trusted (step.Crash at choice) = trusted
Survives trusted s = ⊤

module _ {D : Type 0} {g : Ghosts D} where
  -- The setup of a machine.
  abbrev pub setup_of : Machine D g → Setup
  setup_of machine = hosts.setup_of machine.host

  -- Its disk.
  abbrev pub disk_of : Machine D g → D
  disk_of machine = hosts.disk_of machine.host

  -- A put of its journal failed.
  abbrev pub has_failed : Machine D g → Bool
  has_failed machine = hosts.has_failed machine.host

  -- How many records its journal has.
  abbrev pub used_of : Machine D g → ℕ
  used_of machine = journals.used_of (hosts.journal_of machine.host)

  -- How many records its journal takes.
  abbrev pub capacity_in : Machine D g → ℕ
  capacity_in machine = hosts.capacity_in machine.host

  -- What is known at the desk of its operator.
  abbrev pub desk_of : Machine D g → Desk
  desk_of machine = machine.desk

  -- A machine represents a transcript, newest entry first: its host and its bus do.
  pub record StandsFor (machine : Machine D g) (past : List Entry) : Type 0 where
    pub host : hosts.StandsFor machine.host past
    pub bus : wires.StandsFor machine.bus past

  -- The disk is trusted.
  abbrev pub HasTrusted : Machine D g → Type 0
  HasTrusted machine = IsTrusted g.honest g.seen (disk_of machine)

  -- A step gives these entries, oldest first, by what is known at the operator's desk and whatever
  -- is after it, where a record that it puts suits those before it; and the machine goes on by
  -- them. A power cut does so on a trusted disk.
  abbrev pub Plays : Machine D g → Machine D g → Step → List Entry → Type 0
  Plays old new s report =
      (past : List Entry) → StandsFor old past → StepSuits (setup_of old) past s →
      Survives (HasTrusted old) s
      → EntriesAtDesk (capacity_in old) (setup_of old) past (desk_of old) s (reverse report)
      × StandsFor new (reverse report ++ past)

  -- A call of the disk failed in a step. It is a `next` that was about to put a record, and
  -- whatever a power cut leaves on the trusted disk stands for the records of the past, or for
  -- these and that one; or it is a loss of power, and that leaves these alone where no put was
  -- interrupted.
  abbrev pub FailsIn : Machine D g → D → Step → Type 0
  FailsIn old left (step.Next addr) =
      (past : List Entry) → StandsFor old past
      → (r : Record) × ((due_at (setup_of old) past addr ≡ Some r) × (HasTrusted old
      → LeavesRecords (setup_of old) g.honest g.seen g.may_leave left (Some r)
      (reverse (records past))))
  FailsIn old left (step.Crash at choice) =
      (past : List Entry) → StandsFor old past → HasTrusted old
      → LeavesRecords (setup_of old) g.honest g.seen g.may_leave left
      (due_in (setup_of old) past at) (reverse (records past))
  FailsIn old left s = ⊥

  -- The record that its host is about to put where a power cut comes, if it is about to put one.
  abbrev pub due_of : Machine D g → Option CrashAt → Option Record
  due_of machine at = restarting.due_of machine.host at

  -- That is the one that any past says that the machine represents.
  abbrev pub DueAsTold : Machine D g → Option CrashAt → Type 0
  DueAsTold machine at =
      (past : List Entry) → StandsFor machine past → due_of machine at
      ≡ due_in (setup_of machine) past at

  -- What a power cut left isn't what stood on the disk, and this is why. That is reported of no
  -- other step, and never of a trusted disk.
  abbrev pub LosesIn : Machine D g → D → CrashNo → Step → Type 0
  LosesIn old left why (step.Crash at choice) =
      ((past : List Entry) → StandsFor old past → RestartSuits (setup_of old) past at →
      HasTrusted old → ⊥)
      × DueAsTold old at × Loses (setup_of old) (used_of old) (due_of old at) (g.seen left) why
  LosesIn old left why s = ⊥

  -- What the disk has after a step that was played, where that is a power cut, and what is reported
  -- of it, newest entry first. Any other step shows no record as kept.
  abbrev pub RestartsBy : Machine D g → Machine D g → Step → List Entry → Type 0
  RestartsBy old new (step.Crash at choice) news =
      DueAsTold old at
      × Restarts (setup_of old) (due_of old at) (used_of old) (used_of new) (g.seen (disk_of new))
      news
  RestartsBy old new s news = kept_in news ≡ []

  -- Why a step wasn't played, where this disk is left.
  abbrev pub Breaks : Machine D g → D → CrashNo → Step → Type 0
  Breaks old left crash_no.Disk s = FailsIn old left s
  Breaks old left why s = LosesIn old left why s

  -- A step that makes no call of the disk gave these entries, oldest first: the setup and the
  -- journal stay, the machine goes on by the entries, and they report no power cut and no record,
  -- neither as put nor as kept. This is the desk then.
  pub record PlaysUndisturbed (old new : Machine D g) (s : Step) (report : List Entry)
      (after : Desk) : Type 0 where
    pub setup : setup_of new ≡ setup_of old
    pub journal : hosts.journal_of new.host ≡ hosts.journal_of old.host
    pub plays : Plays old new s report
    pub told : crashes (reverse report) ≡ 0
    pub recorded : records (reverse report) ≡ []
    pub unkept : kept_in (reverse report) ≡ []
    pub desk : desk_of new ≡ after

  -- A step was played, and gave these entries, oldest first. The setup stays, no put of the journal
  -- failed, and the machine goes on by the entries. Just a power cut shows one; the journal counts
  -- as many records more as they report, and after a power cut the disk has what they report. The
  -- disk goes on, and only a power cut cuts it, once and by its choice. This is the desk then.
  pub record PlayedTo (old new : Machine D g) (s : Step) (report : List Entry) (after : Desk) : Type
      0 where
    pub setup : setup_of new ≡ setup_of old
    pub whole : has_failed new ≡ false
    -- After each past for which the world stands, the step adds the entries of the definitions, and
    -- the world goes on by them.
    pub plays : Plays old new s report
    -- Exactly a power cut is reported as one.
    pub told : crashes (reverse report) ≡ crashes_of s
    -- The journal counts the records that the entries report, whatever happened before and over any
    -- disk.
    pub counts : used_of new ≡ used_of old + length (records (reverse report))
    -- A power cut is played only if a read of the disk then gives as many records as the journal
    -- counts, each of which follows those before it: as many as before, or one more if one was due,
    -- which is reported as kept.
    pub restarts : RestartsBy old new s (reverse report)
    -- A power cut cuts the disk exactly once, by its choice, and no other step cuts it.
    pub cut : CutsIn s g.size g.honest g.seen g.cuts g.cut_to (disk_of old) (disk_of new)
    pub lasts : LastsIn s g.size g.honest g.seen g.cuts (disk_of old) (disk_of new)
    pub later : g.faults (disk_of old) ≤ g.faults (disk_of new)
    -- Whatever happened before and over any disk, the desk goes on by the step and its entries.
    pub desk : desk_of new ≡ after

  -- The same, with the desk that the step and its entries make of the one before.
  abbrev pub StepPlayed : Machine D g → Machine D g → Step → List Entry → Type 0
  StepPlayed old new s report =
      PlayedTo old new s report (desk_after s (reverse report) (desk_of old))

  -- The host was given a payment of the session at the operator's desk, and these are the entries
  -- of its answer, oldest first. The rest is as in a step that makes no call of the disk.
  pub record Pays (old new : Machine D g) (p : Payment) (report : List Entry) : Type 0 where
    pub setup : setup_of new ≡ setup_of old
    pub journal : hosts.journal_of new.host ≡ hosts.journal_of old.host
    pub plays : (s : Session) → (desk_of old).session ≡ Some s → (past : List Entry) →
        StandsFor old past
        → (reverse report ≡ entries_by (capacity_in old) (setup_of old) past s p)
        × StandsFor new (reverse report ++ past)
    pub told : crashes (reverse report) ≡ 0
    pub recorded : records (reverse report) ≡ []
    pub unkept : kept_in (reverse report) ≡ []
    pub desk : (s : Session) → (desk_of old).session ≡ Some s → desk_of new
        ≡ gone_on (reverse report) (desk_of old).trays s

  -- A step wasn't played, for this reason; it gave no entry, and this disk is left. That the disk
  -- failed has its cause; for any other reason the step is a power cut, which cut the disk once, by
  -- its choice.
  pub record StepUnplayed (old : Machine D g) (left : D) (why : CrashNo) (s : Step)
      (report : List Entry) : Type 0 where
    -- Only a `next` whose job was about to put a record can fail, and a power cut. If the disk
    -- failed, whatever a power cut leaves on a trusted one stands for the records of the past, or
    -- for these and the one that was due. Else a power cut left what no host starts over, as a read
    -- of the disk that comes back says; never on a trusted disk.
    pub breaks : Breaks old left why s
    pub empty : report ≡ []
    pub cause : Caused (g.faults (disk_of old)) (g.faults left) (why ≡ crash_no.Disk)
    pub cut : why ≢ crash_no.Disk → CutsIn s g.size g.honest g.seen g.cuts g.cut_to (disk_of old)
        left
    pub lost : why ≢ crash_no.Disk → Rose (g.cuts (disk_of old)) (g.cuts left)
    pub lasts : LastsIn s g.size g.honest g.seen g.cuts (disk_of old) left
