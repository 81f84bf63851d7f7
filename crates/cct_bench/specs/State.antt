-- What a state of the bench leaves: what it took of its script, and what it wrote, by its status.
use Rattle.std.specs.Prelude.{◌≡◌, ◌≢◌, ◌⊎◌, ◌==◌, ℕ, Bool, false, List, [], ◌∷◌, ◌++◌, reverse}
use Rattle.std.specs.Prelude.{Option, Some, None, Result, Ok, Err}
use Rattle.cct_edge.specs.declared.fault.Failed.{Failed}
use Rattle.cct_journal.specs.declared.refusal.OpenNo.TheVariants as opening
use Rattle.cct_model.specs.Script.{Refusal}
use Rattle.cct_model.specs.Text.{line_of}
use Rattle.cct_model.specs.lines.carry.Carry.{Carry}
use Rattle.cct_model.specs.lines.entry.Entry.{Entry}
use Rattle.cct_model.specs.lines.entry.Entry.TheVariants as entry
use Rattle.cct_model.specs.lines.entry.LineKind.TheVariants as kind
use Rattle.cct_model.specs.lines.record.Record.{Record}
use Rattle.cct_model.specs.terms.device.Setup.{Setup}
use Rattle.cct_script.specs.Source.{to_come}
use Rattle.cct_bench_state.specs.Books.{SuitsSetup, state_lines}
use Rattle.cct_bench_state.specs.Telling.{IsBad, Known}
use Rattle.cct_bench_state.specs.declared.telling.StateEnd.{StateEnd}
use Rattle.cct_bench_state.specs.declared.telling.StateEnd.TheVariants as telling
use Rattle.cct_bench.specs.UpgradeScript.{IsUnfinished, ScriptSays, upgrade_script}
use Rattle.cct_bench.specs.declared.ending.Ending.{Ending}
use Rattle.cct_bench.specs.declared.ending.Ending.TheVariants as ending
use Rattle.cct_bench.specs.declared.outcome.Status.{Status}
use Rattle.cct_bench.specs.declared.outcome.Status.TheVariants as status
use Rattle.cct_bench.specs.declared.play.TheConstants.{JOURNAL_BYTES}

-- What the bytes of a script give: the setup that they say up to its end; or none, where they end
-- before the first line does.
abbrev pub Gives : List ℕ → Option Setup → Type 0
Gives bytes (Some setup) =
    upgrade_script bytes ≡ record { setup = setup; steps = []; refused = None }
Gives bytes None = (upgrade_script bytes).refused ≡ Some (record { number = 1; why = kind.Cut })

-- A script ended before its first line did.
abbrev pub gives_none : Ending → Bool
gives_none (ending.Refused number kind.Cut) = number == 1
gives_none how = false

-- What is known of a disk whose state is reported: how many bytes it has, what it has, and whether
-- a call of it failed.
pub record StateDisk : Type 1 where
  pub size : ℕ
  pub known : Known
  pub failed : Type 0

-- A disk of which this is known.
abbrev pub told_disk : ℕ → Known → Type 0 → StateDisk
told_disk size known failed = record { size = size; known = known; failed = failed }

-- of a state over a disk, with a script of these bytes, of which these were taken
module _ (disk : StateDisk) (source_failed : Type 0) (bytes taken : List ℕ) where
  -- All lines of a state, by its status: the whole state; or a last line alone, and its cause.
  abbrev pub StateIs : Status → List (List ℕ) → Type 0
  StateIs status.Done lines =
      (setup : Option Setup) × (base : ℕ) × (c : Carry) × (records : List Record)
      × (disk.size ≡ JOURNAL_BYTES)
      × Gives bytes setup × disk.known.has base c records × SuitsSetup setup c (reverse records)
      × (lines ≡ state_lines setup c (reverse records))
  StateIs status.ScriptRefused lines =
      (refusal : Refusal) × (disk.size ≡ JOURNAL_BYTES)
      × ((upgrade_script bytes).refused ≡ Some refusal)
      × (lines ≡ line_of (entry.Line refusal.number refusal.why) ∷ [])
  StateIs status.ReadFault lines =
      (disk.size ≡ JOURNAL_BYTES) × IsUnfinished taken × source_failed
      × (lines ≡ line_of entry.ReadFault ∷ [])
  StateIs status.DiskFault lines =
      (disk.size ≡ JOURNAL_BYTES) × disk.failed × (lines ≡ line_of entry.DiskFault ∷ [])
  StateIs status.DiskSize lines =
      (disk.size ≢ JOURNAL_BYTES) × (taken ≡ []) × (lines ≡ line_of (entry.DiskSize disk.size) ∷ [])
  StateIs status.JournalLost lines =
      (disk.size ≡ JOURNAL_BYTES)
      × ((disk.known.alien × (lines ≡ line_of entry.JournalAlien ∷ []))
      ⊎ ((setup : Option Setup) × (index : ℕ) × Gives bytes setup × IsBad disk.known setup index
      × (lines ≡ line_of (entry.JournalBad index) ∷ [])))
  StateIs s lines = ⊥

  -- What a state wrote, by its status: all its lines; or, where the sink failed, those of a state
  -- of another status up to a put that failed; or, where there was no memory, nothing.
  abbrev pub StateEnds : Status → (List (List ℕ) → Result (Unit {0}) Failed → Type 0) → Type 0
  StateEnds status.WriteFault writes =
      (s : Status) × (lines : List (List ℕ)) × (failed : Failed) × StateIs s lines
      × writes lines (Err failed)
  StateEnds status.OutOfMemory writes = (taken ≡ []) × writes [] (Ok tt)
  StateEnds s writes = (lines : List (List ℕ)) × StateIs s lines × writes lines (Ok tt)

-- A state by a script of these bytes: what it took of them, and what it wrote. The bytes are those
-- taken and those still to come; a source that shows none is taken to have no more.
pub record Stated (disk : StateDisk) (source_failed : Type 0) (bytes : List ℕ) (s : Status)
    (left : Option (List ℕ))
    (writes : List (List ℕ) → Result (Unit {0}) Failed → Type 0) : Type 0 where
  pub taken : List ℕ
  pub took : bytes ≡ taken ++ to_come left
  pub ends : StateEnds disk source_failed bytes taken s writes

-- The last line of a state whose report ended so, if it has one.
abbrev pub line_behind_state : StateEnd → List Entry
line_behind_state (telling.Unread opening.Disk) = entry.DiskFault ∷ []
line_behind_state (telling.Unread opening.Alien) = entry.JournalAlien ∷ []
line_behind_state (telling.Unread (opening.BadRecord index)) = entry.JournalBad index ∷ []
line_behind_state how = []

-- The status of a state whose report ended so, where its last line, if it has one, is written.
abbrev pub stated_by : StateEnd → Status
stated_by telling.Done = status.Done
stated_by telling.Unwritten = status.WriteFault
stated_by (telling.Unread opening.Disk) = status.DiskFault
stated_by (telling.Unread opening.Alien) = status.JournalLost
stated_by (telling.Unread (opening.BadRecord index)) = status.JournalLost

-- What came of reporting the state of such a disk by a setup, where one is given.
abbrev pub TellsBy : StateDisk → Option Setup → Status →
    (List (List ℕ) → Result (Unit {0}) Failed → Type 0) → Type 0
TellsBy disk setup s writes =
    (bytes taken : List ℕ) → disk.size ≡ JOURNAL_BYTES → Gives bytes setup →
    StateEnds disk ⊥ bytes taken s writes

-- What came of a script that was read no further than this, over such a disk.
abbrev pub StopsBy : StateDisk → Ending → Status →
    (List (List ℕ) → Result (Unit {0}) Failed → Type 0) → Type 0
StopsBy disk how s writes =
    (bytes taken : List ℕ) → disk.size ≡ JOURNAL_BYTES → ScriptSays how bytes taken
    → StateEnds disk (how ≡ ending.Unread) bytes taken s writes

-- A status of a state: none that comes of the words, or of want of memory, or of another word.
pub record IsOfState (s : Status) : Type 0 where
  pub words : s ≢ status.WordsRefused
  pub memory : s ≢ status.OutOfMemory
  pub upgrade : s ≢ status.NotUpgraded

-- A status of a state whose script was read: none of reading it, either.
pub record IsToldState (s : Status) : Type 0 where
  pub of_state : IsOfState s
  pub read : s ≢ status.ReadFault
