-- The steps of a script that are played.
use Rattle.std.specs.Prelude.{◌≡◌, ℕ, ◌+◌, List, ◌++◌, length, reverse, Option, Bool, true, false}
use Rattle.std.specs.Prelude.{if◌then◌else◌, IsTrue}
use Rattle.cct_model.specs.lines.command.Step.{Step}
use Rattle.cct_model.specs.lines.command.Step.TheVariants as step
use Rattle.cct_model.specs.terms.device.Setup.{Setup}
use Rattle.cct_model.specs.lines.entry.Entry.{Entry}
use Rattle.cct_model.specs.AtDesk.{EntriesAtDesk}
use Rattle.cct_model.specs.Change.{Desk, desk_after}
use Rattle.cct_model.specs.Legal.{is_played}
use Rattle.cct_model.specs.Records.{records}
use Rattle.cct_model.specs.Script.{Read, at_steps, at_end, opens, plays, is_known, IsInRange}
use Rattle.cct_world.specs.Machine.{StepSuits, Survives}
use Rattle.cct_world.specs.Restarts.{RestartsIn}
use Rattle.cct_world.specs.Step.{crashes, crashes_of}
use Rattle.cct_bench.specs.Disks.{most_records}

-- The step is `end`.
abbrev pub is_end : Step → Bool
is_end step.End = true
is_end s = false

-- What a step line that isn't refused is to a script.
abbrev pub read_as : Setup → Step → Read
read_as setup s = if is_end s then opens (at_end setup) else plays s (at_steps setup)

-- A step that a machine of this setup plays: its numbers are in their ranges, it names a device
-- that is there and of the kind that it needs, and it is one of those that are played.
pub record CanPlay (setup : Setup) (s : Step) : Type 0 where
  pub in_range : IsInRange s
  pub known : IsTrue (is_known setup s)
  pub played : IsTrue (is_played s)

-- A step gives these entries at the operator's desk, oldest first, whatever is after it, where a
-- record that it puts suits those before it, and the disk is trusted if it is a power cut: one past
-- represents what was before, and the past with them for what is after.
abbrev pub Plays : Type 0 → (List Entry → Type 0) → (List Entry → Type 0) → Setup → Desk → Step →
    List Entry → Type 0
Plays trusted Before After setup now s report =
    (past : List Entry) → Before past → StepSuits setup past s → Survives trusted s
    → EntriesAtDesk most_records setup past now s (reverse report) × After (reverse report ++ past)

-- A step was played, and the desk is then this other one; and just a power cut shows one. This
-- holds of the cuts of the disk. So many records were counted before it, and so many after it, just
-- those more that it reports; after a power cut a read gives these bytes. Its entries were written
-- so, which holds by the answer.
pub record PlaysOn (trusted : Type 0) (Before After : List Entry → Type 0) (setup : Setup)
    (now next : Desk) (s : Step)
    (Cut : Type 0) (used many : ℕ) (seen : Option (List ℕ)) (WritesThem : List Entry → Type 0)
    : Type 0 where
  pub report : List Entry
  pub plays : Plays trusted Before After setup now s report
  pub desk : next ≡ desk_after s (reverse report) now
  pub told : crashes (reverse report) ≡ crashes_of s
  pub cut : Cut
  pub counts : many ≡ used + length (records (reverse report))
  pub restarts : RestartsIn Before setup s used many seen (reverse report)
  pub wrote : WritesThem report
