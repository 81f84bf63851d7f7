-- A whole machine that represents all that happened on it.
use Rattle.std.specs.Prelude.{ℕ, List}
use Rattle.cct_model.specs.terms.device.Setup.{Setup}
use Rattle.cct_model.specs.lines.command.Step.{Step}
use Rattle.cct_model.specs.lines.entry.Entry.{Entry}
use Rattle.cct_model.specs.Change.{Desk}
use Rattle.cct_disk.specs.declared.disk.Disk.{Ghosts}
use Rattle.cct_host.specs.declared.refusal.CrashNo.{CrashNo}
use Rattle.cct_world.specs.declared.world.World.{World}
use Rattle.cct_world.specs.Machine as machines

module _ {D : Type 0} {g : Ghosts D} where
  -- The setup of a world.
  abbrev pub setup_of : World D g → Setup
  setup_of world = machines.setup_of world.machine.value

  -- Its disk.
  abbrev pub disk_of : World D g → D
  disk_of world = machines.disk_of world.machine.value

  -- What is known at the desk of its operator.
  abbrev pub desk_of : World D g → Desk
  desk_of world = machines.desk_of world.machine.value

  -- How many records its journal has.
  abbrev pub used_of : World D g → ℕ
  used_of world = machines.used_of world.machine.value

  -- How many records its journal takes.
  abbrev pub capacity_in : World D g → ℕ
  capacity_in world = machines.capacity_in world.machine.value

  -- A world represents a transcript, newest entry first: the machine in its box does.
  abbrev pub StandsFor : World D g → List Entry → Type 0
  StandsFor world past = machines.StandsFor world.machine.value past

  -- A step was played, and gave these entries, oldest first.
  abbrev pub StepPlayed : World D g → World D g → Step → List Entry → Type 0
  StepPlayed old new s report = machines.StepPlayed old.machine.value new.machine.value s report

  -- A step wasn't played, for this reason, and this disk is left.
  abbrev pub StepUnplayed : World D g → D → CrashNo → Step → List Entry → Type 0
  StepUnplayed old left why s report = machines.StepUnplayed old.machine.value left why s report

  -- A step gives these entries, oldest first, whatever is after it, where a record that it puts
  -- suits those before it; and the world goes on by them. A power cut does so on a trusted disk.
  abbrev pub Plays : World D g → World D g → Step → List Entry → Type 0
  Plays old new s report = machines.Plays old.machine.value new.machine.value s report

  -- What the disk has after a step that was played, where that is a power cut, and what is reported
  -- of it, newest entry first. Any other step shows no record as kept.
  abbrev pub RestartsBy : World D g → World D g → Step → List Entry → Type 0
  RestartsBy old new s news = machines.RestartsBy old.machine.value new.machine.value s news

  -- Why a step wasn't played, where this disk is left.
  abbrev pub Breaks : World D g → D → CrashNo → Step → Type 0
  Breaks old left why s = machines.Breaks old.machine.value left why s
