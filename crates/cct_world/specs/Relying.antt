-- What of a past may be relied on, and the first of the steps that weren't played.
use Rattle.std.specs.Prelude.{◌≡◌, ◌⊎◌, ℕ, ◌+◌, List, [], ◌∷◌, Option, Some, None, ⊤}
use Rattle.cct_model.specs.terms.device.Setup.{Setup}
use Rattle.cct_model.specs.lines.command.Step.{Step}
use Rattle.cct_model.specs.lines.command.Step.TheVariants as step
use Rattle.cct_model.specs.lines.record.Record.{Record}
use Rattle.cct_model.specs.lines.entry.Entry.{Entry}
use Rattle.cct_model.specs.Legal.{due_at}
use Rattle.cct_laws.specs.Restart.{due_in}
use Rattle.cct_world.specs.Step.{crashes, crashes_of}

-- What is claimed of a past may be relied on: the disk was trusted, or no power cut is reported.
abbrev pub IsReliable : Type 0 → List Entry → Type 0
IsReliable trusted past = trusted ⊎ (crashes past ≡ 0)

-- How many of these steps are power cuts.
abbrev pub losses_in : List Step → ℕ
losses_in [] = 0
losses_in (s ∷ steps) = crashes_of s + losses_in steps

-- The step is a power cut.
abbrev pub IsCrash : Step → Type 0
IsCrash (step.Crash at choice) = ⊤
IsCrash s = ⊥

-- The record that a step is about to put, or whose put it interrupts, or none.
abbrev pub due_to : Setup → List Entry → Step → Option Record
due_to setup past (step.Next addr) = due_at setup past addr
due_to setup past (step.Crash at choice) = due_in setup past at
due_to setup past s = None

-- The disk may fail in a step: in a power cut, and in a `next`, whose job was about to put a record
-- where the past may be relied on.
abbrev pub MayFail : Type 0 → Setup → List Entry → Step → Type 0
MayFail sure setup past (step.Next addr) = sure → (r : Record) × (due_at setup past addr ≡ Some r)
MayFail sure setup past (step.Crash at choice) = ⊤
MayFail sure setup past s = ⊥

-- There is a first one of these steps, and it is such.
abbrev pub First : (Step → Type 0) → List Step → Type 0
First P [] = ⊥
First P (s ∷ steps) = P s
