-- What a run keeps from line to line.
use Rattle.std.specs.Prelude.{◌≡◌, ℕ, List, [], ◌++◌, Option}
use Rattle.std.specs.Io.KnownBytes.{Consumes}
use Rattle.cct_model.specs.lines.command.Step.{Step}
use Rattle.cct_model.specs.lines.entry.Entry.{Entry}
use Rattle.cct_model.specs.terms.device.Setup.{Setup}
use Rattle.cct_model.specs.AtDesk.{LeavesDesk}
use Rattle.cct_model.specs.Change.{Desk}
use Rattle.cct_model.specs.Script.{Stage, Script, script}
use Rattle.cct_model.specs.Transcript.{onto}
use Rattle.cct_world.specs.Early.{LegalBeforeLoss}
use Rattle.cct_bench.specs.Disks.{most_records}
use Rattle.cct_bench.specs.Lines.{said_from}

-- A script says these steps, and then what the rest says.
pub record AlsoSays (whole : Script) (played : List Step) (rest : Script) : Type 0 where
  pub setup : whole.setup ≡ rest.setup
  pub steps : whole.steps ≡ played ++ rest.steps
  pub refused : whole.refused ≡ rest.refused

-- No step was played.
abbrev pub IsUnbegun : List Step → List Entry → Type 0
IsUnbegun played past = (played ≡ []) × (past ≡ [])

-- What was taken and played so far: whatever follows, the script says these steps and what the
-- lines from here on say, and the entries are those of these steps and leave this desk at a machine
-- of the script's setup, where their past may be relied on, and in any case up to the first power
-- cut; this holds of the steps and the past, and the entries were written.
pub record Going (Relies : List Entry → Type 0) (now : Setup → Desk) (left0 left : Option (List ℕ))
    (held : List ℕ) (number : ℕ)
    (stage : Stage) (Stands : List Step → List Entry → Type 0) (Written : List Entry → Type 0)
    : Type 0 where
  pub taken : List ℕ
  pub played : List Step
  pub transcript : List Entry
  pub consumed : Consumes left0 left taken
  pub says : (more : List ℕ) → AlsoSays (script (taken ++ more)) played
      (said_from number stage (held ++ more))
  pub legal : Relies (onto [] transcript) → (more : List ℕ)
      → LeavesDesk most_records (script (taken ++ more)).setup played transcript
      (now (script (taken ++ more)).setup)
  pub early : (more : List ℕ)
      → LegalBeforeLoss most_records (script (taken ++ more)).setup played transcript
      (now (script (taken ++ more)).setup)
  pub holds : Stands played (onto [] transcript)
  pub wrote : Written transcript
