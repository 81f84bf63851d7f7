-- How the parts of a proofreading stand to the stages of a script.
use Rattle.std.specs.Prelude.{◌≡◌, ℕ, Bool, true, false, List, [], ◌∷◌, Option, Some, None, ⊤}
use Rattle.cct_model_lines.specs.terms.device.Setup.{Setup}
use Rattle.cct_model_lines.specs.declared.command.Step.{Step}
use Rattle.cct_model_lines.specs.declared.command.Step.TheVariants as step
use Rattle.cct_model_lines.specs.declared.entry.Entry.{Entry}
use Rattle.cct_model_lines.specs.declared.entry.Entry.TheVariants as entry
use Rattle.cct_model_lines.specs.declared.setup.SetupLine.{SetupLine}
use Rattle.cct_model_lines.specs.declared.setup.SetupLine.TheVariants as says
use Rattle.cct_model_lines.specs.Script.{Stage, at_end, at_setup, at_steps}
use Rattle.cct_script_check.specs.Proof.{Mark, goes, left_out}
use Rattle.cct_script_check.specs.declared.taking.Looked.{Looked}
use Rattle.cct_script_check.specs.declared.taking.Looked.TheVariants as looked
use Rattle.cct_script_check.specs.declared.taking.Part.{Part}
use Rattle.cct_script_check.specs.declared.taking.Part.TheVariants as part

-- The stage at which a script wants such lines next.
abbrev pub stage_of : Part → Setup → Stage
stage_of part.Setup setup = at_setup setup
stage_of part.Steps setup = at_steps setup

-- Which lines stand after a line of the setup.
abbrev pub part_after : SetupLine → Part
part_after says.Begin = part.Steps
part_after line = part.Setup

-- What the line of a step is that is taken.
abbrev pub looked_behind : Step → Looked
looked_behind step.End = looked.Ends
looked_behind s = looked.Goes part.Steps

-- What a line is that was looked at, with this setup after it.
abbrev pub mark_as : Looked → Setup → Mark
mark_as (looked.Goes next) setup = goes (stage_of next setup)
mark_as looked.Ends setup = goes (at_end setup)
mark_as (looked.Refused why) setup = left_out why

-- A refused line leaves the setup as it is.
abbrev pub Keeps : Looked → Setup → Setup → Type 0
Keeps (looked.Refused why) old new = new ≡ old
Keeps l old new = ⊤

-- What a line is was found rightly, and with this setup after it.
pub record Takes (mark : Mark) (old new : Setup) (result : Looked) : Type 0 where
  pub found : mark ≡ mark_as result new
  pub keeps : Keeps result old new

-- Which lines stand after a line that was looked at, where these stood before, or none at the
-- script's end.
abbrev pub part_by : Part → Looked → Option Part
part_by before (looked.Goes next) = Some next
part_by before looked.Ends = None
part_by before (looked.Refused why) = Some before

-- A line that was looked at is refused.
abbrev pub is_refused : Looked → Bool
is_refused (looked.Refused why) = true
is_refused l = false

-- The lines that report a line of this number that was looked at.
abbrev pub looked_lines : ℕ → Looked → List Entry
looked_lines number (looked.Refused why) = entry.Line number why ∷ []
looked_lines number l = []
