-- What was played before the first power cut.
use Rattle.std.specs.Prelude.{◌≡◌, ◌⊎◌, ℕ, List, [], ◌++◌}
use Rattle.cct_model.specs.terms.device.Setup.{Setup}
use Rattle.cct_model.specs.lines.command.Step.{Step}
use Rattle.cct_model.specs.lines.entry.Entry.{Entry}
use Rattle.cct_model.specs.AtDesk.{LeavesDesk}
use Rattle.cct_model.specs.Change.{Desk}
use Rattle.cct_model.specs.Transcript.{onto}
use Rattle.cct_world.specs.Step.{crashes}
use Rattle.cct_world.specs.Relying.{First, IsCrash, losses_in}

-- The first of these steps, up to the first power cut, gave the first of these entries, and this
-- holds of both: they are all, or a power cut is the next step.
pub record BeforeLoss (steps : List Step) (transcript : List Entry)
    (So : List Step → List Entry → Type 0) : Type 0 where
  pub first : List Step
  pub later : List Step
  pub told : List Entry
  pub rest : List Entry
  pub steps_are : steps ≡ first ++ later
  pub transcript_is : transcript ≡ told ++ rest
  pub none : losses_in first ≡ 0
  pub ends : ((later ≡ []) × (rest ≡ [])) ⊎ First IsCrash later
  pub so : So first told

-- The entries of the steps before the first power cut are legal at the desk of the operator, and
-- report none; and where no step is a power cut, they leave this desk.
abbrev pub LegalBeforeLoss : ℕ → Setup → List Step → List Entry → Desk → Type 0
LegalBeforeLoss capacity setup steps transcript now =
    BeforeLoss steps transcript (λ first told. (crashes (onto [] told) ≡ 0)
    × (last : Desk) × LeavesDesk capacity setup first told last
    × (losses_in steps ≡ 0 → last ≡ now))
