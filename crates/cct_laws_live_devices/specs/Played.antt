-- A world is the transcript of a bench that plays some steps.
use Rattle.std.specs.Prelude.{ℕ, List, [], ◌∷◌}
use Rattle.std.specs.List.{All}
use Rattle.cct_model.specs.terms.device.Setup.{Setup}
use Rattle.cct_model.specs.lines.command.Step.{Step}
use Rattle.cct_model.specs.lines.entry.Entry.{Entry}
use Rattle.cct_model.specs.lines.entry.Entry.TheVariants as entry
use Rattle.cct_model.specs.Transcript.{heard_after}
use Rattle.cct_model.specs.Legal.{LegalFrom}
use Rattle.cct_model.specs.Script.{IsInRange}

-- A past is what a bench says that plays some steps in range.
pub record IsPlayed (capacity : ℕ) (setup : Setup) (past : List Entry) : Type 0 where
  pub steps : List Step
  pub in_range : All IsInRange steps
  pub legal : LegalFrom capacity setup [] steps past

-- A past in which each exchange heard just what the model says.
abbrev pub mended : Setup → List Entry → List Entry
mended setup [] = []
mended setup (entry.Wire addr sent piece ∷ past) =
    entry.Wire addr sent (heard_after setup (mended setup past) sent) ∷ mended setup past
mended setup (e ∷ past) = e ∷ mended setup past
