-- What is kept beside a run at the operator's desk: something that changes by each step and its
-- entries.
use Rattle.std.specs.Prelude.{◌≡◌, ℕ, List, [], ◌∷◌, ◌++◌}
use Rattle.cct_model.specs.terms.device.Setup.{Setup}
use Rattle.cct_model.specs.lines.command.Step.{Step}
use Rattle.cct_model.specs.lines.entry.Entry.{Entry}
use Rattle.cct_model.specs.AtDesk.{EntriesAtDesk}
use Rattle.cct_model.specs.Change.{Desk, desk_after}

-- A past, a desk and what is kept go on by these steps, and end as these. What is kept changes by
-- the step, its entries and the desk before it.
abbrev pub AlongFrom :
    {A : Type 0} → (Step → List Entry → Desk → A → A) → ℕ → Setup → List Entry → Desk → A →
    List Step → List Entry →
    Desk → A → Type 0
AlongFrom after capacity setup past desk kept [] end last found =
    (end ≡ past) × (last ≡ desk) × (found ≡ kept)
AlongFrom after capacity setup past desk kept (s ∷ steps) end last found =
    (news : List Entry) × EntriesAtDesk capacity setup past desk s news
    × AlongFrom after capacity setup (news ++ past) (desk_after s news desk)
    (after s news desk kept) steps end last found
