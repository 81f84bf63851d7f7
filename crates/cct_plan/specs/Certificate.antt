-- What a table shows of the plan that it was asked last.
use Rattle.std.specs.Prelude.{◌≡◌, ℕ, List, Option, Some}
use Rattle.cct_model.specs.declared.change.Tray.{Tray}
use Rattle.cct_model.specs.Plan.{NoneFewer}

-- The trays and the amount that a plan is asked for.
pub record Asked : Type 0 where
  pub trays : List Tray
  pub amount : ℕ

-- What was asked last is this, and no plan of it has fewer than so many coins.
pub record Proves (asked : Option Asked) (trays : List Tray) (amount count : ℕ) : Type 0 where
  pub asked_last : asked ≡ Some (record { trays = trays; amount = amount })
  pub none_fewer : NoneFewer trays amount count
