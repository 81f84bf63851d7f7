-- That an exchange was forged, as a step shows it.
use Rattle.std.specs.Prelude.{◌≡◌, ℕ, Bool, List, [], ◌∷◌, ◌++◌, if◌then◌else◌, Option, None, Some}
use Rattle.cct_model.specs.lines.entry.Entry.{Entry}
use Rattle.cct_model.specs.lines.entry.Entry.TheVariants as entry
use Rattle.cct_model.specs.Honest.{was_forged}
use Rattle.cct_bus.specs.declared.bus.Bus.{Bus}
use Rattle.cct_bus.specs.Bus as wires

-- The address of the exchange which entries begin with, or none.
abbrev pub asked_at : List Entry → Option ℕ
asked_at (entry.Wire addr sent heard ∷ entries) = Some addr
asked_at entries = None

-- What is reported of an exchange at this address, by whether it was forged. Without an exchange
-- nothing is reported.
abbrev pub forged_told : Bool → Option ℕ → List Entry
forged_told was None = []
forged_told was (Some addr) = if was then entry.Forged addr ∷ [] else []

-- Entries, oldest first, are followed by the one that says that the exchange which they begin with
-- was forged, where the last exchange of the bus was.
pub record TellsForged (bus : Bus) (report told : List Entry) : Type 0 where
  pub was : Bool
  pub told_is : told ≡ report ++ forged_told was (asked_at report)
  pub was_is : (past : List Entry) → wires.StandsFor bus past → was ≡ was_forged past
