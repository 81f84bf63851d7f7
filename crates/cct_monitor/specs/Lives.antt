-- What is said of a hopper: how many coins fell between two life counts.
use Rattle.std.specs.Prelude.{ℕ, suc, List, [], ◌∷◌, length, Option, Some, None}
use Rattle.cct_model.specs.Order.{life_between}
use Rattle.cct_monitor.specs.declared.hopper.LastLife.{LastLife}
use Rattle.cct_audit_taps.specs.declared.said.Said.{Said}
use Rattle.cct_audit_taps.specs.declared.said.Said.TheVariants.{Fell}

-- The last life count that taps showed, newest first, with the number of its tap, or none. Taps are
-- numbered from 1.
abbrev pub last_life : List (Option ℕ) → Option LastLife
last_life [] = None
last_life (Some count ∷ past) = Some (record { number = suc (length past); count = count })
last_life (None ∷ past) = last_life past

-- What a tap of a number makes said of the hopper at an address, after the last life count.
abbrev pub fell_by : ℕ → ℕ → Option ℕ → Option LastLife → List Said
fell_by addr number (Some now) (Some life) =
    Fell addr life.number number (life_between life.count now) ∷ []
fell_by addr number found life = []

-- What a tap makes said of the hopper at an address, after the taps before it, newest first.
abbrev pub fell_at : ℕ → Option ℕ → List (Option ℕ) → List Said
fell_at addr s past = fell_by addr (suc (length past)) s (last_life past)
