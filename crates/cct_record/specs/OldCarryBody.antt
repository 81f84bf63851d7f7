-- The bodies of a carry in a journal of version 2, whose epochs had no accept counter.
use Rattle.std.specs.Prelude.{◌≡◌, ℕ, List, ◌∷◌, ◌++◌, [], map, All}
use Rattle.std.specs.Int.{w16, to_le_bytes}
use Rattle.cct_model_lines.specs.Carried.{IsRightly}
use Rattle.cct_model_lines.specs.declared.carry.Carry.{Carry}
use Rattle.cct_model_lines.specs.declared.carry.CarryEpoch.{CarryEpoch}
use Rattle.cct_record.specs.Body.{filled}
use Rattle.cct_record.specs.CarryBody.{first_sums, order_body, second_sums, third_sums}

-- The body of a running epoch.
unfoldable pub old_epoch_body : CarryEpoch → List ℕ
old_epoch_body e = filled ((12 ∷ e.addr ∷ to_le_bytes w16 e.mask) ++ e.counter ∷ [])

-- The bodies of a carry: those of today, but for its epochs.
abbrev pub old_bodies_of : Carry → List (List ℕ)
old_bodies_of c =
    first_sums c ∷ second_sums c ∷ third_sums c
    ∷ (map old_epoch_body c.epochs ++ map order_body c.orders)

-- The accept counter of an epoch is 0, as no old body has one.
abbrev pub IsOldEpoch : CarryEpoch → Type 0
IsOldEpoch e = e.accepts ≡ 0

-- Old bodies spell a carry that may be that of so many records.
pub record OldSpellsCarry (many : ℕ) (c : Carry) (bodies : List (List ℕ)) : Type 0 where
  pub rightly : IsRightly many c
  pub are_old : All IsOldEpoch c.epochs
  pub spelt : old_bodies_of c ≡ bodies

-- Old bodies that spell no carry of so many records.
abbrev pub OldSpellsNone : ℕ → List (List ℕ) → Type 0
OldSpellsNone many bodies = (c : Carry) → OldSpellsCarry many c bodies → ⊥
