-- The body of a record in a journal of version 1 or 2, which knew no accept counter: both versions
-- spelt records alike.
use Rattle.std.specs.Prelude.{◌≡◌, ℕ, ◌<◌, List, [], ◌∷◌, ◌++◌, ⊤}
use Rattle.std.specs.Int.{w16, to_le_bytes}
use Rattle.cct_model_lines.specs.declared.record.Record.{Record}
use Rattle.cct_model_lines.specs.declared.record.Record.TheVariants.{Epoch, Reading, Broken}
use Rattle.cct_record.specs.Body.{InRange, coins_fields, fields_of, filled}

-- The kind and the fields: no accept counter, one byte of lost coins in a reading, and none in a
-- broken epoch. The other kinds have the fields of today.
unfoldable pub old_fields_of : Record → List ℕ
old_fields_of (Epoch addr mask accepts) = 1 ∷ addr ∷ to_le_bytes w16 mask
old_fields_of (Reading addr counter lost accepts posted) =
    (2 ∷ addr ∷ counter ∷ lost ∷ []) ++ coins_fields posted
old_fields_of (Broken addr mask_seen counter lost accepts posted) =
    (3 ∷ addr ∷ counter ∷ to_le_bytes w16 mask_seen) ++ coins_fields posted
old_fields_of r = fields_of r

-- The body of a record: its fields, filled up with 0.
unfoldable pub old_body_of : Record → List ℕ
old_body_of r = filled (old_fields_of r)

-- What an old body can say: an accept counter is 0, a reading lost at most 255 coins, and a broken
-- epoch none.
abbrev pub IsOld : Record → Type 0
IsOld (Epoch addr mask accepts) = accepts ≡ 0
IsOld (Reading addr counter lost accepts posted) = (lost < 256) × (accepts ≡ 0)
IsOld (Broken addr mask_seen counter lost accepts posted) = (lost ≡ 0) × (accepts ≡ 0)
IsOld r = ⊤

-- A record and the old body that spells it.
pub record OldSpells (r : Record) (body : List ℕ) : Type 0 where
  pub in_range : InRange r
  pub is_old : IsOld r
  pub spelt : old_body_of r ≡ body

-- An old body that is the spelling of no record.
pub record IsRefusedOld (body : List ℕ) : Type 0 where
  pub none : (r : Record) → OldSpells r body → ⊥
