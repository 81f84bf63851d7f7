-- What a run of bytes ends as, where its list is lent.
use Rattle.std.specs.Prelude.{ℕ, List}
use Rattle.std.specs.Borrow.{Lends, MutBor, Fml, RattleType, u8, unit}
use Rattle.arrayvec.specs.ArrayVec.{ArrayVec}
use Rattle.arrayvec.specs.contracts.array_vec.ArrayVec as array
use Rattle.cct_model_wire.specs.contracts.wire.Bytes as bytes

-- The bytes are those of the list that was lent, as it is last.
abbrev pub LendsBytes : RattleType → MutBor (List ℕ) → MutBor (ArrayVec ℕ) → Fml
LendsBytes most b r =
    Lends (bytes.the_row most) (array.the_row u8 most unit) b r (λ last. last.items)
