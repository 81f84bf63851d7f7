-- The number of the coins is after the fields, and then the coins so far.
use Rattle.std.proofs.Common.{◌≡◌, ◌+◌, ◌*◌, ◌∷◌, ◌++◌, length, take}
use Rattle.std.specs.Prelude.{All, flat_map}
use Rattle.arrayvec.specs.ArrayVec.{array_vec_len}
use Rattle.cct_record.specs.Body.{FitsBytes, coin_fields}
use Rattle.cct_record.proofs.writing.add_coins.Given as goal

abbrev pub invariant-loop-coin : goal.invariant-loop-coin
invariant-loop-coin l = record {
  items : l.fields.items ≡ l.fn.fields.items ++ (length l.posted ∷ flat_map coin_fields (take l.coin-index l.posted));
  room : array_vec_len l.fields ≡ array_vec_len l.fn.fields + 1 + 2 * l.coin-index;
  fit : All FitsBytes (take l.coin-index l.posted);
}
