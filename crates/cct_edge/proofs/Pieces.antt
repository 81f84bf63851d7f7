-- What is left after a piece of some bytes.
use Rattle.std.proofs.Common.{◌≡◌, ℕ, ◌+◌, ◌-◌, List, ◌++◌, length, sym}
use Rattle.std.specs.Prelude.{take, drop}
use Rattle.std.proofs.lemmas.List.{append_assoc, take-append-drop, take_rest, drop-drop}

-- a piece that was copied is at the front of what was left
pub piece_is_front : (bytes room : List ℕ) (taken n : ℕ) → take n room ≡ take n (drop taken bytes) →
    drop taken bytes ≡ take n room ++ drop (taken + n) bytes
piece_is_front bytes room taken n copied =
    rw (copied, ← drop-drop n taken bytes) (sym (take-append-drop n (drop taken bytes)))

-- after n more bytes, what is done and what is left still make the piece
pub rest_moves : (piece done rest : List ℕ) (n : ℕ) → piece ≡ done ++ rest →
    piece ≡ (done ++ take n rest) ++ take (length rest - n) (drop n rest)
rest_moves piece done rest n split =
    rw (take_rest rest n, append_assoc, take-append-drop n rest) split
