-- What a write leaves of an image, byte by byte.
use Rattle.std.proofs.Common.{◌≡◌, ℕ, ◌+◌, ◌≤◌, List, ◌∷◌, ◌++◌, length, take, drop, slice_index, sym, ◌∙◌, ap, arith}
use Rattle.std.proofs.Common.{append_assoc}
use Rattle.std.proofs.lemmas.List.{drop_at, length-take-le, get_or-drop, drop-take, take-take}
use Rattle.cct_disk.specs.Disk.{SameOutside, put_at}

-- bytes before the range stay
pub same_before : (at n : ℕ) (old new : List ℕ) → SameOutside at n old new → (from m : ℕ) → from + m ≤ at
    → take m (drop from new) ≡ take m (drop from old)
same_before at n old new same from m before =
    let read : (l : List ℕ) → take m (drop from (take at l)) ≡ take m (drop from l) = λ l.
    sym (drop-take from m (take at l)) ∙ ap (λ (x : List ℕ). drop from x) (take-take (from + m) at l before)
    ∙ drop-take from m l in
    sym (read new) ∙ ap (λ (l : List ℕ). take m (drop from l)) same.before ∙ read old

-- the first byte of a rest
pub first_byte : (l : List ℕ) (at byte : ℕ) (rest : List ℕ) → drop at l ≡ byte ∷ rest → slice_index l at ≡ byte
first_byte l at byte rest is =
    let here : at ≡ at + 0 = omega arith in
    ap (λ n. slice_index l n) here ∙ sym (get_or-drop at l 0 0) ∙ ap (λ (x : List ℕ). slice_index x 0) is

module _ (at : ℕ) (bytes old : List ℕ) (fits : at + length bytes ≤ length old) where
  front_long : length (take at old) ≡ at
  front_long = length-take-le at old (omega arith)

  -- bytes that are put stand there
  pub put_there : drop at (put_at old at bytes) ≡ bytes ++ drop (at + length bytes) old
  put_there = ap (λ (l : List ℕ). drop at l) (append_assoc (take at old) bytes (drop (at + length bytes) old))
      ∙ drop_at (take at old) (bytes ++ drop (at + length bytes) old) at front_long
