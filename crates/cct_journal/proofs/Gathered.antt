-- Bytes of which no bit is set.
use Rattle.std.proofs.Common.{◌≡◌, ℕ, zero, suc, ◌≤◌, List, [], ◌∷◌, subst, arith, bit_or, fold}
use Rattle.std.proofs.lemmas.Nat.{le_or_l, le_or_r}
use Rattle.cct_journal.specs.Image.{IsBlank}

none_below : (n : ℕ) → n ≤ 0 → n ≡ 0
none_below n low = omega (arith, low)

gathered : (bits : ℕ) (bytes : List ℕ) → fold bit_or bits bytes ≡ 0 → (bits ≡ 0) × IsBlank bytes
gathered bits [] is = (is, λ p low high. absurd (omega (arith, high)))
gathered bits (byte ∷ bytes) is =
    let rest = gathered (bit_or bits byte) bytes is in
    let first : bits ≡ 0 = none_below bits (subst (λ n. bits ≤ n) rest.0 (le_or_l bits byte)) in
    let here : byte ≡ 0 = none_below byte (subst (λ n. byte ≤ n) rest.0 (le_or_r bits byte)) in
    (first, by_place rest.1 here)
  where
    by_place : IsBlank bytes → byte ≡ 0 → IsBlank (byte ∷ bytes)
    by_place blank here zero low high = here
    by_place blank here (suc p) low high = blank p (omega arith) (omega (arith, high))

pub blank_gathered : (bytes : List ℕ) → fold bit_or 0 bytes ≡ 0 → IsBlank bytes
blank_gathered bytes is = (gathered 0 bytes is).1
