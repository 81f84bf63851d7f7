-- What a set of addresses is to its callers, and the four words that keep it.
use Rattle.std.specs.Prelude.{◌≡◌, ℕ, suc, zero, ◌+◌, ◌*◌, ◌/◌, ◌%◌, ◌^◌, ◌<◌, ◌==◌, Bool, true}
use Rattle.std.specs.Prelude.{false, List, [], ◌∷◌, length, take, drop, flat_map, slice_index_or}
use Rattle.std.proofs.Common.{refl, arith}
use Rattle.std.proofs.Math.Nat.{pow-suc}

-- For each address, in rising order, whether it is in the set.
pub record Members : Type 0 where
  pub members : List Bool

-- The lowest bits of a number, from bit 0 on, of which a 1 is a yes.
abbrev pub bits_of : ℕ → ℕ → List Bool
bits_of zero number = []
bits_of (suc count) number = (number % 2 == 1) ∷ bits_of count (number / 2)

-- The set that words keep: each holds 64 addresses.
unfoldable pub set_in : List ℕ → Members
set_in words = record { members = flat_map (bits_of 64) words }

-- A bit is 1 for a yes.
abbrev pub bit_of : Bool → ℕ
bit_of true = 1
bit_of false = 0

-- The number of given bits, from bit 0 on.
abbrev pub number_of : List Bool → ℕ
number_of [] = 0
number_of (bit ∷ bits) = bit_of bit + number_of bits * 2

-- The words that keep a set.
unfoldable pub words_of : Members → List ℕ
words_of set =
    number_of (take 64 set.members)
    ∷ number_of (take 64 (drop 64 set.members))
    ∷ number_of (take 64 (drop 128 set.members))
    ∷ number_of (take 64 (drop 192 set.members))
    ∷ []

-- Four words of 64 bits.
pub record AreWords (words : List ℕ) : Type 0 where
  pub four : length words ≡ 4
  pub fit : (i : ℕ) → slice_index_or words i 0 < 2 ^ 64

-- A bit is that of its number.
bit_is : (number : ℕ) → number < 2 → bit_of (number == 1) ≡ number
bit_is zero below = refl
bit_is (suc zero) below = refl
bit_is (suc (suc number)) below = absurd (omega arith)

-- A number is that of its bits.
number_is : (count number : ℕ) → number < 2 ^ count → number_of (bits_of count number) ≡ number
number_is zero number fits = omega arith
number_is (suc count) number fits =
    let half = number_is count (number / 2) (omega (arith, pow-suc 2 count)) in
    omega (arith, bit_is (number % 2) (omega arith), half)

-- Words are those of the set that they keep.
pub words_back : (words : List ℕ) → AreWords words → words_of (set_in words) ≡ words
unfolding set_in words_of
words_back [] are = absurd (omega (arith, are.four))
words_back (a ∷ []) are = absurd (omega (arith, are.four))
words_back (a ∷ b ∷ []) are = absurd (omega (arith, are.four))
words_back (a ∷ b ∷ c ∷ []) are = absurd (omega (arith, are.four))
words_back (a ∷ b ∷ c ∷ d ∷ []) are =
    λ i. number_is 64 a (are.fit 0) i ∷ number_is 64 b (are.fit 1) i ∷ number_is 64 c (are.fit 2) i
    ∷ number_is 64 d (are.fit 3) i ∷ []
words_back (a ∷ b ∷ c ∷ d ∷ e ∷ words) are = absurd (omega (arith, are.four))
