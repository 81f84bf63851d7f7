-- What a byte makes of the register: bits go in through xor, so the two bytes of a register may be looked at apart.
use Rattle.std.proofs.Common.{◌≡◌, ℕ, zero, suc, ◌*◌, ◌/◌, ◌%◌, ◌<◌, ◌&&◌, Bool, true, false, eqb, cond, List, [], ◌∷◌, map, fold, bit_xor, ◌++◌, refl, sym, ap, ap₂, subst, ◌∙◌, arith, inl, inr, add-zero, zero-add}
use Rattle.std.specs.List.{flat_map}
use Rattle.std.proofs.lemmas.Bool.{cases_eq, eqb-true}
use Rattle.std.proofs.lemmas.Nat.{xor_block, xor_comm, xor_mod, xor_of_16, xor_shr}
use Rattle.std.proofs.lemmas.List.Concat.{flat_map-append}
use Rattle.std.proofs.lemmas.List.Sums.{fold-append}
use Rattle.std.specs.Int.Bits.{xor_assoc, xor_zero_r}
use Rattle.cct_check.specs.Check.{bits_of, crc_bit, crc, crc_after}

-- a test of every number below n, which computes
abbrev pub all_below : (ℕ → Bool) → ℕ → Bool
all_below test zero = true
all_below test (suc n) = test n && all_below test n

both_true : (a b : Bool) → (a && b) ≡ true → (a ≡ true) × (b ≡ true)
both_true true b e = (refl, e)
both_true false b e = cc

pub below : (test : ℕ → Bool) (n : ℕ) → all_below test n ≡ true → (k : ℕ) → k < n → test k ≡ true
below test zero e k lt = absurd (omega arith)
below test (suc n) e k lt =
    let both = both_true (test n) (all_below test n) e in
    elim (cases_eq k n) [ inl same ↦ rw same both.0 | inr other ↦ below test n both.1 k (omega arith) ]

-- what a bit adds to the shifted register, whose top bit was `top`
abbrev added : ℕ → ℕ → ℕ
added top bit = cond (eqb top bit) 0 4129

added_or_not : (t : Bool) (x : ℕ) → cond t x (bit_xor x 4129) ≡ bit_xor x (cond t 0 4129)
added_or_not true x = sym (xor_zero_r x)
added_or_not false x = refl

crc_bit-added : (register bit : ℕ) → crc_bit register bit ≡ bit_xor (register * 2 % 65536) (added (register / 32768) bit)
crc_bit-added register bit = added_or_not (eqb (register / 32768) bit) (register * 2 % 65536)

added-xor : (s t bit : ℕ) → s < 2 → t < 2 → bit < 2 → added (bit_xor s t) bit ≡ bit_xor (added s bit) (added t 0)
added-xor zero zero zero _ _ _ = refl
added-xor zero zero (suc zero) _ _ _ = refl
added-xor zero (suc zero) zero _ _ _ = refl
added-xor zero (suc zero) (suc zero) _ _ _ = refl
added-xor (suc zero) zero zero _ _ _ = refl
added-xor (suc zero) zero (suc zero) _ _ _ = refl
added-xor (suc zero) (suc zero) zero _ _ _ = refl
added-xor (suc zero) (suc zero) (suc zero) _ _ _ = refl
added-xor (suc (suc s)) t bit small _ _ = absurd (omega arith)
added-xor s (suc (suc t)) bit _ small _ = absurd (omega arith)
added-xor s t (suc (suc bit)) _ _ small = absurd (omega arith)

xor_middle : (a b c d : ℕ) → bit_xor (bit_xor a b) (bit_xor c d) ≡ bit_xor (bit_xor a c) (bit_xor b d)
xor_middle a b c d =
    xor_assoc a b (bit_xor c d)
    ∙ ap (bit_xor a) (sym (xor_assoc b c d) ∙ ap (λ x. bit_xor x d) (xor_comm b c) ∙ xor_assoc c b d)
    ∙ sym (xor_assoc a c (bit_xor b d))

shifted-xor : (a b : ℕ) → bit_xor a b * 2 % 65536 ≡ bit_xor (a * 2 % 65536) (b * 2 % 65536)
shifted-xor a b =
    let doubled : bit_xor a b * 2 ≡ bit_xor (a * 2) (b * 2) = sym (simp add-zero at (xor_block 1 a b 0 0 (omega arith) (omega arith))) in
    ap (λ n. n % 65536) doubled ∙ xor_mod (a * 2) (b * 2) 16

added-fits : (top bit : ℕ) → added top bit < 65536
added-fits top bit = cond_fits (eqb top bit)
  where
    cond_fits : (t : Bool) → cond t 0 4129 < 65536
    cond_fits true = omega arith
    cond_fits false = omega arith

crc_bit-fits : (register bit : ℕ) → crc_bit register bit < 65536
crc_bit-fits register bit =
    let apart : bit_xor (register * 2 % 65536) (added (register / 32768) bit) < 65536 = xor_of_16 _ _ (omega arith) (added-fits (register / 32768) bit) in
    subst (λ r. r < 65536) (sym (crc_bit-added register bit)) apart

-- a bit goes into one part of the register, and 0 into the other
crc_bit-xor : (a b bit : ℕ) → a < 65536 → b < 65536 → bit < 2 → crc_bit (bit_xor a b) bit ≡ bit_xor (crc_bit a bit) (crc_bit b 0)
crc_bit-xor a b bit fits_a fits_b small =
    let tops : added (bit_xor a b / 32768) bit ≡ bit_xor (added (a / 32768) bit) (added (b / 32768) 0) =
    ap (λ top. added top bit) (xor_shr a b 15) ∙ added-xor (a / 32768) (b / 32768) bit (omega arith) (omega arith) small in
    crc_bit-added (bit_xor a b) bit
    ∙ ap₂ bit_xor (shifted-xor a b) tops
    ∙ xor_middle (a * 2 % 65536) (b * 2 % 65536) (added (a / 32768) bit) (added (b / 32768) 0)
    ∙ sym (ap₂ bit_xor (crc_bit-added a bit) (crc_bit-added b 0))

-- and so do bits
abbrev AreBits : List ℕ → Type 0
AreBits [] = Unit {0}
AreBits (bit ∷ bits) = (bit < 2) × AreBits bits

fold-xor : (bits : List ℕ) (a b : ℕ) → AreBits bits → a < 65536 → b < 65536
    → fold crc_bit (bit_xor a b) bits ≡ bit_xor (fold crc_bit a bits) (fold crc_bit b (map (λ _. 0) bits))
fold-xor [] a b small fits_a fits_b = refl
fold-xor (bit ∷ bits) a b small fits_a fits_b =
    ap (λ r. fold crc_bit r bits) (crc_bit-xor a b bit fits_a fits_b small.0)
    ∙ fold-xor bits (crc_bit a bit) (crc_bit b 0) small.1 (crc_bit-fits a bit) (crc_bit-fits b 0)

bits_are : (byte : ℕ) → AreBits (bits_of byte)
bits_are byte =
    let bit : (n : ℕ) → n % 2 < 2 = λ n. omega arith in
    (bit _, (bit _, (bit _, (bit _, (bit _, (bit _, (bit _, (bit _, tt))))))))

-- a byte goes into one part of the register, and 0 into the other
crc_after-xor : (a b byte : ℕ) → a < 65536 → b < 65536 → crc_after (bit_xor a b) byte ≡ bit_xor (crc_after a byte) (crc_after b 0)
unfolding crc_after
crc_after-xor a b byte fits_a fits_b = fold-xor (bits_of byte) a b (bits_are byte) fits_a fits_b

-- eight bits 0 move a low byte up as it is
moved_up : (low : ℕ) → low < 256 → crc_after low 0 ≡ low * 256
unfolding crc_after
moved_up low fits = eqb-true _ _ (below (λ n. eqb (crc_after n 0) (n * 256)) 256 refl low fits)

-- a byte that goes into an empty register does as if it had been its high byte
taken_in : (byte : ℕ) → byte < 256 → crc_after 0 byte ≡ crc_after (byte * 256) 0
unfolding crc_after
taken_in byte fits = eqb-true _ _ (below (λ n. eqb (crc_after 0 n) (crc_after (n * 256) 0)) 256 refl byte fits)

halves : (register : ℕ) → register ≡ bit_xor (register / 256 * 256) (register % 256)
halves register =
    sym (simp (add-zero, zero-add, xor_zero_r) at (xor_block 8 (register / 256) 0 0 (register % 256) (omega arith) (omega arith))
    ∙ omega arith)

highs-xor : (a b : ℕ) → bit_xor (a * 256) (b * 256) ≡ bit_xor a b * 256
highs-xor a b = simp add-zero at (xor_block 8 a b 0 0 (omega arith) (omega arith))

-- one byte more: the high byte with that byte is a place, and what eight bits 0 make of it goes to the low byte moved up
pub after_by_place : (register byte : ℕ) → register < 65536 → byte < 256
    → crc_after register byte ≡ bit_xor (crc_after (bit_xor (register / 256) byte * 256) 0) (register * 256 % 65536)
after_by_place register byte fits byte_fits =
    let high : ℕ = register / 256 in
    let low : ℕ = register % 256 in
    let up : low * 256 ≡ register * 256 % 65536 = omega arith in
    ap (λ r. crc_after r byte) (halves register)
    ∙ crc_after-xor (high * 256) low byte (omega arith) (omega arith)
    ∙ ap₂ bit_xor
    (crc_after-xor 0 (high * 256) byte (omega arith) (omega arith)
    ∙ ap (λ r. bit_xor r (crc_after (high * 256) 0)) (taken_in byte byte_fits)
    ∙ sym (crc_after-xor (byte * 256) (high * 256) 0 (omega arith) (omega arith))
    ∙ ap (λ r. crc_after r 0) (highs-xor byte high ∙ ap (λ n. n * 256) (xor_comm byte high)))
    (moved_up low (omega arith) ∙ up)

-- the CRC of a list and one byte more
pub crc_push : (bytes : List ℕ) (byte : ℕ) → crc (bytes ++ byte ∷ []) ≡ crc_after (crc bytes) byte
unfolding crc crc_after
crc_push bytes byte =
    ap (fold crc_bit 0) (flat_map-append bits_of bytes (byte ∷ []))
    ∙ fold-append crc_bit 0 (flat_map bits_of bytes) (bits_of byte)
