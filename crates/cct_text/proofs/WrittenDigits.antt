-- Digits of numbers and of bytes.
use Rattle.std.proofs.Common.{◌≡◌, ℕ, zero, suc, ◌+◌, ◌-◌, ◌*◌, ◌/◌, ◌%◌, ◌^◌, ◌<◌, ◌≤◌, Bool, true, ◌&&◌, T, eqb, eqb→eq, List, [], ◌∷◌, ◌++◌, length, take, drop, get_or, subst, ap, sym, ◌∙◌, arith, eq-zero-or-pos, inl, inr, append_assoc, length-append}
use Rattle.std.specs.Fmt.{decimal}
use Rattle.std.proofs.lemmas.Fmt.{decimal_digit, decimal_step, length-decimal-le}
use Rattle.std.proofs.lemmas.List.{take-append-drop, take_at, length-take-le}
use Rattle.hex.specs.Hex.{lower_digits}
use Rattle.cct_model_lines.specs.Text.{number_text}
use Rattle.cct_text.specs.Adding.{Adds}
use Rattle.cct_text.proofs.Numbers.{decimal_is}
use Rattle.cct_text.specs.declared.digits.TheConstants.{HEX_PAIRS}
use lib.Ieee.Fits.{and_l, and_r}

-- how many digits a number below ten has, and any other
pub one_digit_length : (n : ℕ) → n < 10 → length (decimal n) ≡ 1
one_digit_length n small = ap length (decimal_digit n small)

pub more_digits_length : (n : ℕ) → 10 ≤ n → n < 2 ^ 64 → length (decimal n) ≡ length (decimal (n / 10)) + 1
more_digits_length n large fits =
    ap length (decimal_step n large fits) ∙ length-append (decimal (n / 10)) ((48 + n % 10) ∷ [])

pub two_digits_length : (n : ℕ) → 10 ≤ n → n < 100 → length (decimal n) ≡ 2
two_digits_length n large small =
    omega (arith, more_digits_length n large (omega arith), one_digit_length (n / 10) (omega arith))

pub three_digits_length : (n : ℕ) → 100 ≤ n → n < 1000 → length (decimal n) ≡ 3
three_digits_length n large small =
    omega (arith, more_digits_length n (omega arith) (omega arith), two_digits_length (n / 10) (omega arith) (omega arith))

pub four_digits_length : (n : ℕ) → 1000 ≤ n → n < 10000 → length (decimal n) ≡ 4
four_digits_length n large small =
    omega (arith, more_digits_length n (omega arith) (omega arith), three_digits_length (n / 10) (omega arith) (omega arith))

two_more_digits : (n : ℕ) → 100 ≤ n → n < 2 ^ 64 → length (decimal n) ≡ length (decimal (n / 100)) + 2
two_more_digits n large fits =
    let whole : (n / 10) / 10 ≡ n / 100 = omega arith in
    omega (
      arith,
      more_digits_length n (omega arith) fits,
      more_digits_length (n / 10) (omega arith) (omega arith),
      ap (λ m. length (decimal m)) whole,
    )

-- and one with four more
pub four_more_digits : (n : ℕ) → 10000 ≤ n → n < 2 ^ 64 → length (decimal n) ≡ length (decimal (n / 10000)) + 4
four_more_digits n large fits =
    let whole : (n / 100) / 100 ≡ n / 10000 = omega arith in
    omega (
      arith,
      two_more_digits n (omega arith) fits,
      two_more_digits (n / 100) (omega arith) (omega arith),
      ap (λ m. length (decimal m)) whole,
    )

-- how many digits a number of 64 bits has at most, and a byte
pub decimal_length : (n : ℕ) → n < 2 ^ 64 → length (decimal n) ≤ 20
decimal_length n fits = length-decimal-le 20 n (omega arith) (omega arith) fits

pub byte_decimal_length : (n : ℕ) → n < 256 → length (decimal n) ≤ 3
byte_decimal_length n fits = length-decimal-le 3 n (omega arith) (omega arith) (omega arith)

-- and its text
pub number_length : (n : ℕ) → n < 2 ^ 64 → length (number_text n) ≤ 20
number_length n fits = subst (λ text. length text ≤ 20) (decimal_is n fits) (decimal_length n fits)

pub byte_length : (n : ℕ) → n < 256 → length (number_text n) ≤ 3
byte_length n fits = subst (λ text. length text ≤ 3) (decimal_is n (omega arith)) (byte_decimal_length n fits)

-- a text of so many bytes at most was added
pub adds_text : (old new added : List ℕ) (most : ℕ) → new ≡ old ++ added → length added ≤ most → Adds old new added most
adds_text old new added most is few = record {
  text = is;
  len = omega (arith, ap length is, length-append old added, few);
}

-- a text written from a place on, seen up to its end
pub written_at : (old new text : List ℕ) (start end : ℕ) → start ≤ length old → start + length text ≡ end →
    take start new ≡ take start old → drop start new ≡ text ++ drop end old → take end new ≡ take start old ++ text
written_at old new text start end inside is before written =
    let front : List ℕ = take start old in
    let whole : new ≡ (front ++ text) ++ drop end old =
    sym (take-append-drop start new) ∙ ap (λ xs. xs ++ drop start new) before ∙ ap (λ xs. front ++ xs) written
    ∙ sym (append_assoc front text (drop end old)) in
    let size : length (front ++ text) ≡ end =
    omega (arith, length-append front text, length-take-le start old inside, is) in
    ap (take end) whole ∙ take_at (front ++ text) (drop end old) end size

-- the pairs of the table are the digits of the bytes
abbrev are_pairs : ℕ → Bool
are_pairs zero = true
are_pairs (suc byte) =
    (eqb (get_or HEX_PAIRS (2 * byte) 0) (get_or lower_digits (byte / 16) 0)
    && eqb (get_or HEX_PAIRS (2 * byte + 1) 0) (get_or lower_digits (byte % 16) 0)) && are_pairs byte

pair_below : (n byte : ℕ) → T (are_pairs n) → byte < n →
    (get_or HEX_PAIRS (2 * byte) 0 ≡ get_or lower_digits (byte / 16) 0)
    × (get_or HEX_PAIRS (2 * byte + 1) 0 ≡ get_or lower_digits (byte % 16) 0)
pair_below zero byte are below = absurd (omega arith)
pair_below (suc n) byte are below =
    elim (eq-zero-or-pos (n - byte)) [
      | inl none ↦
          let same : byte ≡ n = omega arith in
          let both = and_l _ (are_pairs n) are in
          rw same (eqb→eq _ _ (and_l _ _ both), eqb→eq _ _ (and_r _ _ both))
      | inr some ↦ pair_below n byte (and_r _ (are_pairs n) are) (omega arith)
    ]

pub pair_at : (byte : ℕ) → byte < 256 →
    (get_or HEX_PAIRS (2 * byte) 0 ≡ get_or lower_digits (byte / 16) 0)
    × (get_or HEX_PAIRS (2 * byte + 1) 0 ≡ get_or lower_digits (byte % 16) 0)
pair_at byte below = pair_below 256 byte tt below

-- the text of a number below ten
pub one_digit_text : (n : ℕ) → n < 10 → number_text n ≡ (48 + n) ∷ []
one_digit_text n small = sym (decimal_is n (omega (arith, small))) ∙ decimal_digit n small
