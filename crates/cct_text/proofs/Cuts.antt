-- Texts without a byte, joined by that byte, are cut into those texts again.
use Rattle.std.proofs.Common.{◌≡◌, ℕ, zero, suc, ◌+◌, ◌/◌, ◌%◌, ◌<◌, ◌≤◌, ◌^◌, ◌==◌, ◌&&◌, nat_lt, Bool, true, false, List, [], ◌∷◌, ◌++◌, length, slice_index, refl, ap, ◌∙◌, arith, lit<}
use Rattle.std.specs.List.{All, join_with_byte}
use Rattle.std.proofs.lemmas.Bool.{and_parts, eq-eqb}
use Rattle.std.proofs.lemmas.Bool.Decides.{nat_tests}
use Rattle.std.proofs.lemmas.List.Elements.{All-nil, All-cons}
use Rattle.std.proofs.lemmas.List.Splits.{slice_split_at, slice_split_none}
use Rattle.hex.specs.Hex.{IsBytes, encode_lower, encode_with, lower_digits}
use Rattle.cct_model_lines.specs.Text.{number_text, piece_field, mask_field}
use Rattle.cct_text.specs.Reading.{parts_at}
use Rattle.cct_text.proofs.Numbers.{number_by_steps}

-- whether every byte of a text is above a number
abbrev pub all_above : ℕ → List ℕ → Bool
all_above low [] = true
all_above low (byte ∷ bytes) = nat_lt low byte && all_above low bytes

-- every byte of each text is above a number
abbrev pub EachAbove : ℕ → List (List ℕ) → Type 0
EachAbove low [] = Unit {0}
EachAbove low (text ∷ texts) = (all_above low text ≡ true) × EachAbove low texts

pub both : (a b : Bool) → a ≡ true → b ≡ true → (a && b) ≡ true
both a b is_a is_b = ap (λ x. x && b) is_a ∙ is_b

pub above_append : (low : ℕ) (xs ys : List ℕ) → all_above low xs ≡ true → all_above low ys ≡ true → all_above low (xs ++ ys) ≡ true
above_append low [] ys front back = back
above_append low (x ∷ xs) ys front back =
    let parts = and_parts (nat_lt low x) (all_above low xs) front in
    both (nat_lt low x) (all_above low (xs ++ ys)) parts.0 (above_append low xs ys parts.1 back)

above_lower : (low high x : ℕ) → low ≤ high → nat_lt high x ≡ true → nat_lt low x ≡ true
above_lower low high x below test = grind (arith, nat_tests)

pub above_weaker : (low high : ℕ) → low ≤ high → (xs : List ℕ) → all_above high xs ≡ true → all_above low xs ≡ true
above_weaker low high below [] h = refl
above_weaker low high below (x ∷ xs) h =
    let parts = and_parts (nat_lt high x) (all_above high xs) h in
    both (nat_lt low x) (all_above low xs) (above_lower low high x below parts.0) (above_weaker low high below xs parts.1)

above_differs : (low x : ℕ) → nat_lt low x ≡ true → (x == low) ≡ false
above_differs low x test = grind (arith, nat_tests)

-- a text above a byte doesn't have it
pub has_none : (byte : ℕ) (xs : List ℕ) → all_above byte xs ≡ true → All (λ x. (x == byte) ≡ false) xs
has_none byte [] h = All-nil (λ x. (x == byte) ≡ false)
has_none byte (x ∷ xs) h =
    let parts = and_parts (nat_lt byte x) (all_above byte xs) h in
    All-cons (λ x. (x == byte) ≡ false) x xs (above_differs byte x parts.0) (has_none byte xs parts.1)

pub above_at : (low : ℕ) (xs : List ℕ) (i : ℕ) → all_above low xs ≡ true → i < length xs → nat_lt low (slice_index xs i) ≡ true
above_at low [] i h inside = absurd (omega arith)
above_at low (x ∷ xs) zero h inside = (and_parts (nat_lt low x) (all_above low xs) h).0
above_at low (x ∷ xs) (suc i) h inside =
    above_at low xs i (and_parts (nat_lt low x) (all_above low xs) h).1 (omega arith)

-- the digits of numbers

digit_above : (n : ℕ) → nat_lt 47 (48 + n) ≡ true
digit_above n = grind (arith, nat_tests)

pub number_above : (n : ℕ) → all_above 47 (number_text n) ≡ true
number_above n =
    number_by_steps (λ n digits. all_above 47 digits ≡ true)
    (λ n small. both (nat_lt 47 (48 + n)) true (digit_above n) refl)
    (λ n digits large h. above_append 47 digits ((48 + n % 10) ∷ []) h (both (nat_lt 47 (48 + n % 10)) true (digit_above (n % 10)) refl))
    n

pub number_field : (n : ℕ) → all_above 32 (number_text n) ≡ true
number_field n = above_weaker 32 47 (omega arith) (number_text n) (number_above n)

pub hex_above : (bytes : List ℕ) → IsBytes bytes → all_above 47 (encode_lower bytes) ≡ true
unfolding encode_with
hex_above [] h = refl
hex_above (byte ∷ bytes) h =
    let fits : byte < 256 = h 0 in
    let high : nat_lt 47 (slice_index lower_digits (byte / 16)) ≡ true = above_at 47 lower_digits (byte / 16) refl (omega arith) in
    let low : nat_lt 47 (slice_index lower_digits (byte % 16)) ≡ true = above_at 47 lower_digits (byte % 16) refl (omega arith) in
    let rest = hex_above bytes (λ i. h (suc i)) in
    both (nat_lt 47 (slice_index lower_digits (byte / 16))) (nat_lt 47 (slice_index lower_digits (byte % 16)) && all_above 47 (encode_lower bytes)) high
    (both (nat_lt 47 (slice_index lower_digits (byte % 16))) (all_above 47 (encode_lower bytes)) low rest)

pub piece_above : (piece : List ℕ) → IsBytes piece → all_above 32 (piece_field piece) ≡ true
piece_above [] h = refl
piece_above (byte ∷ bytes) h = above_weaker 32 47 (omega arith) (encode_lower (byte ∷ bytes)) (hex_above (byte ∷ bytes) h)

-- two bytes
pub two_bytes : (a b : ℕ) → a < 256 → b < 256 → IsBytes (a ∷ b ∷ [])
two_bytes a b fits_a fits_b zero = fits_a
two_bytes a b fits_a fits_b (suc zero) = fits_b
two_bytes a b fits_a fits_b (suc (suc i)) = lit< tt

pub mask_bytes : (mask : ℕ) → mask < 2 ^ 16 → IsBytes (mask / 256 ∷ mask % 256 ∷ [])
mask_bytes mask fits = two_bytes (mask / 256) (mask % 256) (omega arith) (omega arith)

pub mask_above : (mask : ℕ) → mask < 2 ^ 16 → all_above 32 (mask_field mask) ≡ true
mask_above mask fits =
    above_weaker 32 47 (omega arith) (mask_field mask) (hex_above (mask / 256 ∷ mask % 256 ∷ []) (mask_bytes mask fits))

-- joined texts

pub each_append : (low : ℕ) (xs ys : List (List ℕ)) → EachAbove low xs → EachAbove low ys → EachAbove low (xs ++ ys)
each_append low [] ys front back = back
each_append low (x ∷ xs) ys front back = (front.0, each_append low xs ys front.1 back)

pub joined_above : (low byte : ℕ) → nat_lt low byte ≡ true → (texts : List (List ℕ)) → EachAbove low texts → all_above low (join_with_byte byte texts) ≡ true
joined_above low byte test [] h = refl
joined_above low byte test (x ∷ []) h = h.0
joined_above low byte test (x ∷ y ∷ xs) h =
    above_append low x (byte ∷ join_with_byte byte (y ∷ xs)) h.0
    (both (nat_lt low byte) (all_above low (join_with_byte byte (y ∷ xs))) test (joined_above low byte test (y ∷ xs) h.1))

pub cut_joined : (byte : ℕ) (text : List ℕ) (texts : List (List ℕ)) → EachAbove byte (text ∷ texts)
    → parts_at byte (join_with_byte byte (text ∷ texts)) ≡ text ∷ texts
cut_joined byte text [] h = slice_split_none (λ b. b == byte) text (has_none byte text h.0)
cut_joined byte text (next ∷ texts) h =
    slice_split_at (λ b. b == byte) text byte (join_with_byte byte (next ∷ texts)) (has_none byte text h.0) (eq-eqb byte byte refl)
    ∙ ap (λ parts. text ∷ parts) (cut_joined byte next texts h.1)
