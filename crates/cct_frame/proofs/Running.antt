-- What a check makes of bytes that come one by one.
use Rattle.std.proofs.Common.{◌≡◌, ◌≢◌, ℕ, suc, ◌+◌, ◌-◌, ◌%◌, ◌≤◌, List, [], ◌∷◌, ◌++◌, length, take, drop, sum, refl, sym, ap, ◌∙◌, arith}
use Rattle.std.proofs.lemmas.List.Sums.{sum_by_push}
use Rattle.cct_model_wire.specs.declared.wire.CheckKind.{CheckKind}
use Rattle.cct_model_wire.specs.declared.wire.CheckKind.TheVariants.{Simple, Crc}
use Rattle.cct_model_wire.specs.Message.{closing_byte, crc}
use Rattle.cct_check.specs.Check.{crc as crc_computed}
use Rattle.cct_frame.specs.Frame.{before_last, run_over, under_crc}
use Rattle.cct_frame.proofs.Words.{same_crc}

-- one byte more goes into the sum
pub sum_more : (check byte : ℕ) (bytes : List ℕ) → check ≡ sum bytes % 256 → (check + byte) % 65536 % 256 ≡ sum (bytes ++ byte ∷ []) % 256
sum_more check byte bytes e =
    let whole : sum (bytes ++ byte ∷ []) ≡ sum bytes + byte = sum_by_push (λ x. x) bytes byte in
    omega arith

under_more : (bytes : List ℕ) (byte : ℕ) → length bytes ≢ 2 → take 2 (bytes ++ byte ∷ []) ++ drop 3 (bytes ++ byte ∷ []) ≡ (take 2 bytes ++ drop 3 bytes) ++ byte ∷ []
under_more [] byte other = refl
under_more (a ∷ []) byte other = refl
under_more (a ∷ b ∷ []) byte other = absurd (other refl)
under_more (a ∷ b ∷ c ∷ rest) byte other = refl

under_passes : (bytes : List ℕ) (byte : ℕ) → length bytes ≡ 2 → take 2 (bytes ++ byte ∷ []) ++ drop 3 (bytes ++ byte ∷ []) ≡ take 2 bytes ++ drop 3 bytes
under_passes [] byte two = absurd (omega arith)
under_passes (a ∷ []) byte two = absurd (omega arith)
under_passes (a ∷ b ∷ []) byte two = refl
under_passes (a ∷ b ∷ c ∷ rest) byte two = absurd (omega arith)

-- one byte more goes into the CRC, where it isn't the third
pub crc_more : (kind : CheckKind) (check result byte : ℕ) (bytes : List ℕ) → kind ≡ Crc → length bytes ≢ 2 → check ≡ run_over kind bytes
    → ((ys : List ℕ) → check ≡ crc_computed ys → result ≡ crc_computed (ys ++ byte ∷ []))
    → result ≡ run_over kind (bytes ++ byte ∷ [])
unfolding run_over
crc_more Simple check result byte bytes is other e step = absurd cc
crc_more Crc check result byte bytes is other e step =
    let front = take 2 bytes ++ drop 3 bytes in
    step front (e ∙ same_crc front) ∙ sym (same_crc (front ++ byte ∷ [])) ∙ ap crc (sym (under_more bytes byte other))

-- the third is passed over
pub crc_passes : (check byte : ℕ) (bytes : List ℕ) → length bytes ≡ 2 → check ≡ crc (take 2 bytes ++ drop 3 bytes)
    → check ≡ crc (take 2 (bytes ++ byte ∷ []) ++ drop 3 (bytes ++ byte ∷ []))
crc_passes check byte bytes two e = e ∙ ap crc (sym (under_passes bytes byte two))

-- the check of all bytes but the last of a piece is the one that the last byte is compared with
pub sum_closed : (check : ℕ) (piece : List ℕ) → check ≡ run_over Simple (before_last piece) → (256 - check % 256) % 256 ≡ closing_byte (before_last piece)
unfolding run_over
sum_closed check piece e = omega arith

under_is : (piece : List ℕ) → 5 ≤ length piece → take 2 (before_last piece) ++ drop 3 (before_last piece) ≡ under_crc piece
under_is [] long = absurd (omega arith)
under_is (a ∷ []) long = absurd (omega arith)
under_is (a ∷ b ∷ []) long = absurd (omega arith)
under_is (a ∷ b ∷ c ∷ rest) long =
    let piece = a ∷ b ∷ c ∷ rest in
    let front : length piece - 1 ≡ suc (suc (suc (length rest - 1))) = omega arith in
    let body : length piece - 1 - 3 ≡ length rest - 1 = omega arith in
    ap (λ n. take 2 (take n piece) ++ drop 3 (take n piece)) front ∙ sym (ap (λ n. a ∷ b ∷ take n rest) body)

pub crc_closed : (check : ℕ) (piece : List ℕ) → 5 ≤ length piece → check ≡ run_over Crc (before_last piece) → check ≡ crc (under_crc piece)
unfolding run_over
crc_closed check piece long e = e ∙ ap crc (under_is piece long)
