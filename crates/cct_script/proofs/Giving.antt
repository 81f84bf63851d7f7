-- A line at the front of the bytes held.
use Rattle.std.proofs.Common.{◌≡◌, ℕ, ◌+◌, ◌<◌, ◌≤◌, ◌==◌, Bool, true, false, List, [], ◌∷◌, ◌++◌, length, get_or}
use Rattle.std.proofs.Common.{take, drop, Option, Some, None, refl, ap, sym, ◌∙◌, arith, eqb-true}
use Rattle.std.specs.List.{position, All}
use Rattle.std.proofs.lemmas.Bool.{false≢true}
use Rattle.std.proofs.lemmas.Bool.Decides.{nat_tests}
use Rattle.std.proofs.lemmas.List.{nil_from_length}
use Rattle.std.proofs.lemmas.List.Quantifiers.{position-Some}
use Rattle.cct_model_lines.specs.Script.{is_line_feed}
use Rattle.cct_script.proofs.Splits.{split_place, fails_in_front}

-- a search finds nothing where no byte passes
nowhere : (p : ℕ → Bool) (xs : List ℕ) → All (λ x. p x ≡ false) xs → (o : Option ℕ) → position p xs ≡ o → o ≡ None
nowhere p xs fails None e = refl
nowhere p xs fails (Some i) e =
    let h = position-Some p xs i 0 e in
    absurd (false≢true (sym (fails i 0 h.0) ∙ h.1))

-- where the first line feed stands is within the bytes
pub line_within : (held : List ℕ) (len : ℕ) → position is_line_feed held ≡ Some len → len < length held
line_within held len e = (position-Some is_line_feed held len 0 e).0

-- no line feed is before the first one
pub line_alone : (held : List ℕ) (len : ℕ) → position is_line_feed held ≡ Some len →
    position is_line_feed (take len held) ≡ None
line_alone held len e =
    let h = position-Some is_line_feed held len 0 e in
    nowhere is_line_feed (take len held) (fails_in_front is_line_feed held len 0 h.0 h.2) _ refl

-- the bytes held are the line, its line feed, and what is held after it
pub line_parts : (held : List ℕ) (len : ℕ) → position is_line_feed held ≡ Some len →
    held ≡ take len held ++ 10 ∷ drop (len + 1) held
line_parts held len e =
    let h = position-Some is_line_feed held len 0 e in
    split_place held len 0 h.0
    ∙ ap (λ byte. take len held ++ byte ∷ drop (len + 1) held) (eqb-true (get_or held len 0) 10 h.1)

-- what isn't empty has a byte
pub not_empty : (xs ys : List ℕ) (test : Bool) → test ≡ false → test ≡ (length xs == 0) → xs ≡ ys → 1 ≤ length ys
not_empty xs ys test not is same = let e : length xs ≡ length ys = ap length same in grind (arith, nat_tests)

-- what is empty has none
pub is_nothing : (xs ys : List ℕ) (test : Bool) → test ≡ true → test ≡ (length xs == 0) → xs ≡ ys → ys ≡ []
is_nothing xs ys test holds is same =
    let e : length xs ≡ length ys = ap length same in
    nil_from_length ys (grind (arith, nat_tests))
