-- Numbers in decimal.
use Rattle.std.proofs.Common.{◌≡◌, ℕ, ◌+◌, ◌-◌, ◌*◌, ◌<◌, Bool, true, false, cond, leb, ◌&&◌, List, [], ◌∷◌, Option}
use Rattle.std.proofs.Common.{None, refl, arith}
use Rattle.std.specs.Prelude.{option_and_then}
use Rattle.std.proofs.lemmas.Bool.Decides.{nat_tests}
use Rattle.cct_model_lines.specs.Grammar.{digits_from, within, is_digit}

not_both : (b : Bool) (x : Option ℕ) → cond (b && false) x None ≡ None
not_both true x = refl
not_both false x = refl

above : (most n : ℕ) → most < n → within 0 most n ≡ None
above most n more = let e : leb n most ≡ false = grind (arith, nat_tests) in rw e (not_both (leb 0 n) _)

chosen : (b : Bool) (x : Option ℕ) → x ≡ None → cond b x None ≡ None
chosen true x e = e
chosen false x e = refl

pub and_then_chosen : (b : Bool) (f : ℕ → Option ℕ) (x : Option ℕ) → option_and_then f x ≡ None
    → option_and_then f (cond b x None) ≡ None
and_then_chosen true f x e = e
and_then_chosen false f x e = refl

-- digits only make a number greater: one that has passed the most stays above it
pub digits_above : (most n : ℕ) (bytes : List ℕ) → most < n
    → option_and_then (within 0 most) (digits_from n bytes) ≡ None
digits_above most n [] more = above most n more
digits_above most n (byte ∷ bytes) more =
    and_then_chosen (is_digit byte) (within 0 most) _ (digits_above most (10 * n + (byte - 48)) bytes (omega arith))
