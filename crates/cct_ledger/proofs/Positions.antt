-- The first element of a list that passes a test.
use Rattle.std.proofs.Common.{◌≡◌, ℕ, zero, suc, ◌<◌, nat_lt, Bool, true, false, cond, ◌||◌, List, [], ◌∷◌, length, get_or, refl, ap, ◌∙◌, Some, None, arith}
use Rattle.std.specs.Prelude.{slice_get}
use Rattle.std.specs.List.{list_any, position, position_or_len}
use Rattle.std.proofs.lemmas.Bool.Decides.{nat_tests}
use Rattle.std.proofs.lemmas.List.Quantifiers.{position-Some}
use Rattle.std.proofs.lemmas.List.Sums.{fails_before_first}
use Rattle.std.proofs.lemmas.Option.{slice_get-get_or}

-- an element of a list at an index, which passes a test
pub record IsAt {X : Type 0} (p : X → Bool) (xs : List X) (i : ℕ) : Type 0 where
  pub item : X
  pub there : slice_get xs i ≡ Some item
  pub passes : p item ≡ true

-- what is at the position of a test
pub at_position : {X : Type 0} (p : X → Bool) (xs : List X) (i : ℕ) → position p xs ≡ Some i → IsAt p xs i
at_position p [] i is = absurd cc
at_position p (x ∷ xs) i is =
    let known = position-Some p (x ∷ xs) i x is in
    record {
      item = get_or (x ∷ xs) i x;
      there = slice_get-get_or (x ∷ xs) i x known.0;
      passes = known.1;
    }

-- an element that passes is one of those that pass
pub any_at : {X : Type 0} (p : X → Bool) (xs : List X) (i : ℕ) (x : X) → slice_get xs i ≡ Some x → p x ≡ true →
    list_any p xs ≡ true
any_at p [] i x is passes = absurd cc
any_at p (y ∷ ys) zero x is passes =
    let same : y ≡ x = cc in
    ap (λ b. b || list_any p ys) (ap p same ∙ passes)
any_at p (y ∷ ys) (suc i) x is passes = by_here (p y) (any_at p ys i x is passes)
  where
    by_here : (here : Bool) → list_any p ys ≡ true → (here || list_any p ys) ≡ true
    by_here true rest = refl
    by_here false rest = rest

-- none passes where the test has no position
none_before : {X : Type 0} (p : X → Bool) (xs : List X) →
    ((k : ℕ) (x : X) → k < length xs → p (get_or xs k x) ≡ false) → list_any p xs ≡ false
none_before p [] fails = refl
none_before p (x ∷ xs) fails =
    ap (λ b. b || list_any p xs) (fails 0 x (omega arith))
    ∙ none_before p xs (λ k y below. fails (suc k) y (omega arith))

past_all : (below : Bool) (i : ℕ) → cond below (Some i) None ≡ None → below ≡ false
past_all true i none = absurd cc
past_all false i none = refl

pub none_passes : {X : Type 0} (p : X → Bool) (xs : List X) → position p xs ≡ None → list_any p xs ≡ false
none_passes p xs none =
    let test : nat_lt (position_or_len p xs) (length xs) ≡ false = past_all _ _ none in
    none_before p xs (λ k x below. fails_before_first p xs k x (grind (arith, nat_tests)))
