-- A list in which one element was put in the place of another.
use Rattle.std.proofs.Common.{◌≡◌, ◌≢◌, ℕ, zero, suc, Bool, true, false, ◌||◌, List, [], ◌∷◌, set, refl, ap, ◌∙◌, Some, ◌⊎◌, inl, inr}
use Rattle.std.specs.Prelude.{slice_get}
use Rattle.std.specs.List.{list_any}

-- where the old element doesn't pass a test, the new one or another does
pub any_set : {X : Type 0} (p : X → Bool) (xs : List X) (i : ℕ) (x v : X) → slice_get xs i ≡ Some x → p x ≡ false →
    list_any p (set xs i v) ≡ (p v || list_any p xs)
any_set p [] i x v is fails = absurd cc
any_set p (y ∷ ys) zero x v is fails =
    let same : y ≡ x = cc in
    by_here (p y) (ap p same ∙ fails)
  where
    by_here : (here : Bool) → here ≡ false → (p v || list_any p ys) ≡ (p v || (here || list_any p ys))
    by_here true test = absurd cc
    by_here false test = refl
any_set p (y ∷ ys) (suc i) x v is fails =
    ap (λ b. p y || b) (any_set p ys i x v is fails) ∙ turned (p y) (p v)
  where
    turned : (first second : Bool) →
        (first || (second || list_any p ys)) ≡ (second || (first || list_any p ys))
    turned true true = refl
    turned true false = refl
    turned false true = refl
    turned false false = refl

-- each element is the new one, or is where it stood
pub set_cases : {X : Type 0} (xs : List X) (i j : ℕ) (v w : X) → slice_get (set xs i v) j ≡ Some w →
    (w ≡ v) ⊎ ((j ≢ i) × (slice_get xs j ≡ Some w))
set_cases [] i j v w is = absurd cc
set_cases (x ∷ xs) zero zero v w is = inl cc
set_cases (x ∷ xs) zero (suc j) v w is = inr ((λ same. cc), is)
set_cases (x ∷ xs) (suc i) zero v w is = inr ((λ same. cc), is)
set_cases (x ∷ xs) (suc i) (suc j) v w is =
    elim (set_cases xs i j v w is) [
      | inl same ↦ inl same
      | inr rest ↦ inr ((λ same. rest.0 cc), rest.1)
    ]

-- a test that each element fails
pub none_get : {X : Type 0} (p : X → Bool) (xs : List X) →
    ((j : ℕ) (x : X) → slice_get xs j ≡ Some x → p x ≡ false) → list_any p xs ≡ false
none_get p [] fails = refl
none_get p (x ∷ xs) fails =
    ap (λ b. b || list_any p xs) (fails 0 x refl) ∙ none_get p xs (λ j y is. fails (suc j) y is)
