-- The least address that passes a test.
use Rattle.std.proofs.Common.{◌≡◌, ℕ, suc, zero, ◌<◌, ◌≤◌, inl, inr, Bool, true, false, [], ◌∷◌, Some, None, refl, sym, subst, arith}
use Rattle.std.proofs.lemmas.Bool.{cases_eq}
use Rattle.std.proofs.lemmas.List.Folds.{find-append}
use Rattle.std.specs.Prelude.{find}
use Rattle.cct_model_lines.specs.DeviceSet.{addresses_below}

-- one address more isn't found either
one_more : (p : ℕ → Bool) (n : ℕ) → find p (addresses_below n) ≡ None → p n ≡ false → find p (addresses_below (suc n)) ≡ None
one_more p n before not_here = rw (find-append p (addresses_below n) (n ∷ []), before, not_here) refl

-- nor are more of them
pub none_more : (p : ℕ → Bool) (n k : ℕ) → find p (addresses_below n) ≡ None → ((a : ℕ) → n ≤ a → a < k → p a ≡ false) → n ≤ k → find p (addresses_below k) ≡ None
none_more p n zero before not_there up_to = let none : n ≡ 0 = omega arith in subst (λ m. find p (addresses_below m) ≡ None) none before
none_more p n (suc k) before not_there up_to =
    elim (cases_eq n (suc k)) [
      | inl same ↦ subst (λ m. find p (addresses_below m) ≡ None) same before
      | inr other ↦ one_more p k (none_more p n k before (λ a from below. not_there a from (omega arith)) (omega arith)) (not_there k (omega arith) (omega arith))
    ]

chosen_by : (p : ℕ → Bool) (n m : ℕ) → n < suc m → (n < m → find p (addresses_below m) ≡ Some n) → (n ≡ m → find p (addresses_below m) ≡ None) → p n ≡ true →
    find p (addresses_below (suc m)) ≡ Some n
chosen_by p n m below earlier here yes_here =
    elim (cases_eq n m) [
      | inl same ↦ rw (find-append p (addresses_below m) (m ∷ []), here same, sym same, yes_here) refl
      | inr other ↦ rw (find-append p (addresses_below m) (m ∷ []), earlier (omega (arith, below, other))) refl
    ]

-- the first address that passes is found among more addresses
pub first_found : (p : ℕ → Bool) (n m : ℕ) → find p (addresses_below n) ≡ None → p n ≡ true → n < m → find p (addresses_below m) ≡ Some n
first_found p n zero none_before passes below = absurd (omega arith)
first_found p n (suc m) none_before passes below =
    chosen_by p n m below (λ less. first_found p n m none_before passes less) (λ same. subst (λ k. find p (addresses_below k) ≡ None) same none_before) passes
