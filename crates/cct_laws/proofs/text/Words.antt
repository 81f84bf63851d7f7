-- The first field of a line.
use Rattle.std.proofs.Common.{◌≡◌, ℕ, suc, ◌+◌, not, Bool, true, false, cond, List, [], ◌∷◌, take, refl, ap, sym, ◌∙◌, arith}
use Rattle.std.specs.List.{slice_split, before_first, onto_first, position_or_len}

-- the first part of a list that is cut is what is before the first element that passes
abbrev FirstPart : (List ℕ) → List (List ℕ) → Type 0
FirstPart part parts = (rest : List (List ℕ)) × (parts ≡ part ∷ rest)

first_by : (p : ℕ → Bool) (here : Bool) (x : ℕ) (xs : List ℕ) (n : ℕ) (parts : List (List ℕ)) → FirstPart (take n xs) parts →
    FirstPart (take (cond (not here) (1 + n) 0) (x ∷ xs)) (cond here ([] ∷ parts) (onto_first x parts))
first_by p true x xs n parts first = (parts, refl)
first_by p false x xs n parts first =
    let more : 1 + n ≡ suc n = omega arith in
    (first.0, ap (onto_first x) first.1 ∙ ap (λ k. take k (x ∷ xs) ∷ first.0) (sym more))

pub first_part : (p : ℕ → Bool) (xs : List ℕ) → FirstPart (before_first p xs) (slice_split p xs)
first_part p [] = ([], refl)
first_part p (x ∷ xs) = first_by p (p x) x xs (position_or_len p xs) (slice_split p xs) (first_part p xs)
