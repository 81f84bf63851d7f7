-- At most one plan is chosen.
use Rattle.std.proofs.Common.{◌≡◌, ℕ, inl, inr, sym, ap, ◌∙◌, arith, List, [], ◌∷◌, refl, Option, None, Some}
use Rattle.cct_model.specs.declared.change.Tray.{Tray}
use Rattle.cct_model.specs.Plan.{ComesFirst, IsChosen}

-- of two lists each comes first only where they are the same
both_first : (cs os : List ℕ) → ComesFirst cs os → ComesFirst os cs → cs ≡ os
both_first [] [] first back = refl
both_first [] (o ∷ os) first back = absurd first
both_first (c ∷ cs) [] first back = absurd first
both_first (c ∷ cs) (o ∷ os) (inl less) (inl more) = absurd (omega arith)
both_first (c ∷ cs) (o ∷ os) (inl less) (inr same) = absurd (omega (arith, same.0))
both_first (c ∷ cs) (o ∷ os) (inr same) (inl less) = absurd (omega (arith, same.0))
both_first (c ∷ cs) (o ∷ os) (inr same) (inr back) =
    ap (λ n. n ∷ cs) (sym same.0) ∙ ap (λ ns. o ∷ ns) (both_first cs os same.1 back.1)

-- the address and the count of what a plan pays first
abbrev pub paid_addr : Option (ℕ × ℕ) → ℕ
paid_addr None = 0
paid_addr (Some pay) = pay.0

abbrev pub paid_count : Option (ℕ × ℕ) → ℕ
paid_count None = 0
paid_count (Some pay) = pay.1

pub one_chosen : (trays : List Tray) (amount : ℕ) (counts others : List ℕ) → IsChosen trays amount counts →
    IsChosen trays amount others → counts ≡ others
one_chosen trays amount counts others chosen other =
    both_first counts others (chosen.first others other.fewest) (other.first counts chosen.fewest)
