-- The counts that are chosen so far, and what is left to pay by the later trays.
use Rattle.std.proofs.Common.{◌≡◌, ◌≢◌, ℕ, suc, ◌+◌, ◌-◌, ◌*◌, ◌<◌, ◌≤◌, sym, arith, subst, List, [], ◌∷◌, ◌++◌, length, get_or, drop, append_assoc, append-nil, ◌==◌, refl}
use Rattle.std.proofs.Math.Seq.{drop-cons}
use Rattle.std.proofs.lemmas.Bool.{cond_both, eqb-true}
use Rattle.std.proofs.lemmas.List.{drop_all}
use Rattle.cct_model.specs.declared.change.Tray.{Tray}
use Rattle.cct_plan.specs.declared.filling.TheConstants.{FAR}
use Rattle.cct_model.specs.Plan.{IsChosen}
use Rattle.cct_plan.specs.Row.{IsLeast, IsMet, IsGreatest, least_in, Tells}
use Rattle.cct_plan.proofs.Chosen.{is_met, paid_behind, chosen_with, chosen_of_none}

-- Whatever the later trays pay the rest by, these counts before it make the chosen plan.
abbrev pub Leads : List Tray → ℕ → ℕ → ℕ → List ℕ → Type 0
Leads trays amount i rest counts = (cs : List ℕ) → IsChosen (drop i trays) rest cs → IsChosen trays amount (counts ++ cs)

module _ (cells : List ℕ) (trays : List Tray) (amount i rest : ℕ) (d : Tray) (tells : Tells cells trays (length trays) amount)
    (some : i < length trays) (within : rest ≤ amount) (paid : least_in cells (length trays - i) rest ≢ FAR) where
  here : IsLeast (get_or trays i d ∷ drop (suc i) trays) rest (least_in cells (length trays - i) rest)
  here =
      let is : length trays - (length trays - i) ≡ i = omega arith in
      subst (λ ts. IsLeast ts rest (least_in cells (length trays - i) rest)) (drop-cons trays i d some)
      (subst (λ j. IsLeast (drop j trays) rest (least_in cells (length trays - i) rest)) is
      (tells (length trays - i) rest (omega arith) within))

  behind : (b : ℕ) → b ≤ rest → IsLeast (drop (suc i) trays) b (least_in cells (length trays - 1 - i) b)
  behind b below =
      let is : length trays - (length trays - 1 - i) ≡ suc i = omega arith in
      subst (λ j. IsLeast (drop j trays) b (least_in cells (length trays - 1 - i) b)) is
      (tells (length trays - 1 - i) b (omega arith) (omega arith))

  met_here : IsMet (get_or trays i d) (least_in cells (length trays - 1 - i)) rest (least_in cells (length trays - i) rest)
  met_here = is_met (get_or trays i d) (drop (suc i) trays) (least_in cells (length trays - 1 - i)) rest
      (least_in cells (length trays - i) rest) behind here paid

  -- Some count of the tray at this place meets the least number.
  pub met_there : IsMet (get_or trays i d) (least_in cells (length trays - 1 - i)) rest (least_in cells (length trays - 1 - i + 1) rest)
  met_there =
      let is : length trays - i ≡ length trays - 1 - i + 1 = omega arith in
      subst (λ k. IsMet (get_or trays i d) (least_in cells (length trays - 1 - i)) rest (least_in cells k rest)) is met_here

  module _ (c : ℕ) (greatest : IsGreatest (get_or trays i d) (least_in cells (length trays - 1 - i)) rest (least_in cells (length trays - 1 - i + 1) rest) c) where
    greatest_here : IsGreatest (get_or trays i d) (least_in cells (length trays - 1 - i)) rest (least_in cells (length trays - i) rest) c
    greatest_here =
        let is : length trays - 1 - i + 1 ≡ length trays - i = omega arith in
        subst (λ k. IsGreatest (get_or trays i d) (least_in cells (length trays - 1 - i)) rest (least_in cells k rest) c) is greatest

    -- What it leaves is paid.
    pub still_paid : least_in cells (length trays - (i + 1)) (rest - c * (get_or trays i d).value) ≢ FAR
    still_paid =
        let is : length trays - 1 - i ≡ length trays - (i + 1) = omega arith in
        subst (λ k. least_in cells k (rest - c * (get_or trays i d).value) ≢ FAR) is
        (paid_behind (get_or trays i d) (drop (suc i) trays) (least_in cells (length trays - 1 - i)) rest
        (least_in cells (length trays - i) rest) behind here paid c greatest_here)

    pub leads_on : (counts : List ℕ) → Leads trays amount i rest counts
        → Leads trays amount (i + 1) (rest - c * (get_or trays i d).value) (counts ++ c ∷ [])
    leads_on counts leads cs chosen =
        rw append_assoc (leads (c ∷ cs) (rw (drop-cons trays i d some)
        (chosen_with (get_or trays i d) (drop (suc i) trays) (least_in cells (length trays - 1 - i)) rest
        (least_in cells (length trays - i) rest) behind here paid c greatest_here cs
        (let is : i + 1 ≡ suc i = omega arith in subst (λ j. IsChosen (drop j trays) (rest - c * (get_or trays i d).value) cs) is chosen))))

-- At the last tray nothing is left to pay.
pub all_paid : (cells : List ℕ) (rest : ℕ) → least_in cells 0 rest ≢ FAR → rest ≡ 0
all_paid cells rest = cond_both (rest == 0) 0 FAR (λ n. n ≢ FAR → rest ≡ 0) (λ none _. eqb-true rest 0 none) (λ _ far. absurd (far refl))

pub chosen_at_last : (cells : List ℕ) (trays : List Tray) (amount i rest : ℕ) (counts : List ℕ) → length trays ≤ i
    → least_in cells (length trays - i) rest ≢ FAR → Leads trays amount i rest counts → IsChosen trays amount counts
chosen_at_last cells trays amount i rest counts last paid leads =
    let none : length trays - i ≡ 0 = omega arith in
    let nothing : rest ≡ 0 = all_paid cells rest (subst (λ k. least_in cells k rest ≢ FAR) none paid) in
    let no_tray : drop i trays ≡ [] = drop_all i trays last in
    let chosen : IsChosen (drop i trays) rest [] = subst (λ ts. IsChosen ts rest []) (sym no_tray)
    (subst (λ r. IsChosen [] r []) (sym nothing) chosen_of_none) in
    subst (IsChosen trays amount) (append-nil counts) (leads [] chosen)
