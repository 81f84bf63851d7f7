-- What the least number of a table says of all plans.
use Rattle.std.proofs.Common.{◌≡◌, ◌≢◌, ℕ, ◌-◌, ◌*◌, ◌≤◌, ap, arith, subst, sum, List, [], ◌∷◌, length, drop, Option, Some, None, ◌⊎◌, inl, inr}
use Rattle.cct_model.specs.declared.change.Tray.{Tray}
use Rattle.cct_plan.specs.declared.filling.TheConstants.{FAR}
use Rattle.cct_model.specs.Plan.{AreWithin, HasNoPlan, NoneFewer}
use Rattle.cct_plan.specs.Certificate.{Asked}
use Rattle.cct_plan.specs.Row.{IsLeast, least_in, Tells, asked_in, TellsAsked}
use Rattle.cct_plan.proofs.Stepping.{sum-cons}

-- The whole table shows the least number of all trays.
pub whole : (cells : List ℕ) (trays : List Tray) (amount : ℕ) → Tells cells trays (length trays) amount
    → IsLeast trays amount (least_in cells (length trays) amount)
whole cells trays amount tells =
    let is : length trays - length trays ≡ 0 = omega arith in
    subst (λ j. IsLeast (drop j trays) amount (least_in cells (length trays) amount)) is
    (tells (length trays) amount (omega arith) (omega arith))

few_coins : (trays : List Tray) (counts : List ℕ) → AreWithin trays counts → sum counts ≤ length trays * 255
few_coins [] [] within = omega arith
few_coins [] (c ∷ cs) within = absurd within
few_coins (t ∷ ts) [] within = absurd within
few_coins (t ∷ ts) (c ∷ cs) within = omega (arith, sum-cons c cs, few_coins ts cs within.1, within.0)

module _ (trays : List Tray) (amount n : ℕ) (few : length trays ≤ 32) (least : IsLeast trays amount n) where
  pub no_plan : n ≡ FAR → HasNoPlan trays amount
  no_plan far counts plan = omega (arith, least.lower counts plan, few_coins trays counts plan.within, far)

  pub none_fewer : (count : ℕ) → (n ≡ FAR) ⊎ (count ≤ n) → NoneFewer trays amount count
  none_fewer count (inl far) counts plan = absurd (no_plan far counts plan)
  none_fewer count (inr below) counts plan = omega (arith, least.lower counts plan, below)

  pub at_most : (count : ℕ) → n ≢ FAR → NoneFewer trays amount count → count ≤ n
  at_most count paid fewer =
      elim least.attained as (λ _. count ≤ n) [
        | inl none ↦ absurd (paid none)
        | inr some ↦ omega (arith, fewer some.0 some.1, some.2)
      ]

-- What was asked is reported by the trays and the amount.
pub asked_parts : (kept trays : List Tray) (o : Option ℕ) (amount : ℕ) → asked_in kept o ≡ Some (record { trays = trays; amount = amount })
    → (o ≡ Some amount) × (kept ≡ trays)
asked_parts kept trays None amount is = absurd (cc)
asked_parts kept trays (Some asked) amount is =
    let same : ◌≡◌ {A = Asked} (record { trays = kept; amount = asked }) (record { trays = trays; amount = amount }) = cc in
    (ap (λ a. Some a.amount) same, ap (λ a. a.trays) same)

pub asked_is : (kept trays : List Tray) (o : Option ℕ) (amount : ℕ) → o ≡ Some amount → kept ≡ trays
    → asked_in kept o ≡ Some (record { trays = trays; amount = amount })
asked_is kept trays o amount is same =
    rw (is, same)

pub least_asked : (cells : List ℕ) (kept trays : List Tray) (o : Option ℕ) (amount : ℕ) → o ≡ Some amount → kept ≡ trays
    → TellsAsked cells kept o → IsLeast trays amount (least_in cells (length trays) amount)
least_asked cells kept trays o amount is same tells =
    subst (λ ts. IsLeast ts amount (least_in cells (length ts) amount)) same (subst (TellsAsked cells kept) is tells)
