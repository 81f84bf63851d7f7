-- The chosen plan, tray by tray.
use Rattle.std.proofs.Common.{◌≡◌, ◌≢◌, ℕ, ◌+◌, ◌-◌, ◌*◌, ◌≤◌, inl, inr, arith, subst, sum, List, [], ◌∷◌, refl}
use Rattle.std.proofs.lemmas.Bool.{cases_order}
use Rattle.cct_model.specs.declared.change.Tray.{Tray}
use Rattle.cct_plan.specs.declared.filling.TheConstants.{FAR}
use Rattle.cct_model.specs.Plan.{most_of, AreWithin, IsPlan, IsFewest, ComesFirst, IsChosen}
use Rattle.cct_plan.specs.Row.{IsLeast, Meets, IsMet, IsGreatest}
use Rattle.cct_plan.proofs.Stepping.{plan_with, plan_behind, sum-cons}

only : (other : List ℕ) → AreWithin [] other → ComesFirst [] other
only [] within = tt
only (o ∷ os) within = absurd within

-- Of no tray the plan without a count is chosen, and pays nothing.
pub chosen_of_none : IsChosen [] 0 []
chosen_of_none = record {
  fewest = record { plan = record { within = tt; pays = refl }; fewest = λ other plan. omega arith };
  first = λ other fewest. only other fewest.plan.within;
}

module _ (t : Tray) (ts : List Tray) (later : ℕ → ℕ) (a n : ℕ) (rest : (b : ℕ) → b ≤ a → IsLeast ts b (later b))
    (least : IsLeast (t ∷ ts) a n) (paid : n ≢ FAR) where
  -- No count of the tray gives fewer coins.
  none_less : (c : ℕ) → c ≤ most_of t → c * t.value ≤ a → n ≤ c + later (a - c * t.value)
  none_less c few fits =
      elim (rest (a - c * t.value) (omega arith)).attained as (λ _. n ≤ c + later (a - c * t.value)) [
        | inl none ↦ omega (arith, least.far)
        | inr some ↦
            let all : n ≤ sum (c ∷ some.0) = least.lower (c ∷ some.0) (plan_with t ts a c some.0 few fits some.1) in
            omega (arith, sum-cons c some.0, some.2)
      ]

  -- The first count of a plan of so many coins meets the number.
  met_by : (c : ℕ) (cs : List ℕ) → IsPlan (t ∷ ts) a (c ∷ cs) → sum (c ∷ cs) ≡ n → Meets t later a n c
  met_by c cs plan is =
      let p = plan_behind t ts a c cs plan in
      let others : later (a - c * t.value) ≤ sum cs = (rest (a - c * t.value) (omega arith)).lower cs p.2 in
      record { fits = p.1; meets = omega (arith, none_less c p.0 p.1, sum-cons c cs) }

  some_met : (counts : List ℕ) → IsPlan (t ∷ ts) a counts → sum counts ≡ n → IsMet t later a n
  some_met [] plan is = absurd plan.within
  some_met (c ∷ cs) plan is = record { count = c; few = plan.within.0; meets = met_by c cs plan is }

  pub is_met : IsMet t later a n
  is_met = elim least.attained as (λ _. IsMet t later a n) [
    | inl none ↦ absurd (paid none)
    | inr some ↦ some_met some.0 some.1 some.2
  ]

  module _ (c : ℕ) (greatest : IsGreatest t later a n c) where
    -- What that count leaves is paid by the later trays.
    pub paid_behind : later (a - c * t.value) ≢ FAR
    paid_behind far = paid (omega (arith, greatest.meets.meets, least.far, far))

    module _ (cs : List ℕ) (behind : IsChosen ts (a - c * t.value) cs) where
      -- The plan after it has as many coins as the later trays need.
      as_many : sum cs ≡ later (a - c * t.value)
      as_many =
          let here : IsLeast ts (a - c * t.value) (later (a - c * t.value)) = rest (a - c * t.value) (omega arith) in
          elim here.attained as (λ _. sum cs ≡ later (a - c * t.value)) [
            | inl none ↦ absurd (paid_behind none)
            | inr some ↦
                let most : sum cs ≤ sum some.0 = behind.fewest.fewest some.0 some.1 in
                omega (arith, here.lower cs behind.fewest.plan, some.2)
          ]

      in_all : sum (c ∷ cs) ≡ n
      in_all = omega (arith, sum-cons c cs, as_many, greatest.meets.meets)

      fewest_with : IsFewest (t ∷ ts) a (c ∷ cs)
      fewest_with = record {
        plan = plan_with t ts a c cs greatest.few greatest.meets.fits behind.fewest.plan;
        fewest = λ other plan. omega (arith, in_all, least.lower other plan);
      }

      -- Another plan that is fewest has as many coins.
      other_in_all : (other : List ℕ) → IsFewest (t ∷ ts) a other → sum other ≡ n
      other_in_all other is = omega (arith, is.fewest (c ∷ cs) fewest_with.plan, in_all, least.lower other is.plan)

      -- With the same first count, what is after that is fewest too.
      fewest_behind : (os : List ℕ) → IsPlan ts (a - c * t.value) os → sum (c ∷ os) ≡ n → IsFewest ts (a - c * t.value) os
      fewest_behind os plan is = record {
        plan = plan;
        fewest = λ other others.
            let least_here : later (a - c * t.value) ≤ sum other = (rest (a - c * t.value) (omega arith)).lower other others in
            omega (arith, sum-cons c os, greatest.meets.meets);
      }

      first_with : (other : List ℕ) → IsFewest (t ∷ ts) a other → ComesFirst (c ∷ cs) other
      first_with [] is = absurd is.plan.within
      first_with (o ∷ os) is =
          let p = plan_behind t ts a o os is.plan in
          let many : sum (o ∷ os) ≡ n = other_in_all (o ∷ os) is in
          let most : o ≤ c = greatest.greatest o p.0 (met_by o os is.plan many) in
          elim (cases_order o c) as (λ _. ComesFirst (c ∷ cs) (o ∷ os)) [
            | inl same ↦ inr (
              same,
              behind.first os (fewest_behind os
                  (subst (λ k. IsPlan ts (a - k * t.value) os) same p.2)
                  (subst (λ k. sum (k ∷ os) ≡ n) same many)),
            )
            | inr apart ↦ inl (omega arith)
          ]

      -- The greatest count at the first tray, and the chosen plan of what it leaves, are the chosen plan.
      pub chosen_with : IsChosen (t ∷ ts) a (c ∷ cs)
      chosen_with = record { fewest = fewest_with; first = first_with }
