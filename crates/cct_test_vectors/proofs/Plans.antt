-- Plans worked out by hand: which counts are chosen, and which amounts have no plan.
use Rattle.std.proofs.Common.{◌≡◌, ℕ, ◌+◌, ◌*◌, ◌≤◌, inl, inr, sum, List, [], ◌∷◌, arith, refl}
use Rattle.std.proofs.lemmas.Bool.{cases_order}
use Rattle.cct_model.specs.declared.change.Tray.{Tray}
use Rattle.cct_model.specs.Plan.{ComesFirst, HasNoPlan, IsChosen, IsPlan, most_of}

-- a tray of coins of this value
abbrev tray : ℕ → ℕ → ℕ → Tray
tray addr value stock = record { addr = addr; value = value; stock = stock }

-- no plan of two trays has fewer coins than these counts, nor as few and more of the first tray
abbrev IsBest : Tray → Tray → ℕ → ℕ → ℕ → Type 0
IsBest t u amount c d =
    (a b : ℕ) → a ≤ most_of t → b ≤ most_of u → a * t.value + (b * u.value + 0) ≡ amount
    → (c + d ≤ a + b) × (a + b ≤ c + d → a ≤ c)

module _ (t u : Tray) (amount c d : ℕ) (best : IsBest t u amount c d) where
  fewer : (other : List ℕ) → IsPlan (t ∷ u ∷ []) amount other → sum (c ∷ d ∷ []) ≤ sum other
  fewer [] is = absurd is.within
  fewer (a ∷ []) is = absurd is.within.1
  fewer (a ∷ b ∷ []) is = let few = (best a b is.within.0 is.within.1.0 is.pays).0 in omega (arith, few)
  fewer (a ∷ b ∷ e ∷ more) is = absurd is.within.1.1

  by_order : (a b : ℕ) → c + d ≤ a + b → a + b ≤ c + d → a ≤ c → ComesFirst (c ∷ d ∷ []) (a ∷ b ∷ [])
  by_order a b many few low = elim (cases_order a c) as (λ _. ComesFirst (c ∷ d ∷ []) (a ∷ b ∷ [])) [
    | inl same ↦ inr (same, inr (omega (arith, same, many, few), tt))
    | inr apart ↦ inl (omega (arith, apart, low))
  ]

  first : (other : List ℕ) → IsPlan (t ∷ u ∷ []) amount other → sum other ≤ sum (c ∷ d ∷ []) → ComesFirst (c ∷ d ∷ []) other
  first [] is few = absurd is.within
  first (a ∷ []) is few = absurd is.within.1
  first (a ∷ b ∷ []) is few =
      let at = best a b is.within.0 is.within.1.0 is.pays in
      let as_few : a + b ≤ c + d = omega (arith, few) in
      by_order a b at.0 as_few (at.1 as_few)
  first (a ∷ b ∷ e ∷ more) is few = absurd is.within.1.1

  chosen_of_two : IsPlan (t ∷ u ∷ []) amount (c ∷ d ∷ []) → IsChosen (t ∷ u ∷ []) amount (c ∷ d ∷ [])
  chosen_of_two plan = record {
    fewest = record { plan = plan; fewest = fewer };
    first = λ other fewest. first other fewest.plan (fewest.fewest (c ∷ d ∷ []) plan);
  }

-- the first of two like trays pays, as far as its stock goes
first_pays : IsChosen (tray 3 10 20 ∷ tray 5 10 20 ∷ []) 30 (3 ∷ 0 ∷ [])
first_pays =
    chosen_of_two _ _ 30 3 0 (λ a b few more pays. (omega (arith, pays), λ _. omega (arith, pays)))
    (record { within = (omega arith, (omega arith, tt)); pays = refl })

first_pays_in_part : IsChosen (tray 3 10 2 ∷ tray 5 10 20 ∷ []) 30 (2 ∷ 1 ∷ [])
first_pays_in_part =
    chosen_of_two _ _ 30 2 1 (λ a b few more pays. (omega (arith, pays), λ _. few))
    (record { within = (omega arith, (omega arith, tt)); pays = refl })

-- no tray pays more than 255 coins
no_more_than_255 : IsChosen (tray 3 1 4000000000 ∷ tray 5 1 256 ∷ []) 300 (255 ∷ 45 ∷ [])
no_more_than_255 =
    chosen_of_two _ _ 300 255 45 (λ a b few more pays. (omega (arith, pays), λ _. few))
    (record { within = (omega arith, (omega arith, tt)); pays = refl })

none_of_256 : HasNoPlan (tray 3 1 4000000000 ∷ []) 256
none_of_256 [] is = absurd is.within
none_of_256 (a ∷ []) is = let few : a ≤ 255 = is.within.0 in omega (arith, few, is.pays)
none_of_256 (a ∷ b ∷ more) is = absurd is.within.1

none_of_30 : HasNoPlan (tray 5 40 2 ∷ []) 30
none_of_30 [] is = absurd is.within
none_of_30 (a ∷ []) is = omega (arith, is.pays)
none_of_30 (a ∷ b ∷ more) is = absurd is.within.1

-- a coin that is worth more than the amount
too_dear : IsChosen (tray 3 4294967295 9 ∷ tray 5 10000 1 ∷ []) 10000 (0 ∷ 1 ∷ [])
too_dear =
    chosen_of_two _ _ 10000 0 1 (λ a b few more pays. (omega (arith, pays), λ _. omega (arith, pays)))
    (record { within = (omega arith, (omega arith, tt)); pays = refl })

-- of no tray the amount 0 is paid alone
nothing_is_paid : IsChosen [] 0 []
nothing_is_paid = record {
  fewest = record { plan = record { within = tt; pays = refl }; fewest = λ other plan. omega arith };
  first = λ other fewest. only other fewest.plan;
}
  where
    only : (other : List ℕ) → IsPlan [] 0 other → ComesFirst [] other
    only [] is = tt
    only (a ∷ more) is = absurd is.within

none_of_1 : HasNoPlan [] 1
none_of_1 [] is = omega (arith, is.pays)
none_of_1 (a ∷ more) is = absurd is.within

-- of 10, 40 and 50 two coins pay 80, where the greatest coin first would take four
abbrev three : List Tray
three = tray 3 10 20 ∷ tray 5 40 2 ∷ tray 6 50 2 ∷ []

two_or_more : (other : List ℕ) → IsPlan three 80 other → 2 ≤ sum other
two_or_more [] is = absurd is.within
two_or_more (a ∷ []) is = absurd is.within.1
two_or_more (a ∷ b ∷ []) is = absurd is.within.1.1
two_or_more (a ∷ b ∷ c ∷ []) is = omega (arith, is.pays)
two_or_more (a ∷ b ∷ c ∷ d ∷ more) is = absurd is.within.1.1.1

two_of_40 : (other : List ℕ) → IsPlan three 80 other → sum other ≤ 2 → ComesFirst (0 ∷ 2 ∷ 0 ∷ []) other
two_of_40 [] is few = absurd is.within
two_of_40 (a ∷ []) is few = absurd is.within.1
two_of_40 (a ∷ b ∷ []) is few = absurd is.within.1.1
two_of_40 (a ∷ b ∷ c ∷ []) is few =
    inr (omega (arith, is.pays, few), inr (omega (arith, is.pays, few), inr (omega (arith, is.pays, few), tt)))
two_of_40 (a ∷ b ∷ c ∷ d ∷ more) is few = absurd is.within.1.1.1

two_pay_80 : IsChosen three 80 (0 ∷ 2 ∷ 0 ∷ [])
two_pay_80 =
    let plan : IsPlan three 80 (0 ∷ 2 ∷ 0 ∷ []) = record { within = (omega arith, (omega arith, (omega arith, tt))); pays = refl } in
    record {
      fewest = record { plan = plan; fewest = two_or_more };
      first = λ other fewest. two_of_40 other fewest.plan (fewest.fewest _ plan);
    }
