-- The rows of the table, tray by tray from the last.
use Rattle.std.proofs.Common.{◌≡◌, ℕ, suc, zero, ◌+◌, ◌-◌, ◌*◌, ◌<◌, ◌≤◌, inl, inr, sym, arith, subst, sum, ◌⊎◌, List, [], ◌∷◌, length, drop, slice_index, refl, if◌then◌else◌, ◌==◌}
use Rattle.std.proofs.lemmas.Bool.{cases_lt, cond_both, eqb-true, eqb-false}
use Rattle.std.proofs.lemmas.List.Sums.{sum_by-cons}
use Rattle.cct_model.specs.declared.change.Tray.{Tray}
use Rattle.cct_plan.specs.declared.filling.TheConstants.{FAR, ROW}
use Rattle.cct_model.specs.Plan.{most_of, IsPlan}
use Rattle.cct_plan.specs.Row.{IsLeastUpTo, IsLeast, least_in, Tells}

-- A count of a tray, and a plan of what it leaves by the other trays, are a plan.
pub plan_with : (t : Tray) (ts : List Tray) (a c : ℕ) (cs : List ℕ) → c ≤ most_of t → c * t.value ≤ a
    → IsPlan ts (a - c * t.value) cs → IsPlan (t ∷ ts) a (c ∷ cs)
plan_with t ts a c cs few fits behind = record { within = (few, behind.within); pays = omega (arith, behind.pays) }

-- After the first count of a plan stands a plan of what it leaves.
pub plan_behind : (t : Tray) (ts : List Tray) (a c : ℕ) (cs : List ℕ) → IsPlan (t ∷ ts) a (c ∷ cs)
    → (c ≤ most_of t) × (c * t.value ≤ a) × IsPlan ts (a - c * t.value) cs
plan_behind t ts a c cs plan = (plan.within.0, omega (arith, plan.pays), record { within = plan.within.1; pays = omega (arith, plan.pays) })

pub sum-cons : (c : ℕ) (cs : List ℕ) → sum (c ∷ cs) ≡ c + sum cs
sum-cons c cs = sum_by-cons (λ x. x) c cs

module _ (t : Tray) (ts : List Tray) (later : ℕ → ℕ) (a : ℕ) (rest : (b : ℕ) → b ≤ a → IsLeast ts b (later b)) where
  no_less : (n : ℕ) → IsLeastUpTo (most_of t) t.value later a n → (counts : List ℕ) → IsPlan (t ∷ ts) a counts → n ≤ sum counts
  no_less n least [] plan = absurd plan.within
  no_less n least (c ∷ cs) plan =
      let p = plan_behind t ts a c cs plan in
      let some : n ≤ c + later (a - c * t.value) = least.lower c p.0 p.1 in
      let others : later (a - c * t.value) ≤ sum cs = (rest (a - c * t.value) (omega arith)).lower cs p.2 in
      omega (arith, sum-cons c cs)

  met : (n : ℕ) → IsLeastUpTo (most_of t) t.value later a n
      → (n ≡ FAR) ⊎ ((counts : List ℕ) × IsPlan (t ∷ ts) a counts × (sum counts ≡ n))
  met n least =
      elim least.attained as (λ _. (n ≡ FAR) ⊎ ((counts : List ℕ) × IsPlan (t ∷ ts) a counts × (sum counts ≡ n))) [
        | inl none ↦ inl none
        | inr some ↦
            elim (rest (a - some.0 * t.value) (omega arith)).attained as (λ _. (n ≡ FAR) ⊎ ((counts : List ℕ) × IsPlan (t ∷ ts) a counts × (sum counts ≡ n))) [
              | inl none ↦ inl (omega (arith, some.3, none, least.far))
              | inr behind ↦ inr (
                some.0 ∷ behind.0,
                plan_with t ts a some.0 behind.0 some.1 some.2 behind.1,
                omega (arith, sum-cons some.0 behind.0, behind.2, some.3),
              )
            ]
      ]

  -- The least over what the later trays need is the least of all.
  pub stepped : (n : ℕ) → IsLeastUpTo (most_of t) t.value later a n → IsLeast (t ∷ ts) a n
  stepped n least = record { far = least.far; lower = no_less n least; attained = met n least }

none_paid : (counts : List ℕ) (a : ℕ) → IsPlan [] a counts → a ≡ 0
none_paid [] a plan = sym plan.pays
none_paid (c ∷ cs) a plan = absurd plan.within

-- Of no tray just the amount 0 is paid.
pub of_none : (a : ℕ) → IsLeast [] a (if a == 0 then 0 else FAR)
of_none a = record {
  far = cond_both (a == 0) 0 FAR (λ n. n ≤ FAR) (λ _. omega arith) (λ _. omega arith);
  lower = λ counts plan. cond_both (a == 0) 0 FAR (λ n. n ≤ sum counts) (λ _. omega arith)
      (λ some. absurd (eqb-false a 0 some (none_paid counts a plan)));
  attained = cond_both (a == 0) 0 FAR (λ n. (n ≡ FAR) ⊎ ((counts : List ℕ) × IsPlan [] a counts × (sum counts ≡ n)))
      (λ none. inr ([], record { within = tt; pays = sym (eqb-true a 0 none) }, refl)) (λ _. inl refl);
}

-- A row more leaves what the others show.
told_same : (old new : List ℕ) (many k a : ℕ) → ((i : ℕ) → i < many * ROW → slice_index new i ≡ slice_index old i)
    → k ≤ many → a < ROW → least_in old k a ≡ least_in new k a
told_same old new many zero a same few within = refl
told_same old new many (suc k) a same few within = sym (same (k * ROW + a) (omega arith))

-- The row of one tray more, over those that the table has.
pub tells_more : (old new : List ℕ) (trays : List Tray) (many amount : ℕ) (t : Tray) → amount < ROW
    → drop (length trays - suc many) trays ≡ t ∷ drop (length trays - many) trays
    → ((i : ℕ) → i < many * ROW → slice_index new i ≡ slice_index old i)
    → ((a : ℕ) → a ≤ amount → IsLeastUpTo (most_of t) t.value (least_in old many) a (slice_index new (many * ROW + a)))
    → Tells old trays many amount → Tells new trays (suc many) amount
tells_more old new trays many amount t within there same least before k a few small =
    elim (cases_lt many k) as (λ _. IsLeast (drop (length trays - k) trays) a (least_in new k a)) [
      | inl last ↦
          let is : suc many ≡ k = omega arith in
          subst (λ n. IsLeast (drop (length trays - n) trays) a (least_in new n a)) is
          (rw there (stepped t (drop (length trays - many) trays) (least_in old many) a
          (λ b below. before many b (omega arith) (omega arith)) (slice_index new (many * ROW + a)) (least a small)))
      | inr earlier ↦
          subst (IsLeast (drop (length trays - k) trays) a) (told_same old new many k a same earlier (omega arith)) (before k a earlier small)
    ]
