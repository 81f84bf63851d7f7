-- A tray's row is filled by doubling: where up to `taken` coins may be taken, `more` of them at once, at most one more than
-- `taken`, bring all counts up to `taken + more`.
use Rattle.std.proofs.Common.{◌≡◌, ℕ, suc, ◌+◌, ◌-◌, ◌*◌, ◌<◌, ◌≤◌, min, inl, inr, sym, ap, ◌∙◌, arith, subst, if◌then◌else◌, nat_lt, ◌⊎◌}
use Rattle.std.proofs.Math.Nat.{add-mul, mul-le-mul_right}
use Rattle.std.proofs.lemmas.Bool.{cases_lt, cond_both, ltb-true, ltb-false}
use Rattle.cct_plan.specs.declared.filling.TheConstants.{FAR}
use Rattle.cct_plan.specs.Row.{IsLeastUpTo}

-- A number of coins is met by a count of at most so many, or there is none.
abbrev pub Met : (most value : ℕ) (later : ℕ → ℕ) (a n : ℕ) → Type 0
Met most value later a n = (n ≡ FAR) ⊎ ((c : ℕ) × (c ≤ most) × (c * value ≤ a) × (n ≡ c + later (a - c * value)))

pub met_more : (most more value : ℕ) (later : ℕ → ℕ) (a n : ℕ) → Met most value later a n → Met (most + more) value later a n
met_more most more value later a n (inl none) = inl none
met_more most more value later a n (inr some) = inr (some.0, omega arith, some.2, some.3)

module _ (later : ℕ → ℕ) (value taken more a : ℕ) (fits : more ≤ suc taken) where
  -- Coins that are worth less than `more` are fewer, so at most `taken`.
  few_by_worth : (c : ℕ) → c * value ≤ a → a < more * value → c ≤ taken
  few_by_worth c worth short =
      elim (cases_lt c more) as (λ _. c ≤ taken) [
        | inl few ↦ omega arith
        | inr many ↦ let most : more * value ≤ c * value = mul-le-mul_right value many in absurd (omega arith)
      ]

  -- Where `more` coins are worth more than the amount, nothing changes.
  near : (n : ℕ) → a < more * value → IsLeastUpTo taken value later a n → IsLeastUpTo (taken + more) value later a n
  near n short before = record {
    far = before.far;
    lower = λ c most worth. before.lower c (few_by_worth c worth short) worth;
    attained = met_more taken more value later a n before.attained;
  }

  -- So many coins are `more` of them and the others, which leave the same.
  apart : (c : ℕ) → more ≤ c → (c - more) * value + more * value ≡ c * value
  apart c many = sym (add-mul (c - more) more value) ∙ ap (λ n. n * value) (omega arith)

  leaves : (c : ℕ) → more ≤ c → a - more * value - (c - more) * value ≡ a - c * value
  leaves c many = omega (arith, apart c many)

  -- Where they are worth no more than the amount, they are taken, or at most as many as before.
  with_more : (rest : ℕ) → more * value ≤ a → rest + more ≤ FAR → IsLeastUpTo taken value later (a - more * value) rest
      → Met (taken + more) value later a (rest + more)
  with_more rest long small behind =
      elim behind.attained as (λ _. Met (taken + more) value later a (rest + more)) [
        | inl none ↦ inl (omega arith)
        | inr some ↦
            let c : ℕ = some.0 in
            let worths : c * value + more * value ≡ (c + more) * value = sym (add-mul c more value) in
            let same : later (a - more * value - c * value) ≡ later (a - (c + more) * value) = ap later (omega arith) in
            inr (c + more, omega (arith, some.1), omega (arith, some.2), omega (arith, some.3))
      ]

  far : (rest n : ℕ) → more * value ≤ a → IsLeastUpTo taken value later (a - more * value) rest → IsLeastUpTo taken value later a n
      → IsLeastUpTo (taken + more) value later a (min (rest + more) n)
  far rest n long behind before = record {
    far = omega (arith, before.far);
    lower = λ c most worth. elim (cases_lt taken c) as (λ _. min (rest + more) n ≤ c + later (a - c * value)) [
      | inl many ↦
          let enough : more ≤ c = omega arith in
          let worths : (c - more) * value + more * value ≡ c * value = apart c enough in
          let below : rest ≤ (c - more) + later (a - more * value - (c - more) * value) = behind.lower (c - more) (omega arith) (omega arith) in
          let same : later (a - more * value - (c - more) * value) ≡ later (a - c * value) = ap later (leaves c enough) in
          omega arith
      | inr few ↦ let least : n ≤ c + later (a - c * value) = before.lower c few worth in omega arith
    ];
    attained = elim (cases_lt n (rest + more)) as (λ _. Met (taken + more) value later a (min (rest + more) n)) [
      | inl less ↦
          let same : n ≡ min (rest + more) n = omega arith in
          subst (Met (taken + more) value later a) same (met_more taken more value later a n before.attained)
      | inr enough ↦
          let same : rest + more ≡ min (rest + more) n = omega arith in
          subst (Met (taken + more) value later a) same (with_more rest long (omega (arith, before.far)) behind)
    ];
  }

  -- One pass over a row.
  pub widened : (before : ℕ → ℕ) → ((b : ℕ) → b ≤ a → IsLeastUpTo taken value later b (before b))
      → IsLeastUpTo (taken + more) value later a
      (if nat_lt a (more * value) then before a else min (before (a - more * value) + more) (before a))
  widened before all =
      cond_both (nat_lt a (more * value)) (before a) (min (before (a - more * value) + more) (before a))
      (IsLeastUpTo (taken + more) value later a)
      (λ short. near (before a) (ltb-true a (more * value) short) (all a (omega arith)))
      (λ long. far (before (a - more * value)) (before a) (ltb-false a (more * value) long) (all (a - more * value) (omega arith))
      (all a (omega arith)))
