-- How what the records of an address show changes by one record more, so its open order; and what
-- coins of one hopper are worth together.
use Rattle.std.proofs.Common.{◌≡◌, ◌≢◌, ℕ, ◌+◌, ◌==◌, Bool, true, false, cond, List, ◌∷◌, refl, ap, sym, ◌∙◌, eq-eqb, add-mul}
use Rattle.std.proofs.lemmas.Bool.{ne_eqb}
use Rattle.cct_model.specs.terms.device.Setup.{Setup}
use Rattle.cct_model.specs.lines.record.Record.{Record}
use Rattle.cct_model.specs.Exchange.{device_at}
use Rattle.cct_model.specs.Order.{order_by}
use Rattle.cct_model.specs.Records.{owner_in, records_at, order_of, order_in}
use Rattle.cct_model.specs.Money.{hopper_value, coins_of}

-- what the records of any address show one by one, after one record more
pub told_next : {A : Type 0} (told : List Record → A) (once : Record → A → A) →
    ((r : Record) (rs : List Record) → told (r ∷ rs) ≡ once r (told rs)) → (addr : ℕ) (r : Record)
    (before : List Record) → told (records_at addr (r ∷ before))
    ≡ cond (owner_in before r == addr) (once r (told (records_at addr before))) (told (records_at addr before))
told_next told once more addr r before = by_owner (owner_in before r == addr)
  where
    by_owner : (here : Bool) → told (cond here (r ∷ records_at addr before) (records_at addr before))
        ≡ cond here (once r (told (records_at addr before))) (told (records_at addr before))
    by_owner true = more r (records_at addr before)
    by_owner false = refl

-- those of the address of the record
pub told_own : {A : Type 0} (told : List Record → A) (once : Record → A → A) →
    ((r : Record) (rs : List Record) → told (r ∷ rs) ≡ once r (told rs)) → (addr : ℕ) (r : Record)
    (before : List Record) → owner_in before r ≡ addr →
    told (records_at addr (r ∷ before)) ≡ once r (told (records_at addr before))
told_own told once more addr r before own =
    told_next told once more addr r before
    ∙ ap (λ b. cond b (once r (told (records_at addr before))) (told (records_at addr before)))
    (eq-eqb (owner_in before r) addr own)

-- and those of another
pub told_else : {A : Type 0} (told : List Record → A) (once : Record → A → A) →
    ((r : Record) (rs : List Record) → told (r ∷ rs) ≡ once r (told rs)) → (addr : ℕ) (r : Record)
    (before : List Record) → owner_in before r ≢ addr →
    told (records_at addr (r ∷ before)) ≡ told (records_at addr before)
told_else told once more addr r before other =
    told_next told once more addr r before
    ∙ ap (λ b. cond b (once r (told (records_at addr before))) (told (records_at addr before)))
    (ne_eqb (owner_in before r) addr other)

-- the open order
pub order_next : (addr : ℕ) (r : Record) (before : List Record) → order_in addr (r ∷ before)
    ≡ cond (owner_in before r == addr) (order_by r (order_in addr before)) (order_in addr before)
order_next = told_next order_of order_by (λ r rs. refl)

pub order_own : (addr : ℕ) (r : Record) (before : List Record) → owner_in before r ≡ addr →
    order_in addr (r ∷ before) ≡ order_by r (order_in addr before)
order_own = told_own order_of order_by (λ r rs. refl)

pub order_else : (addr : ℕ) (r : Record) (before : List Record) → owner_in before r ≢ addr →
    order_in addr (r ∷ before) ≡ order_in addr before
order_else = told_else order_of order_by (λ r rs. refl)

-- coins of one hopper together
pub coins_both : (setup : Setup) (addr paid unpaid : ℕ) →
    coins_of setup addr paid + coins_of setup addr unpaid ≡ coins_of setup addr (paid + unpaid)
coins_both setup addr paid unpaid = sym (add-mul paid unpaid (hopper_value (device_at setup.devices addr)))
