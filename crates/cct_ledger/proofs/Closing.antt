-- What the record that closes an order changes.
use Rattle.std.proofs.Common.{◌≡◌, ℕ, ◌+◌, ◌≤◌, List, ◌∷◌, set, length, sum_by, refl, ap, sym, ◌∙◌, subst, Option, Some, None, arith}
use Rattle.std.specs.Prelude.{slice_get}
use Rattle.std.proofs.Math.ListN.{length-set}
use Rattle.std.proofs.lemmas.List.Sums.{get_or-le-sum_by}
use Rattle.std.proofs.lemmas.Option.{slice_get_within, get_or_from_slice_get}
use Rattle.cct_model.specs.terms.device.Setup.{Setup}
use Rattle.cct_model.specs.lines.record.Record.{Record}
use Rattle.cct_model.specs.lines.record.Record.TheVariants.{Closed, Odd}
use Rattle.cct_model.specs.declared.judging.OpenOrder.{OpenOrder}
use Rattle.cct_model.specs.Setup.{AreDistinct}
use Rattle.cct_model.specs.Records.{order_named, hopper_of, opened_in}
use Rattle.cct_model.specs.Money.{coins_of, amount, reserved_in, paid_in}
use Rattle.cct_model.proofs.OpenOrders.{coins_both}
use Rattle.cct_ledger.specs.Orders.{KeepsOrders}
use Rattle.cct_ledger.proofs.Orders.{Closes, keeps_closed, owed_next, owed_set}

-- an open order among others: its worth is a part of theirs, and is that of its coins that were paid and of those that
-- were not
pub record IsPart (setup : Setup) (orders : List (Option OpenOrder)) (place : ℕ) (o : OpenOrder) : Type 0 where
  pub within : coins_of setup o.addr o.count ≤ sum_by (amount setup) orders
  pub both : (paid unpaid : ℕ) → paid + unpaid ≡ o.count →
      coins_of setup o.addr paid + coins_of setup o.addr unpaid ≡ coins_of setup o.addr o.count

pub is_part : (setup : Setup) (orders : List (Option OpenOrder)) (place : ℕ) (o : OpenOrder) →
    slice_get orders place ≡ Some (Some o) → IsPart setup orders place o
is_part setup orders place o is = record {
  within = subst (λ (x : Option OpenOrder). amount setup x ≤ sum_by (amount setup) orders)
      (get_or_from_slice_get orders place (Some o) None is)
      (get_or-le-sum_by (amount setup) orders place None (slice_get_within orders place (Some o) is));
  both = λ paid unpaid all. coins_both setup o.addr paid unpaid ∙ ap (coins_of setup o.addr) all;
}

-- without it the others are left
pub record IsWithout (setup : Setup) (orders later : List (Option OpenOrder)) (o : OpenOrder) : Type 0 where
  pub places : length later ≡ length orders
  pub left : sum_by (amount setup) later + coins_of setup o.addr o.count ≡ sum_by (amount setup) orders

pub is_without : (setup : Setup) (orders later : List (Option OpenOrder)) (place : ℕ) (o : OpenOrder) →
    slice_get orders place ≡ Some (Some o) → later ≡ set orders place None → IsWithout setup orders later o
is_without setup orders later place o is same =
    let next = owed_set setup orders place (Some o) None is in
    let sums = ap (λ (os : List (Option OpenOrder)). sum_by (amount setup) os) same in
    record {
      places = ap (λ (os : List (Option OpenOrder)). length os) same ∙ length-set orders place None;
      left = omega arith;
    }

-- an order that a ledger keeps, found by its id
pub record IsKept (setup : Setup) (before : List Record) (orders : List (Option OpenOrder)) (place id : ℕ)
    (o : OpenOrder) :
    Type 0 where
  pub distinct : AreDistinct setup.devices
  pub keeps : KeepsOrders setup before orders
  pub found : slice_get orders place ≡ Some (Some o)
  pub own : o.id ≡ id

closes_paid : (before : List Record) (id paid unpaid : ℕ) → Closes before (Closed id paid unpaid) id
closes_paid before id paid unpaid =
    record { order = λ o. refl; opens = λ other b. refl; names = λ other o. refl; owner = refl }

closes_odd : (before : List Record) (id life_before life_after : ℕ) → Closes before (Odd id life_before life_after) id
closes_odd before id life_before life_after =
    record { order = λ o. refl; opens = λ other b. refl; names = λ other o. refl; owner = refl }

-- it pays the coins that fell, and frees all that were reserved
pub record PaysOut (setup : Setup) (before : List Record) (later : List (Option OpenOrder)) (o : OpenOrder)
    (id paid unpaid : ℕ) : Type 0 where
  pub keeps : KeepsOrders setup (Closed id paid unpaid ∷ before) later
  pub reserved : reserved_in setup (Closed id paid unpaid ∷ before) + coins_of setup o.addr o.count ≡ reserved_in setup
      before
  pub paid_more : paid_in setup (Closed id paid unpaid ∷ before) ≡ coins_of setup o.addr paid + paid_in setup before

pub pays_out : (setup : Setup) (before : List Record) (orders later : List (Option OpenOrder)) (place : ℕ)
    (o : OpenOrder)
    (id paid unpaid : ℕ) → IsKept setup before orders place id o → later ≡ set orders place None →
    PaysOut setup before later o id paid unpaid
pays_out setup before orders later place o id paid unpaid kept same =
    let keeps =
    keeps_closed setup before (Closed id paid unpaid) orders place id o kept.distinct
    (closes_paid before id paid unpaid)
    kept.found kept.own kept.keeps in
    let next = owed_next setup before (Closed id paid unpaid) orders place (Some o) None kept.keeps keeps kept.found in
    let owner : opened_in id before ≡ o.addr =
    ap (λ n. opened_in n before) (sym kept.own) ∙ ap hopper_of (kept.keeps.named place o kept.found) in
    record {
      keeps = subst (λ (os : List (Option OpenOrder)). KeepsOrders setup (Closed id paid unpaid ∷ before) os)
          (sym same) keeps;
      reserved = omega arith;
      paid_more = ap (λ a. coins_of setup a paid + paid_in setup before) owner;
    }

-- where the counts of life don't fit, it stays reserved
pub record SetsAside (setup : Setup) (before : List Record) (later : List (Option OpenOrder))
    (id life_before life_after : ℕ) :
    Type 0 where
  pub keeps : KeepsOrders setup (Odd id life_before life_after ∷ before) later
  pub reserved : reserved_in setup (Odd id life_before life_after ∷ before) ≡ reserved_in setup before

pub sets_aside : (setup : Setup) (before : List Record) (orders later : List (Option OpenOrder)) (place : ℕ)
    (o : OpenOrder)
    (id life_before life_after : ℕ) → IsKept setup before orders place id o → later ≡ set orders place None →
    SetsAside setup before later id life_before life_after
sets_aside setup before orders later place o id life_before life_after kept same =
    let r = Odd id life_before life_after in
    let keeps =
    keeps_closed setup before r orders place id o kept.distinct (closes_odd before id life_before life_after) kept.found
    kept.own kept.keeps in
    let next = owed_next setup before r orders place (Some o) None kept.keeps keeps kept.found in
    let worth : amount setup (order_named id before) ≡ coins_of setup o.addr o.count =
    ap (λ n. amount setup (order_named n before)) (sym kept.own)
    ∙ ap (amount setup) (kept.keeps.named place o kept.found) in
    record {
      keeps = subst (λ (os : List (Option OpenOrder)). KeepsOrders setup (Odd id life_before life_after ∷ before) os)
          (sym same) keeps;
      reserved = omega arith;
    }
