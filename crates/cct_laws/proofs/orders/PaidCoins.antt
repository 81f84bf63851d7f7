-- Where each order is closed with exactly the coins that fell, all coins that fell are those of closed orders and those
-- of the open one.
use Rattle.std.proofs.Common.{◌≡◌, ℕ, suc, ◌+◌, ◌≤◌, List, [], ◌∷◌, refl, Option, Some, None, arith}
use Rattle.cct_model.specs.lines.record.Record.{Record}
use Rattle.cct_model.specs.lines.record.Record.TheVariants as record_of
use Rattle.cct_model.specs.declared.judging.OpenOrder.{OpenOrder}
use Rattle.cct_model.specs.Line.{Line, fell, put}
use Rattle.cct_model.specs.Order.{order_by, order}
use Rattle.cct_model.specs.Paid.{fallen, OfOrder, PaidBy, Paid, anew_by}
use Rattle.cct_model.specs.Sums.{coins_paid}
use Rattle.cct_laws.specs.Coins.{all_fallen, all_paid}

-- a fact of an order that isn't there
of_none : (owed : Option OpenOrder) (P : OpenOrder → Type 0) → owed ≡ None → OfOrder owed P → ⊥
of_none None P none fact = fact
of_none (Some o) P none fact = cc

-- where no order is open, nothing fell since one was closed
unfallen_put : (past : List Line) (r : Record) → order_by r (order past) ≡ None →
    (order past ≡ None → fallen past ≡ 0) →
    anew_by r (fallen past) ≡ 0
unfallen_put past (record_of.Opened id addr count life) none before = absurd cc
unfallen_put past (record_of.Closed id paid unpaid) none before = refl
unfallen_put past (record_of.Odd id life_before life_after) none before = refl
unfallen_put past r none before = before none

unfallen : (lines : List Line) → Paid lines → order lines ≡ None → fallen lines ≡ 0
unfallen [] paid none = refl
unfallen (fell ∷ past) paid none = absurd (of_none (order past) (λ o. suc (fallen past) ≤ o.count) none paid.0)
unfallen (put entry ∷ past) paid none = unfallen_put past entry none (unfallen past paid.1)
unfallen (line ∷ past) paid none = unfallen past paid.1 none

-- an order is closed with the coins that fell
closed_with : (owed : Option OpenOrder) (id paid unpaid fell_since : ℕ) →
    OfOrder owed (λ o. (id ≡ o.id) × (paid ≡ fell_since) × (paid + unpaid ≡ o.count)) → paid ≡ fell_since
closed_with None id paid unpaid fell_since fact = absurd fact
closed_with (Some o) id paid unpaid fell_since fact = fact.1

fallen_put : (past : List Line) (r : Record) → PaidBy past r → Paid past →
    all_fallen past ≡ all_paid past + fallen past →
    all_fallen past ≡ coins_paid r + all_paid past + anew_by r (fallen past)
fallen_put past (record_of.Opened id addr count life) by paid before =
    let none = unfallen past paid by in
    omega (arith, before, none)
fallen_put past (record_of.Closed id many unpaid) by paid before =
    let same = closed_with (order past) id many unpaid (fallen past) by in
    omega (arith, before, same)
fallen_put past (record_of.Odd id life_before life_after) by paid before = absurd by
fallen_put past r by paid before = omega (arith, before)

-- all coins that ever fell are those that the closed orders were paid, and those that fell since
pub fallen_all : (lines : List Line) → Paid lines → all_fallen lines ≡ all_paid lines + fallen lines
fallen_all [] paid = refl
fallen_all (fell ∷ past) paid =
    let before = fallen_all past paid.1 in
    omega (arith, before)
fallen_all (put entry ∷ past) paid = fallen_put past entry paid.0 paid.1 (fallen_all past paid.1)
fallen_all (line ∷ past) paid = fallen_all past paid.1

-- without an open order all of them are those that the closed orders were paid
pub fallen_closed : (lines : List Line) → Paid lines → order lines ≡ None → all_fallen lines ≡ all_paid lines
fallen_closed lines paid none =
    let all = fallen_all lines paid in
    let since = unfallen lines paid none in
    omega (arith, all, since)
