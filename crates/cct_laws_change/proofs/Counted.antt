-- Each order of a hopper is counted right, by its id.
use Rattle.std.proofs.Common.{◌≡◌, ◌≢◌, ℕ, suc, ◌+◌, ◌≤◌, ◌==◌, Bool, true, false, cond, List, [], ◌∷◌, refl, ap, sym, ◌∙◌, subst, Option, Some, None, ◌⊎◌, inl, inr, arith, eq-eqb, eqb-true}
use Rattle.std.proofs.lemmas.Bool.{cases_Bool, both_ways, ne_eqb}
use Rattle.cct_model.specs.lines.record.Record.TheVariants as record_of
use Rattle.cct_model.specs.declared.judging.OpenOrder.{OpenOrder}
use Rattle.cct_model.specs.Line.{Line, fell, put}
use Rattle.cct_model.specs.Order.{order}
use Rattle.cct_model.specs.Paid.{Paid, OfOrder, fallen}
use Rattle.cct_laws_change.specs.Counted.{AreFreshLines, Close, Counted, closed_as, fallen_for, is_named, opened_as}

pub same_some : {A : Type 0} (x y : A) → Some x ≡ Some y → x ≡ y
same_some x y e = cc

pub some_none : {A : Type 0} (x : A) → Some x ≡ None → ⊥
some_none x e = cc

-- an order that is open by this id was opened with it
open_named : (past : List Line) (o : OpenOrder) (id : ℕ) → Counted past → order past ≡ Some o → o.id ≡ id →
    (fallen_for id past ≡ fallen past) × (opened_as id past ≡ Some o.count)
open_named past o id before owes is =
    subst (λ n. (fallen_for n past ≡ fallen past) × (opened_as n past ≡ Some o.count)) is (before.open_is o owes)

-- the test of an id that the open order has, or hasn't
named_is : (past : List Line) (o : OpenOrder) (id : ℕ) → order past ≡ Some o → is_named id (order past) ≡ (o.id == id)
named_is past o id owes = ap (is_named id) owes

-- before any line nothing is counted
nothing_counted : Counted []
nothing_counted = record {
  open_is = λ o is. absurd cc;
  unopened = λ id none. refl;
  within = λ id n is. absurd cc;
  closed_is = λ id c is. absurd cc;
  closed_apart = λ id c o is owes. absurd cc;
  ended = λ id n is none. absurd cc;
}

-- a coin falls for the open order, and is counted there
fell_open : (past : List Line) (o : OpenOrder) → order past ≡ Some o →
    fallen_for o.id (fell ∷ past) ≡ suc (fallen_for o.id past)
fell_open past o owes =
    ap (λ b. cond b (suc (fallen_for o.id past)) (fallen_for o.id past)) (named_is past o o.id owes ∙ eq-eqb o.id o.id refl)

fell_other : (past : List Line) (id : ℕ) → is_named id (order past) ≡ false →
    fallen_for id (fell ∷ past) ≡ fallen_for id past
fell_other past id other = ap (λ b. cond b (suc (fallen_for id past)) (fallen_for id past)) other

fell_counted : (past : List Line) (o : OpenOrder) → order past ≡ Some o → suc (fallen past) ≤ o.count → Counted past →
    Counted (fell ∷ past)
fell_counted past o owes few before = record {
  open_is = λ q is.
      (fell_open past q is ∙ ap suc (before.open_is q is).0, (before.open_is q is).1);
  unopened = λ id none.
      fell_other past id (named_is past o id owes ∙ ne_eqb o.id id (λ same.
      some_none o.count (sym (open_named past o id before owes same).1 ∙ none)))
      ∙ before.unopened id none;
  within = λ id n is. elim (cases_Bool (o.id == id)) [
    | inl test ↦
        let same = eqb-true o.id id test in
        let here = open_named past o id before owes same in
        let count = same_some o.count n (sym here.1 ∙ is) in
        let grown = ap (λ b. cond b (suc (fallen_for id past)) (fallen_for id past)) (named_is past o id owes ∙ test) in
        omega (arith, grown, here.0, count, few)
    | inr test ↦ omega (arith, fell_other past id (named_is past o id owes ∙ test), before.within id n is)
  ];
  closed_is = λ id c is. (
    fell_other past id (named_is past o id owes ∙ ne_eqb o.id id (before.closed_apart id c o is owes))
        ∙ (before.closed_is id c is).0,
    (before.closed_is id c is).1,
  );
  closed_apart = λ id c q is owes. before.closed_apart id c q is owes;
  ended = λ id n is other. before.ended id n is other;
}

-- an order is opened, with an id of its own
opened_by_test : (id opened count : ℕ) (before : Option ℕ) (n : ℕ) → cond (opened == id) (Some count) before ≡ Some n →
    ((opened ≡ id) × (count ≡ n)) ⊎ (before ≡ Some n)
opened_by_test id opened count before n is = elim (cases_Bool (opened == id)) [
  | inl test ↦ inl (eqb-true opened id test, same_some count n (sym (ap (λ b. cond b (Some count) before) test) ∙ is))
  | inr test ↦ inr (sym (ap (λ b. cond b (Some count) before) test) ∙ is)
]

opened_stays_some : (b : Bool) (count : ℕ) (before : Option ℕ) → before ≢ None → cond b (Some count) before ≢ None
opened_stays_some true count before some none = some_none count none
opened_stays_some false count before some none = some none

unopened_before : (b : Bool) (count : ℕ) (before : Option ℕ) → cond b (Some count) before ≡ None → before ≡ None
unopened_before true count before none = absurd (some_none count none)
unopened_before false count before none = none

opened_counted : (past : List Line) (id addr count life : ℕ) → order past ≡ None → opened_as id past ≡ None →
    Counted past → Counted (put (record_of.Opened id addr count life) ∷ past)
opened_counted past id addr count life none fresh before = record {
  open_is = λ o is.
      let same = same_some (record { id = id; addr = addr; count = count; life = life }) o is in
      subst (λ q. (fallen_for q.id past ≡ 0) × (cond (id == q.id) (Some count) (opened_as q.id past) ≡ Some q.count)) same
      (before.unopened id fresh, ap (λ b. cond b (Some count) (opened_as id past)) (eq-eqb id id refl));
  unopened = λ other is. before.unopened other (unopened_before (id == other) count (opened_as other past) is);
  within = λ other n is. elim (opened_by_test other id count (opened_as other past) n is) [
    | inl here ↦ omega (arith, before.unopened other (subst (λ i. opened_as i past ≡ None) here.0 fresh))
    | inr earlier ↦ before.within other n earlier
  ];
  closed_is = λ other c is. (
    (before.closed_is other c is).0,
    opened_stays_some (id == other) count (opened_as other past) (before.closed_is other c is).1,
  );
  closed_apart = λ other c o is owes same.
      let opened = same_some (record { id = id; addr = addr; count = count; life = life }) o owes in
      (before.closed_is other c is).1 (subst (λ i. opened_as i past ≡ None) (ap (λ q. q.id) opened ∙ same) fresh);
  ended = λ other n is unnamed. elim (opened_by_test other id count (opened_as other past) n is) [
    | inl here ↦ absurd (both_ways (id == other) unnamed (eq-eqb id other here.0))
    | inr earlier ↦ before.ended other n earlier (ap (is_named other) none)
  ];
}

-- the open order is closed, with just what fell for it
closed_by_test : (id closed : ℕ) (close : Close) (before : Option Close) (c : Close) →
    cond (closed == id) (Some close) before ≡ Some c → ((closed ≡ id) × (close ≡ c)) ⊎ (before ≡ Some c)
closed_by_test id closed close before c is = elim (cases_Bool (closed == id)) [
  | inl test ↦ inl (eqb-true closed id test, same_some close c (sym (ap (λ b. cond b (Some close) before) test) ∙ is))
  | inr test ↦ inr (sym (ap (λ b. cond b (Some close) before) test) ∙ is)
]

closed_counted : (past : List Line) (o : OpenOrder) (id paid unpaid : ℕ) → order past ≡ Some o → id ≡ o.id →
    paid ≡ fallen past → Counted past → Counted (put (record_of.Closed id paid unpaid) ∷ past)
closed_counted past o id paid unpaid owes is_id is_paid before = record {
  open_is = λ q is. absurd cc;
  unopened = λ other is. before.unopened other is;
  within = λ other n is. before.within other n is;
  closed_is = λ other c is.
      elim (closed_by_test other id (record { paid = paid; unpaid = unpaid }) (closed_as other past) c is) [
        | inl here ↦
            let named = open_named past o other before owes (sym is_id ∙ here.0) in (
              named.0 ∙ sym is_paid ∙ ap (λ x. x.paid) here.1,
              λ none. some_none o.count (sym named.1 ∙ none),
            )
        | inr earlier ↦ before.closed_is other c earlier
      ];
  closed_apart = λ other c q is none. absurd cc;
  ended = λ other n is unnamed none. elim (cases_Bool (id == other)) [
    | inl test ↦
        some_none (record { paid = paid; unpaid = unpaid })
        (sym (ap (λ b. cond b (Some (record { paid = paid; unpaid = unpaid })) (closed_as other past)) test) ∙ none)
    | inr test ↦
        before.ended other n is (named_is past o other owes ∙ ap (λ i. i == other) (sym is_id) ∙ test)
        (sym (ap (λ b. cond b (Some (record { paid = paid; unpaid = unpaid })) (closed_as other past)) test) ∙ none)
  ];
}

pub of_order : (found : Option OpenOrder) (P : OpenOrder → Type 0) → OfOrder found P → (o : OpenOrder) × (found ≡ Some o) × P o
of_order None P is = absurd is
of_order (Some o) P is = (o, refl, is)

pub counted : (lines : List Line) → Paid lines → AreFreshLines lines → Counted lines
counted [] paid fresh = nothing_counted
counted (fell ∷ past) paid fresh =
    let found = of_order (order past) (λ o. suc (fallen past) ≤ o.count) paid.0 in
    fell_counted past found.0 found.1 found.2 (counted past paid.1 fresh.1)
counted (put (record_of.Opened id addr count life) ∷ past) paid fresh =
    opened_counted past id addr count life paid.0 fresh.0 (counted past paid.1 fresh.1)
counted (put (record_of.Closed id closed unpaid) ∷ past) paid fresh =
    let found = of_order (order past) (λ o. (id ≡ o.id) × (closed ≡ fallen past) × (closed + unpaid ≡ o.count)) paid.0 in
    closed_counted past found.0 id closed unpaid found.1 found.2.0 found.2.1 (counted past paid.1 fresh.1)
counted (put (record_of.Odd id before after) ∷ past) paid fresh = absurd paid.0
counted (l ∷ past) paid fresh =
    let before = counted past paid.1 fresh.1 in
    record {
      open_is = before.open_is;
      unopened = before.unopened;
      within = before.within;
      closed_is = before.closed_is;
      closed_apart = before.closed_apart;
      ended = before.ended;
    }
