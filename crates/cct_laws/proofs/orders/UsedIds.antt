-- Records under which ids stay in order: no id is used twice, and the open order of an address is the one that was
-- opened last with its id.
use Rattle.std.proofs.Common.{◌≡◌, ◌≢◌, ℕ, ◌||◌, ◌==◌, cond, false, List, [], ◌∷◌, refl, ap, sym, ◌∙◌, subst, Some, None, ◌⊎◌, inl, inr, eq-eqb}
use Rattle.std.proofs.lemmas.Bool.{cases_eq, ne_eqb, or_parts}
use Rattle.std.proofs.lemmas.Option.{none-some}
use Rattle.std.specs.List.{list_any}
use Rattle.cct_model.specs.lines.record.Record.{Record}
use Rattle.cct_model.specs.lines.record.Record.TheVariants as record_of
use Rattle.cct_model.specs.declared.judging.OpenOrder.{OpenOrder}
use Rattle.cct_model.specs.Records.{order_named, order_in, owner_in}
use Rattle.cct_model.specs.Paid.{uses, IsFresh, AreFresh}
use Rattle.cct_laws.proofs.setups.DeviceAt.{same_some}
use Rattle.cct_model.proofs.OpenOrders.{order_own, order_else}
use Rattle.cct_laws.proofs.orders.Orders.{order_kept, order_as}

-- no record uses an id
abbrev pub Unused : ℕ → List Record → Type 0
Unused id before = list_any (uses id) before ≡ false

-- no order is named by an id that isn't used
unnamed : (id : ℕ) (before : List Record) → Unused id before → order_named id before ≡ None
unnamed id [] unused = refl
unnamed id (record_of.Opened opened addr count life ∷ before) unused =
    let parts = or_parts (opened == id) (list_any (uses id) before) unused in
    ap (λ b. cond b (Some (order_as opened addr count life)) (order_named id before)) parts.0
    ∙ unnamed id before parts.1
unnamed id (record_of.Sold used price ∷ before) unused =
    unnamed id before (or_parts (used == id) (list_any (uses id) before) unused).1
unnamed id (r ∷ before) unused = unnamed id before unused

-- the open order of an address is the one that was opened last with its id, at that address
abbrev pub IsOrderOf : List Record → ℕ → OpenOrder → Type 0
IsOrderOf before addr o = (order_named o.id before ≡ Some o) × (o.addr ≡ addr)

abbrev pub OrdersOf : List Record → ℕ → Type 0
OrdersOf before addr = (o : OpenOrder) → order_in addr before ≡ Some o → IsOrderOf before addr o

closed_order : (addr : ℕ) (r : Record) (before : List Record) (o : OpenOrder) →
    order_in addr (r ∷ before) ≡ Some o → (owner_in before r ≡ addr → order_in addr (r ∷ before) ≡ None) →
    order_in addr before ≡ Some o
closed_order addr r before o is closes = by_owner (cases_eq (owner_in before r) addr)
  where
    by_owner : (owner_in before r ≡ addr) ⊎ (owner_in before r ≢ addr) → order_in addr before ≡ Some o
    by_owner (inl same) = absurd (none-some o (sym (closes same) ∙ is))
    by_owner (inr other) = sym (order_else addr r before other) ∙ is

orders_next : (r : Record) (before : List Record) (addr : ℕ) → IsFresh before r → OrdersOf before addr →
    OrdersOf (r ∷ before) addr
orders_next (record_of.Opened id a count life) before addr fresh owned o is = by_address (cases_eq a addr)
  where
    opened : Record
    opened = record_of.Opened id a count life

    by_address : (a ≡ addr) ⊎ (a ≢ addr) → IsOrderOf (opened ∷ before) addr o
    by_address (inl same) =
        subst (λ x. IsOrderOf (opened ∷ before) addr x)
        (same_some (order_as id a count life) o (sym (order_own addr opened before same) ∙ is))
        (ap (λ b. cond b (Some (order_as id a count life)) (order_named id before)) (eq-eqb id id refl), same)
    by_address (inr other) =
        let was = owned o (sym (order_else addr opened before other) ∙ is) in
        let apart : id ≢ o.id =
        λ same.
        none-some o (sym (unnamed id before fresh) ∙ ap (λ x. order_named x before) same ∙ was.0) in
        let test = ne_eqb id o.id apart in
        (ap (λ b. cond b (Some (order_as id a count life)) (order_named o.id before)) test ∙ was.0, was.1)
orders_next (record_of.Closed id paid unpaid) before addr fresh owned o is =
    owned o (closed_order addr (record_of.Closed id paid unpaid) before o is
    (order_own addr (record_of.Closed id paid unpaid) before))
orders_next (record_of.Odd id life_before life_after) before addr fresh owned o is =
    owned o (closed_order addr (record_of.Odd id life_before life_after) before o is
    (order_own addr (record_of.Odd id life_before life_after) before))
orders_next r before addr fresh owned o is = owned o (sym (order_kept addr r before (λ x. refl)) ∙ is)

-- records stay, or there is one more, whose id is new
pub data Grows (before : List Record) : List Record → Type 0 where
  same_records : Grows before before
  one_more : (r : Record) → IsFresh before r → Grows before (r ∷ before)

pub grows_fresh : (before later : List Record) → Grows before later → AreFresh before → AreFresh later
grows_fresh before later same_records fresh = fresh
grows_fresh before later (one_more r is_new) fresh = (is_new, fresh)

pub grows_owned : (before later : List Record) (addr : ℕ) → Grows before later → OrdersOf before addr →
    OrdersOf later addr
grows_owned before later addr same_records owned = owned
grows_owned before later addr (one_more r is_new) owned = orders_next r before addr is_new owned

-- one record more that uses another id
pub more_unused : (id : ℕ) (r : Record) (before : List Record) → uses id r ≡ false → Unused id before →
    Unused id (r ∷ before)
more_unused id r before other unused = ap (λ b. b || list_any (uses id) before) other ∙ unused
