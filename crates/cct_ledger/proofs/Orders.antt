-- How the open orders that a ledger keeps change by one record more, and what they reserve.
use Rattle.std.proofs.Common.{◌≡◌, ◌≢◌, ℕ, zero, suc, ◌+◌, ◌==◌, Bool, true, false, cond, ◌||◌, List, [], ◌∷◌, map, set, sum_by, refl, ap, sym, ◌∙◌, Option, Some, None, ◌⊎◌, inl, inr, eq-eqb, eqb-true, true≢false}
use Rattle.std.specs.Prelude.{slice_get}
use Rattle.std.specs.List.{list_any}
use Rattle.std.specs.Option.{option_map}
use Rattle.std.proofs.lemmas.Bool.{ne_eqb}
use Rattle.std.proofs.lemmas.List.Sums.{sum_by-cons, sum_by-set}
use Rattle.std.proofs.lemmas.Option.{slice_get-map, slice_get_within, get_or_from_slice_get, same_Some}
use Rattle.cct_model.specs.terms.device.DeviceSetup.{DeviceSetup}
use Rattle.cct_model.specs.terms.device.Setup.{Setup}
use Rattle.cct_model.specs.lines.record.Record.{Record}
use Rattle.cct_model.specs.lines.record.Record.TheVariants as record_of
use Rattle.cct_model.specs.declared.judging.OpenOrder.{OpenOrder}
use Rattle.cct_model.specs.Setup.{AreDistinct}
use Rattle.cct_model.specs.Order.{order_by}
use Rattle.cct_model.specs.Records.{named_by, order_named, hopper_of, opened_in, owner_in, order_in, is_open_by, is_open}
use Rattle.cct_model.specs.Money.{amount, owed_in}
use Rattle.cct_model.proofs.OpenOrders.{order_next, order_own, order_else}
use Rattle.cct_ledger.specs.Orders.{has_id, IsHopperAt, KeepsOrders}
use Rattle.cct_ledger.proofs.Lists.{any_set, set_cases, none_get}
use Rattle.cct_ledger.proofs.Positions.{any_at}
use Rattle.cct_ledger.proofs.Places.{same_place, map_same, map_set, sum_over-map}

-- the open order at an address is one of that address

by_record : (addr : ℕ) (r : Record) (was : Option OpenOrder) (o : OpenOrder) (owner : ℕ) → owner ≡ addr →
    ((id a count life : ℕ) → r ≡ record_of.Opened id a count life → owner ≡ a) → order_by r was ≡ Some o →
    (was ≡ Some o → o.addr ≡ addr) → o.addr ≡ addr
by_record addr (record_of.Opened id a count life) was o owner own opened is before =
    let same : record { id = id; addr = a; count = count; life = life } ≡ o = cc in
    ap (λ (x : OpenOrder). x.addr) (sym same) ∙ sym (opened id a count life refl) ∙ own
by_record addr (record_of.Closed id paid unpaid) was o owner own opened is before = absurd cc
by_record addr (record_of.Odd id life_before life_after) was o owner own opened is before = absurd cc
by_record addr r was o owner own opened is before = before is

owner_opened : (before : List Record) (r : Record) (id a count life : ℕ) → r ≡ record_of.Opened id a count life →
    owner_in before r ≡ a
owner_opened before r id a count life same = ap (owner_in before) same

pub order_here : (addr : ℕ) (before : List Record) (o : OpenOrder) → order_in addr before ≡ Some o → o.addr ≡ addr
order_here addr [] o is = absurd cc
order_here addr (r ∷ before) o is =
    by_here (owner_in before r == addr) refl (sym (order_next addr r before) ∙ is) (λ was. order_here addr before o was)
  where
    by_here : (here : Bool) → (owner_in before r == addr) ≡ here →
        cond here (order_by r (order_in addr before)) (order_in addr before) ≡ Some o →
        (order_in addr before ≡ Some o → o.addr ≡ addr) → o.addr ≡ addr
    by_here true test found was =
        by_record addr r (order_in addr before) o (owner_in before r) (eqb-true (owner_in before r) addr test)
        (owner_opened before r) found was
    by_here false test found was = was found

-- the open orders of all devices
abbrev pub orders_in : Setup → List Record → List (Option OpenOrder)
orders_in setup before = map (λ d. order_in d.addr before) setup.devices

-- the device at whose place an order is kept
record IsOf (setup : Setup) (before : List Record) (place : ℕ) (o : OpenOrder) : Type 0 where
  device : DeviceSetup
  there : slice_get setup.devices place ≡ Some device
  here : o.addr ≡ device.addr

of_device : (setup : Setup) (before : List Record) (place : ℕ) (o : OpenOrder) (found : Option DeviceSetup) →
    slice_get setup.devices place ≡ found → option_map (λ d. order_in d.addr before) found ≡ Some (Some o) →
    IsOf setup before place o
of_device setup before place o None is at = absurd cc
of_device setup before place o (Some d) is at =
    let own : order_in d.addr before ≡ Some o = cc in
    record { device = d; there = is; here = order_here d.addr before o own }

is_of : (setup : Setup) (before : List Record) (orders : List (Option OpenOrder)) (place : ℕ) (o : OpenOrder) →
    KeepsOrders setup before orders → slice_get orders place ≡ Some (Some o) → IsOf setup before place o
is_of setup before orders place o keeps is =
    of_device setup before place o (slice_get setup.devices place) refl
    (sym (slice_get-map (λ (d : DeviceSetup). order_in d.addr before) setup.devices place)
    ∙ ap (λ (os : List (Option OpenOrder)). slice_get os place) (sym keeps.at_devices) ∙ is)

-- before any record

none_has : (id : ℕ) (ds : List DeviceSetup) → list_any (has_id id) (map (λ (d : DeviceSetup). None) ds) ≡ false
none_has id [] = refl
none_has id (d ∷ ds) = none_has id ds

none_kept : (ds : List DeviceSetup) (place : ℕ) (o : OpenOrder) →
    slice_get (map (λ (d : DeviceSetup). None) ds) place ≡ Some (Some o) → ⊥
none_kept [] place o is = cc
none_kept (d ∷ ds) zero o is = cc
none_kept (d ∷ ds) (suc place) o is = none_kept ds place o is

pub keeps_first : (setup : Setup) → KeepsOrders setup [] (map (λ (d : DeviceSetup). None) setup.devices)
keeps_first setup = record {
  at_devices = refl;
  opened = λ id. sym (none_has id setup.devices);
  named = λ place o is. absurd (none_kept setup.devices place o is);
}

-- by a record that opens and closes nothing

pub record OpensNone (r : Record) : Type 0 where
  pub order : (o : Option OpenOrder) → order_by r o ≡ o
  pub opens : (id : ℕ) (b : Bool) → is_open_by id r b ≡ b
  pub names : (id : ℕ) (o : Option OpenOrder) → named_by id r o ≡ o

order_same : (addr : ℕ) (r : Record) (before : List Record) → OpensNone r →
    order_in addr (r ∷ before) ≡ order_in addr before
order_same addr r before none = order_next addr r before ∙ same (owner_in before r == addr)
  where
    same : (here : Bool) → cond here (order_by r (order_in addr before)) (order_in addr before) ≡ order_in addr before
    same true = none.order (order_in addr before)
    same false = refl

pub keeps_same : (setup : Setup) (r : Record) (before : List Record) (orders : List (Option OpenOrder)) → OpensNone r →
    KeepsOrders setup before orders → KeepsOrders setup (r ∷ before) orders
keeps_same setup r before orders none keeps = record {
  at_devices = keeps.at_devices
      ∙ map_same (λ (d : DeviceSetup). order_in d.addr before) (λ (d : DeviceSetup). order_in d.addr (r ∷ before))
      setup.devices
      (λ d. order_same d.addr r before none);
  opened = λ id. none.opens id (is_open id before) ∙ keeps.opened id;
  named = λ place o is. none.names o.id (order_named o.id before) ∙ keeps.named place o is;
}

-- by one that opens an order at a hopper that has none, with an id that no open order has

abbrev pub order_as : ℕ → ℕ → ℕ → ℕ → OpenOrder
order_as id addr count life = record { id = id; addr = addr; count = count; life = life }

-- the order that a record names
named_new : (id addr count life other : ℕ) (was : Option OpenOrder) → id ≡ other →
    named_by other (record_of.Opened id addr count life) was ≡ Some (order_as id addr count life)
named_new id addr count life other was same =
    ap (λ b. cond b (Some (order_as id addr count life)) was) (eq-eqb id other same)

named_else : (id addr count life other : ℕ) (was : Option OpenOrder) → id ≢ other →
    named_by other (record_of.Opened id addr count life) was ≡ was
named_else id addr count life other was apart =
    ap (λ b. cond b (Some (order_as id addr count life)) was) (ne_eqb id other apart)

-- which orders are then open by their ids
opened_after : (before : List Record) (orders : List (Option OpenOrder)) (place id addr count life other : ℕ) →
    slice_get orders place ≡ Some None → is_open other before ≡ list_any (has_id other) orders →
    is_open other (record_of.Opened id addr count life ∷ before)
    ≡ list_any (has_id other) (set orders place (Some (order_as id addr count life)))
opened_after before orders place id addr count life other none was =
    by_test (id == other) was
    ∙ sym (any_set (has_id other) orders place None (Some (order_as id addr count life)) none refl)
  where
    by_test : (here : Bool) → is_open other before ≡ list_any (has_id other) orders →
        cond here true (is_open other before) ≡ (here || list_any (has_id other) orders)
    by_test true same = refl
    by_test false same = same

-- which orders the ids then name
named_after : (before : List Record) (orders : List (Option OpenOrder)) (id addr count life place : ℕ) (o : OpenOrder) →
    list_any (has_id id) orders ≡ false →
    (slice_get orders place ≡ Some (Some o) → order_named o.id before ≡ Some o) →
    (Some o ≡ Some (order_as id addr count life)) ⊎ (slice_get orders place ≡ Some (Some o)) →
    order_named o.id (record_of.Opened id addr count life ∷ before) ≡ Some o
named_after before orders id addr count life place o unopened was (inl same) =
    let own : o ≡ order_as id addr count life = same_Some o (order_as id addr count life) same in
    let ids : o.id ≡ id = ap (λ (x : OpenOrder). x.id) own in
    named_new id addr count life o.id (order_named o.id before) (sym ids) ∙ sym same
named_after before orders id addr count life place o unopened was (inr is) =
    let apart : id ≢ o.id =
    λ same. true≢false (sym (any_at (has_id id) orders place (Some o) is (eq-eqb o.id id (sym same))) ∙ unopened) in
    named_else id addr count life o.id (order_named o.id before) apart ∙ was is

either : {A B C : Type 0} → A ⊎ (B × C) → A ⊎ C
either (inl a) = inl a
either (inr both) = inr both.1

pub keeps_opened : (setup : Setup) (before : List Record) (orders : List (Option OpenOrder))
    (place id addr count life : ℕ) →
    AreDistinct setup.devices → IsHopperAt setup.devices addr place → slice_get orders place ≡ Some None →
    list_any (has_id id) orders ≡ false → KeepsOrders setup before orders →
    KeepsOrders setup (record_of.Opened id addr count life ∷ before)
    (set orders place (Some (order_as id addr count life)))
keeps_opened setup before orders place id addr count life distinct at none unopened keeps =
    let r : Record = record_of.Opened id addr count life in
    let new : Option OpenOrder = Some (order_as id addr count life) in
    record {
      at_devices = ap (λ (os : List (Option OpenOrder)). set os place new) keeps.at_devices
          ∙ map_set (λ (d : DeviceSetup). order_in d.addr before) (λ (d : DeviceSetup). order_in d.addr (r ∷ before))
          setup.devices place at.device new distinct at.there (order_own at.device.addr r before (sym at.here))
          (λ e other. order_else e.addr r before (λ same. other (sym same ∙ sym at.here)));
      opened = λ other. opened_after before orders place id addr count life other none (keeps.opened other);
      named = λ p o is. named_after before orders id addr count life p o unopened (keeps.named p o)
          (either (set_cases orders place p new (Some o) is));
    }

-- by one that closes an open order

pub record Closes (before : List Record) (r : Record) (id : ℕ) : Type 0 where
  pub order : (o : Option OpenOrder) → order_by r o ≡ None
  pub opens : (other : ℕ) (b : Bool) → is_open_by other r b ≡ cond (id == other) false b
  pub names : (other : ℕ) (o : Option OpenOrder) → named_by other r o ≡ o
  pub owner : owner_in before r ≡ opened_in id before

-- two open orders with one id are at one place
one_place : (setup : Setup) (before : List Record) (orders : List (Option OpenOrder)) (place other : ℕ)
    (o x : OpenOrder) →
    AreDistinct setup.devices → KeepsOrders setup before orders → slice_get orders place ≡ Some (Some o) →
    slice_get orders other ≡ Some (Some x) → x.id ≡ o.id → other ≡ place
one_place setup before orders place other o x distinct keeps is at same =
    let own = is_of setup before orders place o keeps is in
    let its = is_of setup before orders other x keeps at in
    let one : x ≡ o =
    same_Some x o
    (sym (keeps.named other x at) ∙ ap (λ id. order_named id before) same ∙ keeps.named place o is) in
    same_place setup.devices other place its.device own.device distinct its.there own.there
    (sym its.here ∙ ap (λ (y : OpenOrder). y.addr) one ∙ own.here)

-- so none has the id of one that is closed
none_left : (setup : Setup) (before : List Record) (orders : List (Option OpenOrder)) (place id : ℕ) (o : OpenOrder) →
    AreDistinct setup.devices → KeepsOrders setup before orders → slice_get orders place ≡ Some (Some o) → o.id ≡ id →
    list_any (has_id id) (set orders place None) ≡ false
none_left setup before orders place id o distinct keeps is own =
    none_get (has_id id) (set orders place None) (λ j x at. by_case j x (set_cases orders place j None x at))
  where
    by_test : (j : ℕ) (x : OpenOrder) (here : Bool) → (x.id == id) ≡ here → j ≢ place →
        slice_get orders j ≡ Some (Some x) → here ≡ false
    by_test j x true test other at =
        absurd (other (one_place setup before orders place j o x distinct keeps is at
        (eqb-true x.id id test ∙ sym own)))
    by_test j x false test other at = refl

    by_case : (j : ℕ) (x : Option OpenOrder) → (x ≡ None) ⊎ ((j ≢ place) × (slice_get orders j ≡ Some x)) →
        has_id id x ≡ false
    by_case j None found = refl
    by_case j (Some x) (inl same) = absurd cc
    by_case j (Some x) (inr both) = by_test j x (x.id == id) refl both.0 both.1

closed_after : (setup : Setup) (before : List Record) (r : Record) (orders : List (Option OpenOrder))
    (place id other : ℕ)
    (o : OpenOrder) → AreDistinct setup.devices → KeepsOrders setup before orders → Closes before r id →
    slice_get orders place ≡ Some (Some o) → o.id ≡ id →
    is_open other (r ∷ before) ≡ list_any (has_id other) (set orders place None)
closed_after setup before r orders place id other o distinct keeps closes is own =
    closes.opens other (is_open other before) ∙ by_test (id == other) refl
  where
    by_test : (here : Bool) → (id == other) ≡ here →
        cond here false (is_open other before) ≡ list_any (has_id other) (set orders place None)
    by_test true test =
        sym (none_left setup before orders place other o distinct keeps is (own ∙ eqb-true id other test))
    by_test false test =
        keeps.opened other
        ∙ sym (any_set (has_id other) orders place (Some o) None is (ap (λ n. n == other) own ∙ test))

pub keeps_closed : (setup : Setup) (before : List Record) (r : Record) (orders : List (Option OpenOrder)) (place id : ℕ)
    (o : OpenOrder) → AreDistinct setup.devices → Closes before r id → slice_get orders place ≡ Some (Some o) →
    o.id ≡ id → KeepsOrders setup before orders → KeepsOrders setup (r ∷ before) (set orders place None)
keeps_closed setup before r orders place id o distinct closes is own keeps =
    let at = is_of setup before orders place o keeps is in
    let owner : owner_in before r ≡ at.device.addr =
    closes.owner ∙ ap (λ n. opened_in n before) (sym own) ∙ ap hopper_of (keeps.named place o is) ∙ at.here in
    record {
      at_devices = ap (λ (os : List (Option OpenOrder)). set os place None) keeps.at_devices
          ∙ map_set (λ (d : DeviceSetup). order_in d.addr before) (λ (d : DeviceSetup). order_in d.addr (r ∷ before))
          setup.devices place at.device None distinct at.there
          (order_own at.device.addr r before owner ∙ closes.order (order_in at.device.addr before))
          (λ e other. order_else e.addr r before (λ same. other (sym same ∙ owner)));
      opened = λ other. closed_after setup before r orders place id other o distinct keeps closes is own;
      named = λ p x later. closes.names x.id (order_named x.id before)
          ∙ by_case p x (set_cases orders place p None (Some x) later);
    }
  where
    by_case : (p : ℕ) (x : OpenOrder) → (Some x ≡ None) ⊎ ((p ≢ place) × (slice_get orders p ≡ Some (Some x))) →
        order_named x.id before ≡ Some x
    by_case p x (inl same) = absurd cc
    by_case p x (inr both) = keeps.named p x both.1

-- what the open orders reserve

pub owed_kept : (setup : Setup) (before : List Record) (orders : List (Option OpenOrder)) →
    KeepsOrders setup before orders →
    owed_in setup before ≡ sum_by (amount setup) orders
owed_kept setup before orders keeps =
    sum_over-map (amount setup) (λ (d : DeviceSetup). order_in d.addr before) setup.devices
    ∙ ap (λ (os : List (Option OpenOrder)). sum_by (amount setup) os) (sym keeps.at_devices)

pub owed_set : (setup : Setup) (orders : List (Option OpenOrder)) (place : ℕ) (was now : Option OpenOrder) →
    slice_get orders place ≡ Some was →
    sum_by (amount setup) (set orders place now) + amount setup was ≡ sum_by (amount setup) orders + amount setup now
owed_set setup orders place was now is =
    ap (λ (x : Option OpenOrder). sum_by (amount setup) (set orders place now) + amount setup x)
    (sym (get_or_from_slice_get orders place was None is))
    ∙ sum_by-set (amount setup) orders place now None (slice_get_within orders place was is)

pub owed_next : (setup : Setup) (before : List Record) (r : Record) (orders : List (Option OpenOrder)) (place : ℕ)
    (was now : Option OpenOrder) → KeepsOrders setup before orders →
    KeepsOrders setup (r ∷ before) (set orders place now) →
    slice_get orders place ≡ Some was →
    owed_in setup (r ∷ before) + amount setup was ≡ owed_in setup before + amount setup now
owed_next setup before r orders place was now keeps later is =
    ap (λ n. n + amount setup was) (owed_kept setup (r ∷ before) (set orders place now) later)
    ∙ owed_set setup orders place was now is
    ∙ ap (λ n. n + amount setup now) (sym (owed_kept setup before orders keeps))

-- before any record nothing is reserved

none_worth : (setup : Setup) (ds : List DeviceSetup) → sum_by (amount setup) (map (λ (d : DeviceSetup). None) ds) ≡ 0
none_worth setup [] = refl
none_worth setup (d ∷ ds) =
    sum_by-cons (amount setup) None (map (λ (e : DeviceSetup). None) ds) ∙ ap (λ n. 0 + n) (none_worth setup ds)

pub first_worth : (setup : Setup) (orders : List (Option OpenOrder)) →
    orders ≡ map (λ (d : DeviceSetup). None) setup.devices → sum_by (amount setup) orders ≡ 0
first_worth setup orders is =
    ap (λ (os : List (Option OpenOrder)). sum_by (amount setup) os) is ∙ none_worth setup setup.devices

pub first_owed : (setup : Setup) → owed_in setup [] ≡ 0
first_owed setup =
    owed_kept setup [] (map (λ (d : DeviceSetup). None) setup.devices) (keeps_first setup)
    ∙ none_worth setup setup.devices
