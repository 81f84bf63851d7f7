-- The orders that records show: an order that is open by its id is the open one of its hopper, and
-- no other is.
use Rattle.std.proofs.Common.{◌≡◌, ◌≢◌, ℕ, ◌≤◌, ◌<◌, ◌==◌, Bool, true, false, cond, List, [], ◌∷◌, refl, ap, sym, ◌∙◌, subst, Option, Some, None, is_none, not, leb-true, ◌⊎◌, inl, inr, arith, true≢false, eq-eqb, eqb-true}
use Rattle.std.specs.List.{list_any}
use Rattle.std.proofs.lemmas.Bool.{and_parts, cases_eq, ne_eqb}
use Rattle.cct_model.specs.terms.device.Setup.{Setup}
use Rattle.cct_model.specs.lines.record.Record.{Record}
use Rattle.cct_model.specs.lines.record.Record.TheVariants as record_of
use Rattle.cct_model.specs.declared.judging.OpenOrder.{OpenOrder}
use Rattle.cct_model.specs.Exchange.{device_at, hopper_there}
use Rattle.cct_model.specs.Order.{order_by}
use Rattle.cct_model.specs.Records.{named_by, order_named, hopper_of, opened_in, owner_in, order_in, is_open_by, is_open, greatest_id}
use Rattle.cct_model.specs.Money.{coins_of, available_in}
use Rattle.cct_model.specs.Paid.{uses}
use Rattle.cct_model.specs.Following.{follows, all_follow}
use Rattle.cct_model.proofs.OpenOrders.{order_next, order_own, order_else}
use Rattle.cct_laws.proofs.setups.DeviceAt.{same_some}

-- the open order at an address after one record more

-- a record that opens and closes nothing
pub order_kept : (addr : ℕ) (r : Record) (before : List Record) → ((o : Option OpenOrder) → order_by r o ≡ o) →
    order_in addr (r ∷ before) ≡ order_in addr before
order_kept addr r before keeps =
    order_next addr r before
    ∙ same (owner_in before r == addr)
  where
    same : (here : Bool) → cond here (order_by r (order_in addr before)) (order_in addr before) ≡ order_in addr before
    same true = keeps (order_in addr before)
    same false = refl

-- the order that a record opens
abbrev pub order_as : ℕ → ℕ → ℕ → ℕ → OpenOrder
order_as id addr count life = record { id = id; addr = addr; count = count; life = life }

-- an order that an id names has that id, and no greater one was used

pub named_id : (id : ℕ) (before : List Record) (o : OpenOrder) → order_named id before ≡ Some o → o.id ≡ id
named_id id [] o is = absurd cc
named_id id (record_of.Opened opened addr count life ∷ before) o is =
    by_here (opened == id) refl is (λ later. named_id id before o later)
  where
    by_here : (here : Bool) → (opened == id) ≡ here →
        cond here (Some (order_as opened addr count life)) (order_named id before) ≡ Some o →
        (order_named id before ≡ Some o → o.id ≡ id) → o.id ≡ id
    by_here true test found later =
        let new : OpenOrder = order_as opened addr count life in
        sym (ap (λ (x : OpenOrder). x.id) (same_some new o found)) ∙ eqb-true opened id test
    by_here false test found later = later found
named_id id (r ∷ before) o is = named_id id before o is

-- an id above all that were used is used by no record
pub unused_above : (id : ℕ) (before : List Record) → greatest_id before < id → list_any (uses id) before ≡ false
unused_above id [] above = refl
unused_above id (record_of.Opened used addr count life ∷ before) above =
    let other : used ≢ id = λ same. omega arith in
    let rest : list_any (uses id) before ≡ false = unused_above id before (omega arith) in
    rw (ne_eqb used id other) rest
unused_above id (record_of.Sold used price ∷ before) above =
    let other : used ≢ id = λ same. omega arith in
    let rest : list_any (uses id) before ≡ false = unused_above id before (omega arith) in
    rw (ne_eqb used id other) rest
unused_above id (r ∷ before) above = unused_above id before (omega arith)

-- an order that is open by its id is the open one of its hopper
pub record IsNamed (before : List Record) (id : ℕ) : Type 0 where
  pub order_is : OpenOrder
  pub named : order_named id before ≡ Some order_is
  pub at_hopper : order_in order_is.addr before ≡ Some order_is

-- the open order at an address is one of that address, open by its id, at a hopper of the setup
pub record IsOwned (setup : Setup) (before : List Record) (addr : ℕ) (o : OpenOrder) : Type 0 where
  pub here : o.addr ≡ addr
  pub named : order_named o.id before ≡ Some o
  pub is_open : is_open o.id before ≡ true
  pub hopper : hopper_there (device_at setup.devices addr) ≡ true

pub record Belongs (setup : Setup) (before : List Record) : Type 0 where
  pub named : (id : ℕ) → is_open id before ≡ true → IsNamed before id
  pub owned : (addr : ℕ) (o : OpenOrder) → order_in addr before ≡ Some o → IsOwned setup before addr o

pub belongs_first : (setup : Setup) → Belongs setup []
belongs_first setup = record { named = λ id open_is. absurd (true≢false (sym open_is)); owned = λ addr o is. absurd cc }

-- a record that opens and closes nothing
belongs_kept : (setup : Setup) (before : List Record) (r : Record) → ((o : Option OpenOrder) → order_by r o ≡ o) →
    ((id : ℕ) (b : Bool) → is_open_by id r b ≡ b) → ((id : ℕ) (o : Option OpenOrder) → named_by id r o ≡ o) →
    Belongs setup before → Belongs setup (r ∷ before)
belongs_kept setup before r keeps opens names belongs = record {
  named = λ id open_is.
      let was = belongs.named id (sym (opens id (is_open id before)) ∙ open_is) in
      record {
        order_is = was.order_is;
        named = names id (order_named id before) ∙ was.named;
        at_hopper = order_kept was.order_is.addr r before keeps ∙ was.at_hopper;
      };
  owned = λ addr o is.
      let was = belongs.owned addr o (sym (order_kept addr r before keeps) ∙ is) in
      record {
        here = was.here;
        named = names o.id (order_named o.id before) ∙ was.named;
        is_open = opens o.id (is_open o.id before) ∙ was.is_open;
        hopper = was.hopper;
      };
}

-- a record that opens an order
belongs_opened : (setup : Setup) (before : List Record) (id addr count life : ℕ) →
    hopper_there (device_at setup.devices addr) ≡ true → order_in addr before ≡ None → is_open id before ≡ false →
    Belongs setup before → Belongs setup (record_of.Opened id addr count life ∷ before)
belongs_opened setup before id addr count life hopper none unopened belongs = record {
  named = λ other open_is. named_after other (id == other) refl open_is;
  owned = λ a o is. owned_after a o is (cases_eq addr a);
}
  where
    order_is_new : order_in addr (record_of.Opened id addr count life ∷ before) ≡ Some (order_as id addr count life)
    order_is_new = order_own addr (record_of.Opened id addr count life) before refl

    named_after : (other : ℕ) (here : Bool) → (id == other) ≡ here → cond here true (is_open other before) ≡ true →
        IsNamed (record_of.Opened id addr count life ∷ before) other
    named_after other true test open_is = record {
      order_is = order_as id addr count life;
      named = ap (λ b. cond b (Some (order_as id addr count life)) (order_named other before)) test;
      at_hopper = order_is_new;
    }
    named_after other false test open_is =
        let was = belongs.named other open_is in
        let apart : addr ≢ was.order_is.addr =
        λ same. let both : None ≡ Some was.order_is = sym none ∙ ap (λ a. order_in a before) same ∙ was.at_hopper in
        cc in
        record {
          order_is = was.order_is;
          named = ap (λ b. cond b (Some (order_as id addr count life)) (order_named other before)) test
              ∙ was.named;
          at_hopper = order_else was.order_is.addr (record_of.Opened id addr count life) before apart ∙ was.at_hopper;
        }

    own_order : IsOwned setup (record_of.Opened id addr count life ∷ before) addr (order_as id addr count life)
    own_order = record {
      here = refl;
      named = ap (λ b. cond b (Some (order_as id addr count life)) (order_named id before))
          (eq-eqb id id refl);
      is_open = ap (λ b. cond b true (is_open id before)) (eq-eqb id id refl);
      hopper = hopper;
    }

    owned_after : (a : ℕ) (o : OpenOrder) → order_in a (record_of.Opened id addr count life ∷ before) ≡ Some o →
        (addr ≡ a) ⊎ (addr ≢ a) → IsOwned setup (record_of.Opened id addr count life ∷ before) a o
    owned_after a o is (inl same) =
        let found : Some (order_as id addr count life) ≡ Some o =
        sym order_is_new ∙ ap (λ x. order_in x (record_of.Opened id addr count life ∷ before)) same ∙ is in
        subst (λ x. IsOwned setup (record_of.Opened id addr count life ∷ before) x o) same
        (subst (λ x. IsOwned setup (record_of.Opened id addr count life ∷ before) addr x)
        (same_some (order_as id addr count life) o found) own_order)
    owned_after a o is (inr other) =
        let was = belongs.owned a o (sym (order_else a (record_of.Opened id addr count life) before other) ∙ is) in
        let apart : id ≢ o.id =
        λ same. true≢false (sym was.is_open ∙ ap (λ x. is_open x before) (sym same) ∙ unopened) in
        record {
          here = was.here;
          named = ap (λ b. cond b (Some (order_as id addr count life)) (order_named o.id before))
              (ne_eqb id o.id apart) ∙ was.named;
          is_open = ap (λ b. cond b true (is_open o.id before)) (ne_eqb id o.id apart) ∙ was.is_open;
          hopper = was.hopper;
        }

-- a record that closes an order
belongs_closed : (setup : Setup) (before : List Record) (r : Record) (id : ℕ) →
    ((o : Option OpenOrder) → order_by r o ≡ None) →
    ((other : ℕ) (b : Bool) → is_open_by other r b ≡ cond (id == other) false b) →
    ((other : ℕ) (o : Option OpenOrder) → named_by other r o ≡ o) → owner_in before r ≡ opened_in id before →
    is_open id before ≡ true → Belongs setup before → Belongs setup (r ∷ before)
belongs_closed setup before r id closes opens names owner_is open_is belongs = record {
  named = λ other later. named_after other (id == other) refl (sym (opens other (is_open other before)) ∙ later);
  owned = λ a o is. owned_after a o is (cases_eq own.order_is.addr a);
}
  where
    own : IsNamed before id
    own = belongs.named id open_is

    owner_here : owner_in before r ≡ (belongs.named id open_is).order_is.addr
    owner_here = owner_is ∙ ap hopper_of (belongs.named id open_is).named

    same_order : (other : OpenOrder) → order_in other.addr before ≡ Some other →
        (belongs.named id open_is).order_is.addr ≡ other.addr → (belongs.named id open_is).order_is ≡ other
    same_order other at_other same =
        same_some (belongs.named id open_is).order_is other
        (sym (belongs.named id open_is).at_hopper ∙ ap (λ a. order_in a before) same ∙ at_other)

    named_after : (other : ℕ) (here : Bool) → (id == other) ≡ here → cond here false (is_open other before) ≡ true →
        IsNamed (r ∷ before) other
    named_after other true test later = absurd (true≢false (sym later))
    named_after other false test later =
        let was = belongs.named other later in
        let apart : owner_in before r ≢ was.order_is.addr =
        λ same.
        let one = same_order was.order_is was.at_hopper (sym owner_here ∙ same) in
        let ids : id ≡ other =
        sym (named_id id before (belongs.named id open_is).order_is (belongs.named id open_is).named)
        ∙ ap (λ (o : OpenOrder). o.id) one ∙ named_id other before was.order_is was.named in
        true≢false (sym (eq-eqb id other ids) ∙ test) in
        record {
          order_is = was.order_is;
          named = names other (order_named other before) ∙ was.named;
          at_hopper = order_else was.order_is.addr r before apart ∙ was.at_hopper;
        }

    owned_after : (a : ℕ) (o : OpenOrder) → order_in a (r ∷ before) ≡ Some o →
        ((belongs.named id open_is).order_is.addr ≡ a) ⊎ ((belongs.named id open_is).order_is.addr ≢ a) →
        IsOwned setup (r ∷ before) a o
    owned_after a o is (inl same) =
        let none : None ≡ Some o =
        sym (order_own a r before (owner_here ∙ same) ∙ closes (order_in a before)) ∙ is in
        absurd cc
    owned_after a o is (inr other) =
        let was = belongs.owned a o (sym (order_else a r before (λ same. other (sym owner_here ∙ same))) ∙ is) in
        let apart : id ≢ o.id =
        λ same.
        let one : (belongs.named id open_is).order_is ≡ o =
        same_some (belongs.named id open_is).order_is o
        (sym (belongs.named id open_is).named ∙ ap (λ x. order_named x before) same ∙ was.named) in
        other (ap (λ (x : OpenOrder). x.addr) one ∙ was.here) in
        record {
          here = was.here;
          named = names o.id (order_named o.id before) ∙ was.named;
          is_open = opens o.id (is_open o.id before)
              ∙ ap (λ b. cond b false (is_open o.id before)) (ne_eqb id o.id apart) ∙ was.is_open;
          hopper = was.hopper;
        }

-- what a record that follows says

pub record OpensAt (setup : Setup) (before : List Record) (id addr count : ℕ) : Type 0 where
  pub hopper : hopper_there (device_at setup.devices addr) ≡ true
  pub none : order_in addr before ≡ None
  pub unopened : is_open id before ≡ false
  pub affords : coins_of setup addr count ≤ available_in setup before

none_there : (o : Option OpenOrder) → is_none o ≡ true → o ≡ None
none_there None test = refl
none_there (Some o) test = absurd (true≢false (sym test))

not_true : (b : Bool) → not b ≡ true → b ≡ false
not_true false test = refl
not_true true test = absurd (true≢false (sym test))

pub opens_at : (setup : Setup) (before : List Record) (id addr count life : ℕ) →
    follows setup before (record_of.Opened id addr count life) ≡ true → OpensAt setup before id addr count
opens_at setup before id addr count life ok =
    let sixth = and_parts _ _ ok in
    let fifth = and_parts _ _ sixth.0 in
    let fourth = and_parts _ _ fifth.0 in
    let third = and_parts _ _ fourth.0 in
    let second = and_parts _ _ third.0 in
    record {
      hopper = second.0;
      none = none_there (order_in addr before) second.1;
      unopened = not_true (is_open id before) fourth.1;
      affords = leb-true _ _ sixth.1;
    }

-- so orders belong along records that follow one another
belongs_next : (setup : Setup) (before : List Record) (r : Record) → follows setup before r ≡ true →
    Belongs setup before → Belongs setup (r ∷ before)
belongs_next setup before (record_of.Opened id addr count life) ok belongs =
    let at = opens_at setup before id addr count life ok in
    belongs_opened setup before id addr count life at.hopper at.none at.unopened belongs
belongs_next setup before (record_of.Closed id paid unpaid) ok belongs =
    belongs_closed setup before (record_of.Closed id paid unpaid) id (λ o. refl) (λ other b. refl) (λ other o. refl)
    refl
    (and_parts _ _ ok).0 belongs
belongs_next setup before (record_of.Odd id life_before life_after) ok belongs =
    belongs_closed setup before (record_of.Odd id life_before life_after) id (λ o. refl) (λ other b. refl)
    (λ other o. refl)
    refl ok belongs
belongs_next setup before r ok belongs =
    belongs_kept setup before r (λ o. refl) (λ id b. refl) (λ id o. refl) belongs

pub belongs_all : (setup : Setup) (before : List Record) → all_follow setup before ≡ true → Belongs setup before
belongs_all setup [] ok = belongs_first setup
belongs_all setup (r ∷ before) ok =
    let parts = and_parts _ _ ok in
    belongs_next setup before r parts.0 (belongs_all setup before parts.1)
