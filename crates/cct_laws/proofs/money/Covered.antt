-- What is posted covers what is reserved, paid and sold, along records that follow one another.
use Rattle.std.proofs.Common.{◌≡◌, ℕ, ◌+◌, ◌≤◌, ◌==◌, ◌&&◌, not, nat_le, true, List, [], ◌∷◌, refl, ap, sym, ◌∙◌, subst, Some, None, arith, leb-true, eqb-true}
use Rattle.std.proofs.lemmas.Bool.{and_parts}
use Rattle.cct_model.specs.terms.device.Setup.{Setup}
use Rattle.cct_model.specs.lines.record.Record.{Record}
use Rattle.cct_model.specs.lines.record.Record.TheVariants as record_of
use Rattle.cct_model.specs.declared.judging.OpenOrder.{OpenOrder}
use Rattle.cct_model.specs.Setup.{AreDistinct}
use Rattle.cct_model.specs.Records.{order_named, hopper_of, opened_in, order_in, is_open}
use Rattle.cct_model.specs.Money.{coins_of, amount, posted_in, paid_in, sold_in, odd_by, owed_in, reserved_in, available_in}
use Rattle.cct_model.specs.Following.{count_of, follows, all_follow}
use Rattle.cct_laws.proofs.money.Sums.{sum_none}
use Rattle.cct_laws.proofs.orders.Orders.{Belongs, belongs_all, OpensAt, opens_at}
use Rattle.cct_laws.proofs.money.SumsOfRecords.{HopperAt, hopper_at, owed_kept, owed_opened, owed_closed, closed_worth}

-- what the records reserve, what they say was paid, and the prices of sales
abbrev pub spoken_in : Setup → List Record → ℕ
spoken_in setup before = reserved_in setup before + paid_in setup before + sold_in before

abbrev pub IsCovered : Setup → List Record → Type 0
IsCovered setup before = spoken_in setup before ≤ posted_in setup before

-- the order that a record closes, at its hopper
pub record Closes (setup : Setup) (before : List Record) (id : ℕ) : Type 0 where
  pub order_is : OpenOrder
  pub named : order_named id before ≡ Some order_is
  pub there : HopperAt setup order_is.addr
  pub owner : opened_in id before ≡ there.device.addr
  pub at_hopper : order_in there.device.addr before ≡ Some order_is

pub closes_at : (setup : Setup) (before : List Record) (id : ℕ) → is_open id before ≡ true → Belongs setup before →
    Closes setup before id
closes_at setup before id open_is belongs =
    let own = belongs.named id open_is in
    let there = hopper_at setup own.order_is.addr (belongs.owned own.order_is.addr own.order_is own.at_hopper).hopper in
    record {
      order_is = own.order_is;
      named = own.named;
      there = there;
      owner = ap hopper_of own.named ∙ sym there.here;
      at_hopper = ap (λ a. order_in a before) there.here ∙ own.at_hopper;
    }

-- how each record that follows changes what is spoken for, in numbers

pub opened_spoken : (setup : Setup) (before : List Record) (id addr count life : ℕ) → AreDistinct setup.devices →
    OpensAt setup before id addr count →
    spoken_in setup (record_of.Opened id addr count life ∷ before) ≡ spoken_in setup before + coins_of setup addr count
opened_spoken setup before id addr count life distinct at =
    let there = hopper_at setup addr at.hopper in
    let owed : owed_in setup (record_of.Opened id addr count life ∷ before) ≡ owed_in setup before
    + coins_of setup addr count =
    subst (λ a. order_in a before ≡ None → owed_in setup (record_of.Opened id a count life ∷ before)
    ≡ owed_in setup before + coins_of setup a count)
    there.here (owed_opened setup there.device before id count life distinct there.is_of) at.none in
    omega arith

pub closed_spoken : (setup : Setup) (before : List Record) (id paid unpaid : ℕ) → AreDistinct setup.devices →
    (at : Closes setup before id) → paid + unpaid ≡ at.order_is.count →
    spoken_in setup (record_of.Closed id paid unpaid ∷ before) + coins_of setup at.order_is.addr unpaid
    ≡ spoken_in setup before
closed_spoken setup before id paid unpaid distinct at all =
    let owed =
    owed_closed setup at.there.device (record_of.Closed id paid unpaid) before at.order_is distinct at.there.is_of
    at.owner
    (λ x. refl) at.at_hopper in
    let worth = closed_worth setup before id paid unpaid at.order_is at.named all in
    omega arith

pub odd_spoken : (setup : Setup) (before : List Record) (id life_before life_after : ℕ) → AreDistinct setup.devices →
    Closes setup before id →
    spoken_in setup (record_of.Odd id life_before life_after ∷ before) ≡ spoken_in setup before
odd_spoken setup before id life_before life_after distinct at =
    let owed =
    owed_closed setup at.there.device (record_of.Odd id life_before life_after) before at.order_is distinct
    at.there.is_of
    at.owner (λ x. refl) at.at_hopper in
    let odd : odd_by setup before (record_of.Odd id life_before life_after) ≡ amount setup (Some at.order_is) =
    ap (amount setup) at.named in
    omega arith

pub sold_spoken : (setup : Setup) (before : List Record) (id price : ℕ) →
    spoken_in setup (record_of.Sold id price ∷ before) ≡ spoken_in setup before + price
sold_spoken setup before id price =
    let owed = owed_kept setup (record_of.Sold id price) before (λ o. refl) in
    omega arith

-- the coins of a closed order
pub closed_counts : (setup : Setup) (before : List Record) (id paid unpaid : ℕ) →
    follows setup before (record_of.Closed id paid unpaid) ≡ true → (at : Closes setup before id) →
    paid + unpaid ≡ at.order_is.count
closed_counts setup before id paid unpaid ok at =
    eqb-true (paid + unpaid) (count_of (order_named id before)) (and_parts _ _ ok).1 ∙ ap count_of at.named

-- records that follow one another are covered
pub covered_next : (setup : Setup) (before : List Record) (r : Record) → AreDistinct setup.devices →
    follows setup before r ≡ true → Belongs setup before → IsCovered setup before → IsCovered setup (r ∷ before)
covered_next setup before (record_of.Opened id addr count life) distinct ok belongs covered =
    let at = opens_at setup before id addr count life ok in
    let changed = opened_spoken setup before id addr count life distinct at in
    let affords = at.affords in
    omega arith
covered_next setup before (record_of.Closed id paid unpaid) distinct ok belongs covered =
    let at = closes_at setup before id (and_parts _ _ ok).0 belongs in
    let changed =
    closed_spoken setup before id paid unpaid distinct at (closed_counts setup before id paid unpaid ok at) in
    omega arith
covered_next setup before (record_of.Odd id life_before life_after) distinct ok belongs covered =
    let changed = odd_spoken setup before id life_before life_after distinct (closes_at setup before id ok belongs) in
    omega arith
covered_next setup before (record_of.Sold id price) distinct ok belongs covered =
    let changed = sold_spoken setup before id price in
    let test = and_parts (not (id == 0) && not (price == 0)) (nat_le price (available_in setup before)) ok in
    let affords : price ≤ available_in setup before = leb-true price (available_in setup before) test.1 in
    omega arith
covered_next setup before r distinct ok belongs covered =
    let owed = owed_kept setup r before (λ o. refl) in
    omega arith

pub covered_all : (setup : Setup) (before : List Record) → AreDistinct setup.devices → all_follow setup before ≡ true →
    IsCovered setup before
covered_all setup [] distinct ok =
    let owed : owed_in setup [] ≡ 0 = sum_none (λ d. amount setup (order_in d.addr [])) setup.devices (λ d. refl) in
    omega arith
covered_all setup (r ∷ before) distinct ok =
    let parts = and_parts _ _ ok in
    covered_next setup before r distinct parts.0 (belongs_all setup before parts.1)
    (covered_all setup before distinct parts.1)
