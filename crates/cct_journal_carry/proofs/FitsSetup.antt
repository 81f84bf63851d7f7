-- The carry of records that follow one another fits their setup.
use Rattle.std.proofs.Common.{◌≡◌, ℕ, ◌≤◌, ◌==◌, max, Bool, true, false, cond, List, [], ◌∷◌, Option, Some, None, refl, ap, sym, ◌∙◌, subst, arith, eqb-true}
use Rattle.cct_model.specs.terms.device.DeviceSetup.{DeviceSetup}
use Rattle.cct_model.specs.terms.device.Setup.{Setup}
use Rattle.cct_model.specs.lines.record.Record.{Record}
use Rattle.cct_model.specs.lines.record.Record.TheVariants as record_of
use Rattle.cct_model.specs.lines.carry.CarryEpoch.{CarryEpoch}
use Rattle.cct_model.specs.lines.carry.CarryOrder.{CarryOrder}
use Rattle.cct_model.specs.declared.judging.OpenOrder.{OpenOrder}
use Rattle.cct_model.specs.Carried.{id_of_order, with_some}
use Rattle.cct_model.specs.Carry.{AreApart, Fits, IsOther, carry, epoch_at, epoch_entry, gathered, order_at}
use Rattle.cct_model.specs.Device.{is_taker}
use Rattle.cct_model.specs.Exchange.{by_address, device_at, hopper_there, taker_there}
use Rattle.cct_model.specs.Following.{all_follow}
use Rattle.cct_model.specs.Records.{epoch_in, greatest_id, order_named}
use Rattle.cct_model.specs.Setup.{AreDistinct, IsSoundSetup}
use Rattle.cct_laws.proofs.setups.Rising.{devices_rise}
use Rattle.cct_laws.proofs.setups.DeviceAt.{same_some}
use Rattle.cct_laws.proofs.money.Covered.{covered_all}
use Rattle.cct_laws.proofs.orders.Orders.{Belongs, belongs_all}
use Rattle.cct_journal_carry.proofs.Carried.{entry_of, epoch_keys, order_keys, owed_carried}
use Rattle.cct_journal_carry.proofs.Devices.{distinct_rising, found_by_address}
use Rattle.cct_journal_carry.proofs.Gathered.{gathered_each}

-- an id that records name is at most their greatest
named_below : (id : ℕ) (before : List Record) (o : OpenOrder) → order_named id before ≡ Some o → id ≤ greatest_id before
named_below id [] o is = absurd cc
named_below id (record_of.Opened opened addr count life ∷ before) o is =
    by_id (opened == id) refl (λ found. named_below id before o found) is
  where
    by_id : (here : Bool) → (opened == id) ≡ here
        → (order_named id before ≡ Some o → id ≤ greatest_id before)
        → cond here (Some (record { id = opened; addr = addr; count = count; life = life })) (order_named id before) ≡ Some o
        → id ≤ max opened (greatest_id before)
    by_id true same later found = let own = eqb-true opened id same in omega (arith, own)
    by_id false other later found = let below = later found in omega (arith, below)
named_below id (r ∷ before) o is = let below = named_below id before o is in omega (arith, below)

-- no two devices have orders with one id
module _ (setup : Setup) (before : List Record) (belongs : Belongs setup before) where
  one_place : (d e : DeviceSetup) (x y : CarryOrder) → order_at before d ≡ Some x → order_at before e ≡ Some y
      → y.id ≡ x.id → e.addr ≡ d.addr
  one_place d e x y is own same =
      let p = entry_of before d x is in
      let q = entry_of before e y own in
      let at = belongs.owned d.addr p.order_is p.owed in
      let there = belongs.owned e.addr q.order_is q.owed in
      let ids : q.order_is.id ≡ p.order_is.id = ap id_of_order q.entry ∙ same ∙ sym (ap id_of_order p.entry) in
      let orders : q.order_is ≡ p.order_is =
      same_some q.order_is p.order_is (sym there.named ∙ ap (λ n. order_named n before) ids ∙ at.named) in
      sym there.here ∙ ap (λ (o : OpenOrder). o.addr) orders ∙ at.here

  apart_gathered : (ds : List DeviceSetup) → AreDistinct ds → AreApart (gathered (order_at before) ds)
  apart_gathered [] distinct = tt
  apart_gathered (d ∷ ds) distinct = by_found (order_at before d) refl (apart_gathered ds distinct.1)
    where
      none_there : (e : DeviceSetup) → device_at ds e.addr ≡ Some e → device_at ds e.addr ≡ None → ⊥
      none_there e there none = absurd cc

      by_found : (found : Option CarryOrder) → order_at before d ≡ found → AreApart (gathered (order_at before) ds)
          → AreApart (with_some found (gathered (order_at before) ds))
      by_found None is later = later
      by_found (Some x) is later = (
        gathered_each (IsOther x.id) (order_at before) ds distinct.1
            (λ e y there own same. none_there e there
            (ap (device_at ds) (one_place d e x y is own same) ∙ distinct.0)),
        later,
      )

-- an epoch is at a device that takes money
takes_at : (before : List Record) (d : DeviceSetup) (x : CarryEpoch) → epoch_at before d ≡ Some x
    → is_taker d.body ≡ true
takes_at before d x is = by_kind (is_taker d.body) refl is
  where
    by_kind : (kind : Bool) → is_taker d.body ≡ kind
        → cond kind (epoch_entry d.addr (epoch_in d.addr before)) None ≡ Some x → is_taker d.body ≡ true
    by_kind true kind found = kind
    by_kind false kind found = absurd cc

pub carry_fits : (setup : Setup) (before : List Record) → IsSoundSetup setup → all_follow setup before ≡ true
    → Fits setup (carry setup before)
carry_fits setup before sound follow =
    let belongs = belongs_all setup before follow in
    let ds = by_address setup.devices in
    let distinct = distinct_rising ds (devices_rise setup sound) in
    record {
      epochs = gathered_each (λ (e : CarryEpoch). taker_there (device_at setup.devices e.addr) ≡ true) (epoch_at before) ds distinct
          (λ d x there is. ap (λ a. taker_there (device_at setup.devices a)) (epoch_keys before d x is)
          ∙ ap taker_there (sym (found_by_address setup.devices d.addr) ∙ there) ∙ takes_at before d x is);
      orders = gathered_each (λ (o : CarryOrder). hopper_there (device_at setup.devices o.addr) ≡ true) (order_at before) ds distinct
          (λ d x there is. ap (λ a. hopper_there (device_at setup.devices a)) (order_keys setup before belongs d x is)
          ∙ (belongs.owned d.addr (entry_of before d x is).order_is (entry_of before d x is).owed).hopper);
      ids = gathered_each (λ (o : CarryOrder). o.id ≤ greatest_id before) (order_at before) ds distinct
          (λ d x there is. let entry = entry_of before d x is in
          subst (λ (n : ℕ). n ≤ greatest_id before) (ap id_of_order entry.entry)
          (named_below entry.order_is.id before entry.order_is
          (belongs.owned d.addr entry.order_is entry.owed).named));
      apart = apart_gathered setup before belongs ds distinct;
      covered = omega (arith, covered_all setup before sound.distinct follow, owed_carried setup before sound follow);
    }
