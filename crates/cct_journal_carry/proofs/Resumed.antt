-- The open orders of all devices, looked up in the carry of records that follow one another, are
-- those that the records show; and the carry of no record is empty.
use Rattle.std.proofs.Common.{◌≡◌, ℕ, ◌==◌, Bool, true, false, cond, List, [], ◌∷◌, map, Option, Some, None, refl, ap, ap₂, sym, ◌∙◌, true≢false, eq-eqb, ne_eqb, option_map}
use Rattle.std.specs.Prelude.{slice_get}
use Rattle.std.specs.List.{list_any}
use Rattle.std.specs.Option.{option_map_or}
use Rattle.std.proofs.lemmas.Bool.{or_from, or_left, or_right}
use Rattle.std.proofs.lemmas.Option.{same_Some, slice_get-map}
use Rattle.cct_model.specs.terms.device.DeviceSetup.{DeviceSetup}
use Rattle.cct_model.specs.terms.device.Setup.{Setup}
use Rattle.cct_model.specs.lines.record.Record.{Record}
use Rattle.cct_model.specs.declared.judging.OpenOrder.{OpenOrder}
use Rattle.cct_model.specs.Carried.{empty_carry}
use Rattle.cct_model.specs.Carry.{carry, carry_of, epoch_at, order_at, order_held}
use Rattle.cct_model.specs.Device.{is_taker}
use Rattle.cct_model.specs.Exchange.{by_address, device_at, hopper_there}
use Rattle.cct_model.specs.Following.{all_follow}
use Rattle.cct_model.specs.Records.{is_open, order_in, order_named}
use Rattle.cct_model.specs.Setup.{IsSoundSetup}
use Rattle.cct_model.proofs.Addresses.{address_there}
use Rattle.cct_laws.proofs.orders.Orders.{belongs_all, named_id}
use Rattle.cct_journal_carry.proofs.Carried.{order_carried}
use Rattle.cct_journal_carry.proofs.Gathered.{gathered_none}

-- the carry of no record

either_way : {X : Type 0} (b : Bool) (x : X) → cond b x x ≡ x
either_way true x = refl
either_way false x = refl

pub carry_first : (setup : Setup) → carry setup [] ≡ empty_carry
carry_first setup =
    ap₂ (λ epochs orders. record empty_carry { epochs = epochs; orders = orders })
    (gathered_none (epoch_at []) (by_address setup.devices) (λ d. either_way (is_taker d.body) None))
    (gathered_none (order_at []) (by_address setup.devices) (λ d. either_way (is_taker d.body) None))

pub carry_of_none : (setup : Setup) → carry_of setup [] ≡ empty_carry
carry_of_none setup = carry_first setup

-- functions that agree at each device give one list
mapped_same : {X : Type 0} (f g : DeviceSetup → X) (ds : List DeviceSetup) → ((d : DeviceSetup) → f d ≡ g d) →
    map f ds ≡ map g ds
mapped_same f g [] same = refl
mapped_same f g (d ∷ ds) same = ap₂ (λ x xs. x ∷ xs) (same d) (mapped_same f g ds same)

-- a test of what is at each device
module _ {X : Type 0} (test : X → Bool) (f : DeviceSetup → X) where
  -- it passes at the device that is found at an address
  any_there : (ds : List DeviceSetup) (addr : ℕ) (d : DeviceSetup) → test (f d) ≡ true → device_at ds addr ≡ Some d →
      list_any test (map f ds) ≡ true
  any_there [] addr d passes found = absurd cc
  any_there (e ∷ ds) addr d passes found =
      by_here (e.addr == addr) found (any_there ds addr d passes)
    where
      by_here : (here : Bool) → cond here (Some e) (device_at ds addr) ≡ Some d →
          (device_at ds addr ≡ Some d → list_any test (map f ds) ≡ true) → list_any test (map f (e ∷ ds)) ≡ true
      by_here true is later =
          or_left (test (f e)) (list_any test (map f ds)) (ap (λ x. test (f x)) (same_Some e d is) ∙ passes)
      by_here false is later = or_right (test (f e)) (list_any test (map f ds)) (later is)

  -- or nowhere
  none_anywhere : (ds : List DeviceSetup) → ((d : DeviceSetup) → test (f d) ≡ false) →
      list_any test (map f ds) ≡ false
  none_anywhere [] fails = refl
  none_anywhere (d ∷ ds) fails =
      or_from (test (f d)) (list_any test (map f ds)) (fails d) (none_anywhere ds fails)

-- an open order with an id
abbrev has : ℕ → Option OpenOrder → Bool
has id owed = option_map_or (λ (o : OpenOrder). o.id == id) owed false

-- records of a sound setup that follow one another
module _ (setup : Setup) (before : List Record) (sound : IsSoundSetup setup)
    (follow : all_follow setup before ≡ true) where
  -- the open orders of all devices
  pub orders_looked_up : map (λ d. order_held d.addr (carry setup before)) setup.devices
      ≡ map (λ d. order_in d.addr before) setup.devices
  orders_looked_up =
      mapped_same (λ d. order_held d.addr (carry setup before)) (λ d. order_in d.addr before) setup.devices
      (λ d. order_carried setup before sound follow d.addr)

  -- which ids are those of open orders
  opened_told : (id : ℕ) (b : Bool) → is_open id before ≡ b →
      list_any (has id) (map (λ d. order_in d.addr before) setup.devices) ≡ b
  opened_told id true open_is =
      let belongs = belongs_all setup before follow in
      let named = belongs.named id open_is in
      let o = named.order_is in
      by_found o (device_at setup.devices o.addr) refl (belongs.owned o.addr o named.at_hopper).hopper
      (named_id id before o named.named) named.at_hopper
    where
      by_found : (o : OpenOrder) (found : Option DeviceSetup) → device_at setup.devices o.addr ≡ found →
          hopper_there found ≡ true → o.id ≡ id → order_in o.addr before ≡ Some o →
          list_any (has id) (map (λ d. order_in d.addr before) setup.devices) ≡ true
      by_found o None is there own owed = absurd cc
      by_found o (Some d) is there own owed =
          any_there (has id) (λ d. order_in d.addr before) setup.devices o.addr d
          (ap (has id) (ap (λ a. order_in a before) (address_there setup.devices o.addr d is) ∙ owed)
          ∙ eq-eqb o.id id own)
          is
  opened_told id false unopened =
      none_anywhere (has id) (λ d. order_in d.addr before) setup.devices
      (λ d. by_owed d.addr (order_in d.addr before) refl)
    where
      by_owed : (addr : ℕ) (owed : Option OpenOrder) → order_in addr before ≡ owed → has id owed ≡ false
      by_owed addr None is = refl
      by_owed addr (Some o) is =
          ne_eqb o.id id
          (λ own. true≢false
          (sym ((belongs_all setup before follow).owned addr o is).is_open ∙ ap (λ n. is_open n before) own ∙ unopened))

  pub opened_looked_up : (id : ℕ) → is_open id before
      ≡ list_any (has id) (map (λ d. order_held d.addr (carry setup before)) setup.devices)
  opened_looked_up id =
      sym (ap (list_any (has id)) orders_looked_up ∙ opened_told id (is_open id before) refl)

  -- which order an id names
  pub named_looked_up : (place : ℕ) (o : OpenOrder) →
      slice_get (map (λ d. order_held d.addr (carry setup before)) setup.devices) place ≡ Some (Some o) →
      order_named o.id before ≡ Some o
  named_looked_up place o is =
      by_found (slice_get setup.devices place)
      (sym (slice_get-map (λ d. order_in d.addr before) setup.devices place)
      ∙ ap (λ os. slice_get os place) (sym orders_looked_up) ∙ is)
    where
      by_found : (found : Option DeviceSetup) → option_map (λ d. order_in d.addr before) found ≡ Some (Some o) →
          order_named o.id before ≡ Some o
      by_found None at = absurd cc
      by_found (Some d) at =
          ((belongs_all setup before follow).owned d.addr o (same_Some (order_in d.addr before) (Some o) at)).named
