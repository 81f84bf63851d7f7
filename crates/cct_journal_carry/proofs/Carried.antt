-- What the carry of records that follow one another shows is what the records show: epochs and open
-- orders, at any address and by any id, and what is reserved and available.
use Rattle.std.proofs.Common.{◌≡◌, ◌≢◌, ℕ, ◌+◌, ◌-◌, Bool, true, false, cond, List, [], ◌∷◌, Option, Some, None, is_some, All, refl, ap, sym, ◌∙◌, arith, true≢false, ne_eqb, option_and_then, option_map, ◌⊎◌, inl, inr}
use Rattle.std.proofs.lemmas.Bool.{and_parts, cases_eq}
use Rattle.std.proofs.lemmas.List.Elements.{All-head, All-tail}
use Rattle.cct_model.specs.terms.device.DeviceBody.{DeviceBody}
use Rattle.cct_model.specs.terms.device.DeviceBody.TheVariants.{Acceptor, Bill, Hopper}
use Rattle.cct_model.specs.terms.device.DeviceSetup.{DeviceSetup}
use Rattle.cct_model.specs.terms.device.Setup.{Setup}
use Rattle.cct_model.specs.lines.record.Record.{Record}
use Rattle.cct_model.specs.lines.record.Record.TheVariants as record_of
use Rattle.cct_model.specs.lines.carry.CarryEpoch.{CarryEpoch}
use Rattle.cct_model.specs.lines.carry.CarryOrder.{CarryOrder}
use Rattle.cct_model.specs.declared.judging.EpochState.{EpochState}
use Rattle.cct_model.specs.declared.judging.EpochState.TheVariants.{Idle, Running}
use Rattle.cct_model.specs.declared.judging.OpenOrder.{OpenOrder}
use Rattle.cct_model.specs.Carried.{addr_of_epoch, addr_of_order, first_with, id_of_order, with_some}
use Rattle.cct_model.specs.Carry.{available_held, carry, epoch_at, epoch_entry, epoch_from, epoch_held, gathered, order_at, order_entry, order_from, order_held, order_with, owed_by, reserved_held}
use Rattle.cct_model.specs.Device.{is_hopper, is_taker}
use Rattle.cct_model.specs.Exchange.{by_address, device_at, hopper_there, taker_there}
use Rattle.cct_model.specs.Following.{all_follow, follows}
use Rattle.cct_model.specs.Job.{epoch_by}
use Rattle.cct_model.specs.Money.{amount, available_beside, odd_in, owed_in, reserved_in, sum_over}
use Rattle.cct_model.specs.Records.{epoch_in, is_open, order_in, order_named, owner_in}
use Rattle.cct_model.specs.Setup.{IsSoundSetup}
use Rattle.cct_model.proofs.Addresses.{address_there}
use Rattle.cct_laws.proofs.setups.Rising.{devices_rise}
use Rattle.cct_laws.proofs.setups.DeviceAt.{same_some}
use Rattle.cct_laws.proofs.money.EpochsReplayed.{epoch_else, epoch_own}
use Rattle.cct_laws.proofs.money.Sums.{all_found}
use Rattle.cct_laws.proofs.orders.Orders.{Belongs, belongs_all, named_id}
use Rattle.cct_journal_carry.proofs.Devices.{distinct_rising, found_by_address, sum_by_address}
use Rattle.cct_journal_carry.proofs.Gathered.{HasAddress, first_among, first_gathered, first_nowhere}

-- no epoch runs where no device takes money

own_idle : (setup : Setup) (before : List Record) (r : Record) (addr : ℕ) →
    taker_there (device_at setup.devices addr) ≡ false → owner_in before r ≡ addr → follows setup before r ≡ true →
    epoch_in addr before ≡ Idle → epoch_by r (epoch_in addr before) ≡ Idle
own_idle setup before (record_of.Epoch a mask accepts) addr none own follow idle =
    absurd (true≢false (sym (and_parts _ _ (and_parts _ _ (and_parts _ _ follow).0).0).0
    ∙ ap (λ x. taker_there (device_at setup.devices x)) own ∙ none))
own_idle setup before r addr none own follow idle = ap (epoch_by r) idle

pub idle_beside : (setup : Setup) (before : List Record) (addr : ℕ) →
    taker_there (device_at setup.devices addr) ≡ false → all_follow setup before ≡ true →
    epoch_in addr before ≡ Idle
idle_beside setup [] addr none follow = refl
idle_beside setup (r ∷ before) addr none follow =
    by_owner (idle_beside setup before addr none (and_parts _ _ follow).1) (cases_eq (owner_in before r) addr)
  where
    by_owner : epoch_in addr before ≡ Idle → (owner_in before r ≡ addr) ⊎ (owner_in before r ≢ addr) →
        epoch_in addr (r ∷ before) ≡ Idle
    by_owner idle (inl own) =
        epoch_own addr r before own ∙ own_idle setup before r addr none own (and_parts _ _ follow).0 idle
    by_owner idle (inr other) = epoch_else addr r before other ∙ idle

-- no order is open where there is no hopper

none_owed : (o : Option OpenOrder) (there : Bool) → ((p : OpenOrder) → o ≡ Some p → there ≡ true) → there ≡ false →
    o ≡ None
none_owed None there has none = refl
none_owed (Some p) there has none = absurd (true≢false (sym (has p refl) ∙ none))

pub unowed_beside : (setup : Setup) (before : List Record) (addr : ℕ) → Belongs setup before →
    hopper_there (device_at setup.devices addr) ≡ false → order_in addr before ≡ None
unowed_beside setup before addr belongs none =
    none_owed (order_in addr before) (hopper_there (device_at setup.devices addr))
    (λ o is. (belongs.owned addr o is).hopper) none

-- what a carry has of an epoch and of an order shows them

pub epoch_back : (addr : ℕ) (state : EpochState) → epoch_from (epoch_entry addr state) ≡ state
epoch_back addr Idle = refl
epoch_back addr (Running mask counter accepts) = refl

pub order_back : (owed : Option OpenOrder) → option_map order_from (option_map order_entry owed) ≡ owed
order_back None = refl
order_back (Some o) = refl

-- what is at a device has its address

entry_addr : (addr : ℕ) (state : EpochState) (x : CarryEpoch) → epoch_entry addr state ≡ Some x → x.addr ≡ addr
entry_addr addr Idle x is = absurd cc
entry_addr addr (Running mask counter accepts) x is =
    ap (λ (y : CarryEpoch). y.addr) (sym (same_some (record { addr = addr; mask = mask; counter = counter; accepts = accepts }) x is))

pub epoch_keys : (before : List Record) → HasAddress addr_of_epoch (epoch_at before)
epoch_keys before d x is = by_kind (is_taker d.body) is
  where
    by_kind : (kind : Bool) → cond kind (epoch_entry d.addr (epoch_in d.addr before)) None ≡ Some x → x.addr ≡ d.addr
    by_kind true found = entry_addr d.addr (epoch_in d.addr before) x found
    by_kind false found = absurd cc

-- the open order of which an entry is, of a device
pub record IsEntryOf (before : List Record) (addr : ℕ) (x : CarryOrder) : Type 0 where
  pub order_is : OpenOrder
  pub owed : order_in addr before ≡ Some order_is
  pub entry : order_entry order_is ≡ x

pub entry_of : (before : List Record) (d : DeviceSetup) (x : CarryOrder) → order_at before d ≡ Some x →
    IsEntryOf before d.addr x
entry_of before d x is = by_kind (is_taker d.body) is
  where
    by_owed : (owed : Option OpenOrder) → order_in d.addr before ≡ owed → option_map order_entry owed ≡ Some x →
        IsEntryOf before d.addr x
    by_owed None own found = absurd cc
    by_owed (Some o) own found =
        record { order_is = o; owed = own; entry = same_some (order_entry o) x found }

    by_kind : (kind : Bool) → cond kind None (option_map order_entry (order_in d.addr before)) ≡ Some x →
        IsEntryOf before d.addr x
    by_kind true found = absurd cc
    by_kind false found = by_owed (order_in d.addr before) refl found

pub order_keys : (setup : Setup) (before : List Record) → Belongs setup before →
    HasAddress addr_of_order (order_at before)
order_keys setup before belongs d x is =
    let entry = entry_of before d x is in
    ap (λ (y : CarryOrder). y.addr) (sym entry.entry) ∙ (belongs.owned d.addr entry.order_is entry.owed).here

-- what is at the device at an address is what the records show of it

pub epoch_there : (setup : Setup) (before : List Record) (addr : ℕ) → all_follow setup before ≡ true →
    option_and_then (epoch_at before) (device_at setup.devices addr) ≡ epoch_entry addr (epoch_in addr before)
epoch_there setup before addr follow = by_found (device_at setup.devices addr) refl
  where
    none : taker_there (device_at setup.devices addr) ≡ false → None ≡ epoch_entry addr (epoch_in addr before)
    none beside = sym (ap (epoch_entry addr) (idle_beside setup before addr beside follow))

    by_kind : (d : DeviceSetup) (kind : Bool) → is_taker d.body ≡ kind → d.addr ≡ addr →
        device_at setup.devices addr ≡ Some d →
        cond kind (epoch_entry d.addr (epoch_in d.addr before)) None ≡ epoch_entry addr (epoch_in addr before)
    by_kind d true test own is = ap (λ a. epoch_entry a (epoch_in a before)) own
    by_kind d false test own is = none (ap taker_there is ∙ test)

    by_found : (found : Option DeviceSetup) → device_at setup.devices addr ≡ found →
        option_and_then (epoch_at before) found ≡ epoch_entry addr (epoch_in addr before)
    by_found None is = none (ap taker_there is)
    by_found (Some d) is = by_kind d (is_taker d.body) refl (address_there setup.devices addr d is) is

no_hopper : (body : DeviceBody) → is_taker body ≡ true → is_hopper body ≡ false
no_hopper (Acceptor accepts values ids) kind = refl
no_hopper (Hopper life value) kind = absurd cc
no_hopper (Bill accepts values ids) kind = refl

pub order_there : (setup : Setup) (before : List Record) (addr : ℕ) → Belongs setup before →
    option_and_then (order_at before) (device_at setup.devices addr) ≡ option_map order_entry (order_in addr before)
order_there setup before addr belongs = by_found (device_at setup.devices addr) refl
  where
    none : hopper_there (device_at setup.devices addr) ≡ false → None ≡ option_map order_entry (order_in addr before)
    none beside = sym (ap (option_map order_entry) (unowed_beside setup before addr belongs beside))

    by_kind : (d : DeviceSetup) (kind : Bool) → is_taker d.body ≡ kind → d.addr ≡ addr →
        device_at setup.devices addr ≡ Some d →
        cond kind None (option_map order_entry (order_in d.addr before)) ≡ option_map order_entry (order_in addr before)
    by_kind d true test own is = none (ap hopper_there is ∙ no_hopper d.body test)
    by_kind d false test own is = ap (λ a. option_map order_entry (order_in a before)) own

    by_found : (found : Option DeviceSetup) → device_at setup.devices addr ≡ found →
        option_and_then (order_at before) found ≡ option_map order_entry (order_in addr before)
    by_found None is = none (ap hopper_there is)
    by_found (Some d) is = by_kind d (is_taker d.body) refl (address_there setup.devices addr d is) is

-- records of a sound setup that follow one another
module _ (setup : Setup) (before : List Record) (sound : IsSoundSetup setup)
    (follow : all_follow setup before ≡ true) where
  -- the epoch and the open order at any address
  pub epoch_carried : (addr : ℕ) → epoch_held addr (carry setup before) ≡ epoch_in addr before
  epoch_carried addr =
      ap epoch_from
      (first_gathered addr_of_epoch (epoch_at before) (epoch_keys before) addr (by_address setup.devices)
      (devices_rise setup sound)
      ∙ ap (option_and_then (epoch_at before)) (found_by_address setup.devices addr)
      ∙ epoch_there setup before addr follow)
      ∙ epoch_back addr (epoch_in addr before)

  pub order_carried : (addr : ℕ) → order_held addr (carry setup before) ≡ order_in addr before
  order_carried addr =
      let belongs = belongs_all setup before follow in
      ap (option_map order_from)
      (first_gathered addr_of_order (order_at before) (order_keys setup before belongs) addr (by_address setup.devices)
      (devices_rise setup sound)
      ∙ ap (option_and_then (order_at before)) (found_by_address setup.devices addr)
      ∙ order_there setup before addr belongs)
      ∙ order_back (order_in addr before)

  -- what the carry has of the open order with an id
  named_by_entry : (id : ℕ) (o : OpenOrder) → order_named id before ≡ Some o → order_in o.addr before ≡ Some o →
      first_with id_of_order id (gathered (order_at before) (by_address setup.devices)) ≡ Some (order_entry o)
  named_by_entry id o named owed =
      by_found (device_at setup.devices o.addr) refl
      (order_there setup before o.addr (belongs_all setup before follow) ∙ ap (option_map order_entry) owed)
    where
      one : (e : DeviceSetup) (y : CarryOrder) → order_at before e ≡ Some y → y.id ≡ id → y ≡ order_entry o
      one e y is own =
          let entry = entry_of before e y is in
          let p = entry.order_is in
          let ids : p.id ≡ id = ap id_of_order entry.entry ∙ own in
          let same : p ≡ o =
          same_some p o
          (sym ((belongs_all setup before follow).owned e.addr p entry.owed).named
          ∙ ap (λ n. order_named n before) ids ∙ named) in
          sym entry.entry ∙ ap order_entry same

      by_found : (found : Option DeviceSetup) → device_at setup.devices o.addr ≡ found →
          option_and_then (order_at before) found ≡ Some (order_entry o) →
          first_with id_of_order id (gathered (order_at before) (by_address setup.devices)) ≡ Some (order_entry o)
      by_found None is stands = absurd cc
      by_found (Some d) is stands =
          let own : d.addr ≡ o.addr = address_there setup.devices o.addr d is in
          first_among id_of_order id (order_at before) d (order_entry o) (by_address setup.devices) stands
          (named_id id before o named) one
          (found_by_address setup.devices d.addr ∙ ap (device_at setup.devices) own ∙ is)

  -- so it is the one that the records name, where they say that it is open, and there is none elsewhere

  pub named_carried : (id : ℕ) → is_open id before ≡ true → order_with id (carry setup before) ≡ order_named id before
  named_carried id open_is =
      let named = (belongs_all setup before follow).named id open_is in
      ap (option_map order_from) (named_by_entry id named.order_is named.named named.at_hopper) ∙ sym named.named

  pub unnamed_carried : (id : ℕ) → is_open id before ≡ false → order_with id (carry setup before) ≡ None
  unnamed_carried id unopened =
      ap (option_map order_from)
      (first_nowhere id_of_order id (order_at before) (by_address setup.devices) (λ e y is. ne_eqb y.id id (other e y is)))
    where
      other : (e : DeviceSetup) (y : CarryOrder) → order_at before e ≡ Some y → y.id ≢ id
      other e y is own =
          let entry = entry_of before e y is in
          let p = entry.order_is in
          true≢false
          (sym ((belongs_all setup before follow).owned e.addr p entry.owed).is_open
          ∙ ap (λ n. is_open n before) (ap id_of_order entry.entry ∙ own) ∙ unopened)

  -- which ids are those of open orders
  pub opened_carried : (id : ℕ) → is_some (order_with id (carry setup before)) ≡ is_open id before
  opened_carried id = by_test (is_open id before) refl
    where
      by_test : (b : Bool) → is_open id before ≡ b → is_some (order_with id (carry setup before)) ≡ b
      by_test true open_is =
          ap is_some
          (named_carried id open_is ∙ ((belongs_all setup before follow).named id open_is).named)
      by_test false open_is = ap is_some (unnamed_carried id open_is)

  -- the amounts of the open orders
  owed_gathered : (ds : List DeviceSetup) →
      All (λ d. order_at before d ≡ option_map order_entry (order_in d.addr before)) ds →
      owed_by setup (gathered (order_at before) ds) ≡ sum_over (λ d. amount setup (order_in d.addr before)) ds
  owed_gathered [] all = refl
  owed_gathered (d ∷ ds) all =
      let P : DeviceSetup → Type 0 = λ d. order_at before d ≡ option_map order_entry (order_in d.addr before) in
      ap (λ found. owed_by setup (with_some found (gathered (order_at before) ds))) (All-head P d ds all)
      ∙ by_owed (order_in d.addr before) (owed_gathered ds (All-tail P d ds all))
    where
      by_owed : (owed : Option OpenOrder) → owed_by setup (gathered (order_at before) ds)
          ≡ sum_over (λ d. amount setup (order_in d.addr before)) ds →
          owed_by setup (with_some (option_map order_entry owed) (gathered (order_at before) ds))
          ≡ amount setup owed + sum_over (λ d. amount setup (order_in d.addr before)) ds
      by_owed None later = omega (arith, later)
      by_owed (Some o) later = omega (arith, later)

  pub owed_carried : owed_by setup (carry setup before).orders ≡ owed_in setup before
  owed_carried =
      owed_gathered (by_address setup.devices)
      (all_found (λ d. order_at before d ≡ option_map order_entry (order_in d.addr before)) (by_address setup.devices)
      (distinct_rising (by_address setup.devices) (devices_rise setup sound))
      (λ d there. ap (option_and_then (order_at before)) (sym (sym (found_by_address setup.devices d.addr) ∙ there))
      ∙ order_there setup before d.addr (belongs_all setup before follow)))
      ∙ sum_by_address (λ d. amount setup (order_in d.addr before)) setup.devices

  -- what is reserved
  pub reserved_carried : reserved_held setup (carry setup before) ≡ reserved_in setup before
  reserved_carried = ap (λ owed. owed + odd_in setup before) owed_carried

  -- what is available, beside what else is reserved
  pub available_carried : (beside : ℕ) →
      available_held setup (carry setup before) beside ≡ available_beside setup before beside
  available_carried beside =
      ap (λ owed. (carry setup before).value
      - (owed + (carry setup before).odd_value + beside + (carry setup before).paid_value + (carry setup before).sold))
      owed_carried
