-- How the sums over all records change by one record more.
use Rattle.std.proofs.Common.{◌≡◌, ℕ, ◌+◌, true, List, ◌∷◌, refl, ap, sym, ◌∙◌, Option, Some, None, arith}
use Rattle.cct_model.specs.terms.device.DeviceSetup.{DeviceSetup}
use Rattle.cct_model.specs.terms.device.Setup.{Setup}
use Rattle.cct_model.specs.lines.record.Record.{Record}
use Rattle.cct_model.specs.lines.record.Record.TheVariants as record_of
use Rattle.cct_model.specs.declared.judging.OpenOrder.{OpenOrder}
use Rattle.cct_model.specs.Device.{is_hopper}
use Rattle.cct_model.specs.Exchange.{device_at, hopper_there}
use Rattle.cct_model.specs.Setup.{AreDistinct}
use Rattle.cct_model.specs.Order.{order_by}
use Rattle.cct_model.specs.Records.{order_named, hopper_of, owner_in, order_in}
use Rattle.cct_model.specs.Money.{coins_of, amount, paid_by, owed_in}
use Rattle.cct_laws.specs.Law.{IsOf}
use Rattle.cct_laws.proofs.setups.DeviceAt.{address_found}
use Rattle.cct_laws.proofs.money.Sums.{sum_same, sum_changed}
use Rattle.cct_model.proofs.OpenOrders.{order_own, order_else, coins_both}
use Rattle.cct_laws.proofs.orders.Orders.{order_kept}

-- the hopper that is at an address
pub record HopperAt (setup : Setup) (addr : ℕ) : Type 0 where
  pub device : DeviceSetup
  pub found : device_at setup.devices addr ≡ Some device
  pub here : device.addr ≡ addr
  pub is_of : IsOf setup device
  pub kind : is_hopper device.body ≡ true

hopper_by : (setup : Setup) (addr : ℕ) (found : Option DeviceSetup) → device_at setup.devices addr ≡ found →
    hopper_there found ≡ true → HopperAt setup addr
hopper_by setup addr None is hopper = absurd cc
hopper_by setup addr (Some d) is hopper =
    let at = address_found setup addr d is in
    record {
      device = d;
      found = is;
      here = at;
      is_of = ap (device_at setup.devices) at ∙ is;
      kind = hopper;
    }

pub hopper_at : (setup : Setup) (addr : ℕ) → hopper_there (device_at setup.devices addr) ≡ true → HopperAt setup addr
hopper_at setup addr hopper = hopper_by setup addr (device_at setup.devices addr) refl hopper

-- a record that opens and closes nothing leaves what is owed
pub owed_kept : (setup : Setup) (r : Record) (before : List Record) → ((o : Option OpenOrder) → order_by r o ≡ o) →
    owed_in setup (r ∷ before) ≡ owed_in setup before
owed_kept setup r before keeps =
    sum_same (λ d. amount setup (order_in d.addr (r ∷ before))) (λ d. amount setup (order_in d.addr before))
    setup.devices
    (λ d. ap (amount setup) (order_kept d.addr r before keeps))

-- a record of a device of the setup changes what is owed as it changes the open order there
pub owed_changed : (setup : Setup) (d : DeviceSetup) (r : Record) (before : List Record) → AreDistinct setup.devices →
    IsOf setup d → owner_in before r ≡ d.addr →
    owed_in setup (r ∷ before) + amount setup (order_in d.addr before)
    ≡ owed_in setup before + amount setup (order_by r (order_in d.addr before))
owed_changed setup d r before distinct is_of own =
    let changed =
    sum_changed (λ e. amount setup (order_in e.addr (r ∷ before))) (λ e. amount setup (order_in e.addr before))
    setup.devices d distinct is_of
    (λ e other. ap (amount setup) (order_else e.addr r before (λ same. other (sym same ∙ own)))) in
    let here : amount setup (order_in d.addr (r ∷ before)) ≡ amount setup (order_by r (order_in d.addr before)) =
    ap (amount setup) (order_own d.addr r before own) in
    omega arith

-- an order that is opened where none is open adds its coins
pub owed_opened : (setup : Setup) (d : DeviceSetup) (before : List Record) (id count life : ℕ) →
    AreDistinct setup.devices → IsOf setup d → order_in d.addr before ≡ None →
    owed_in setup (record_of.Opened id d.addr count life ∷ before) ≡ owed_in setup before + coins_of setup d.addr count
owed_opened setup d before id count life distinct is_of none =
    let changed = owed_changed setup d (record_of.Opened id d.addr count life) before distinct is_of refl in
    let was : amount setup (order_in d.addr before) ≡ 0 = ap (amount setup) none in
    omega arith

-- an order that is closed takes its amount away
pub owed_closed : (setup : Setup) (d : DeviceSetup) (r : Record) (before : List Record) (o : OpenOrder) →
    AreDistinct setup.devices → IsOf setup d → owner_in before r ≡ d.addr →
    ((x : Option OpenOrder) → order_by r x ≡ None) →
    order_in d.addr before ≡ Some o →
    owed_in setup (r ∷ before) + amount setup (Some o) ≡ owed_in setup before
owed_closed setup d r before o distinct is_of own closes is =
    let changed = owed_changed setup d r before distinct is_of own in
    let was : amount setup (order_in d.addr before) ≡ amount setup (Some o) = ap (amount setup) is in
    let after : amount setup (order_by r (order_in d.addr before)) ≡ 0 =
    ap (amount setup) (closes (order_in d.addr before)) in
    omega arith

-- what a closed order paid and what it freed are its amount
pub closed_worth : (setup : Setup) (before : List Record) (id paid unpaid : ℕ) (o : OpenOrder) →
    order_named id before ≡ Some o →
    paid + unpaid ≡ o.count →
    paid_by setup before (record_of.Closed id paid unpaid) + coins_of setup o.addr unpaid ≡ amount setup (Some o)
closed_worth setup before id paid unpaid o named all =
    ap (λ a. coins_of setup a paid + coins_of setup o.addr unpaid) (ap hopper_of named)
    ∙ coins_both setup o.addr paid unpaid ∙ ap (coins_of setup o.addr) all
