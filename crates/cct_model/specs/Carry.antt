-- The carry of records: what a host needs of them, and how it goes on by one more.
use Rattle.std.specs.Prelude.{◌≡◌, ℕ, ◌+◌, ◌-◌, ◌≤◌, max, ◌&&◌, Bool, true, List, [], ◌∷◌, All}
use Rattle.std.specs.Prelude.{reverse, Option, Some, None}
use Rattle.std.specs.Prelude.{if◌then◌else◌, is_some, option_map, ⊤}
use Rattle.cct_model.specs.terms.device.DeviceSetup.{DeviceSetup}
use Rattle.cct_model.specs.terms.device.Setup.{Setup}
use Rattle.cct_model.specs.lines.record.Record.{Record}
use Rattle.cct_model.specs.Effect.{address_by, effect}
use Rattle.cct_model.specs.lines.carry.Carry.{Carry}
use Rattle.cct_model.specs.lines.carry.CarryEpoch.{CarryEpoch}
use Rattle.cct_model.specs.lines.carry.CarryOrder.{CarryOrder}
use Rattle.cct_model.specs.declared.judging.EpochState.{EpochState}
use Rattle.cct_model.specs.declared.judging.EpochState.TheVariants.{Idle, Running}
use Rattle.cct_model.specs.declared.judging.OpenOrder.{OpenOrder}
use Rattle.cct_model.specs.Carried.{IsRightly, addr_of_epoch, addr_of_order, first_with}
use Rattle.cct_model.specs.Carried.{id_of_order, set_with, with_some}
use Rattle.cct_model.specs.Device.{is_taker}
use Rattle.cct_model.specs.Exchange.{by_address, device_at, hopper_there, taker_there}
use Rattle.cct_model.specs.Following.{Known, follows_known}
use Rattle.cct_model.specs.Job.{epoch_by}
use Rattle.cct_model.specs.Order.{order_by}
use Rattle.cct_model.specs.Money.{coins_of, coins_value, odd_amount, odd_in, paid_in, posted_in}
use Rattle.cct_model.specs.Money.{sold_in}
use Rattle.cct_model.specs.Records.{epoch_in, greatest_id, hopper_of, id_of, order_in}
use Rattle.cct_model.specs.Sums.{coins_paid, coins_posted, coins_unpaid, coins_lost, posts_of}
use Rattle.cct_model.specs.Sums.{price_sold, sum_in}

-- What is at each of some devices, in their order.
abbrev pub gathered : {X : Type 0} → (DeviceSetup → Option X) → List DeviceSetup → List X
gathered f [] = []
gathered f (d ∷ ds) = with_some (f d) (gathered f ds)

-- What a carry has of an epoch at an address: nothing if none runs.
abbrev pub epoch_entry : ℕ → EpochState → Option CarryEpoch
epoch_entry addr Idle = None
epoch_entry addr (Running mask counter accepts) =
    Some (record { addr = addr; mask = mask; counter = counter; accepts = accepts })

-- What a carry has of an order.
abbrev pub order_entry : OpenOrder → CarryOrder
order_entry o = record { id = o.id; addr = o.addr; count = o.count; life = o.life }

-- What a carry has of the epoch of a device, which takes money.
abbrev pub epoch_at : List Record → DeviceSetup → Option CarryEpoch
epoch_at before d = if is_taker d.body then epoch_entry d.addr (epoch_in d.addr before) else None

-- What a carry has of the open order of a device, which is a hopper.
abbrev pub order_at : List Record → DeviceSetup → Option CarryOrder
order_at before d =
    if is_taker d.body then None else option_map order_entry (order_in d.addr before)

-- The carry of records, newest first: the greatest id; the value of all coins posted, that of all
-- coins paid and that of the orders whose counts of life don't fit; how many coins were posted,
-- lost, paid and not paid, and the sum of all prices; and in rising order of address the running
-- epochs of the devices that take money and the open orders of the hoppers.
abbrev pub carry : Setup → List Record → Carry
carry setup before = record {
  last_id = greatest_id before;
  value = posted_in setup before;
  paid_value = paid_in setup before;
  odd_value = odd_in setup before;
  posted = sum_in coins_posted before;
  lost = sum_in coins_lost before;
  paid = sum_in coins_paid before;
  unpaid = sum_in coins_unpaid before;
  sold = sold_in before;
  epochs = gathered (epoch_at before) (by_address setup.devices);
  orders = gathered (order_at before) (by_address setup.devices);
}

-- The carry of records, oldest first.
abbrev pub carry_of : Setup → List Record → Carry
carry_of setup records = carry setup (reverse records)

-- The epoch that an entry of a carry is.
abbrev pub epoch_from : Option CarryEpoch → EpochState
epoch_from None = Idle
epoch_from (Some e) = Running e.mask e.counter e.accepts

-- The order that an entry of a carry is.
abbrev pub order_from : CarryOrder → OpenOrder
order_from o = record { id = o.id; addr = o.addr; count = o.count; life = o.life }

-- The epoch at an address by a carry.
abbrev pub epoch_held : ℕ → Carry → EpochState
epoch_held addr c = epoch_from (first_with addr_of_epoch addr c.epochs)

-- The open order at an address by a carry.
abbrev pub order_held : ℕ → Carry → Option OpenOrder
order_held addr c = option_map order_from (first_with addr_of_order addr c.orders)

-- The open order with an id by a carry.
abbrev pub order_with : ℕ → Carry → Option OpenOrder
order_with id c = option_map order_from (first_with id_of_order id c.orders)

-- The amounts of open orders.
abbrev pub owed_by : Setup → List CarryOrder → ℕ
owed_by setup [] = 0
owed_by setup (o ∷ orders) = coins_of setup o.addr o.count + owed_by setup orders

-- What is reserved by a carry.
abbrev pub reserved_held : Setup → Carry → ℕ
reserved_held setup c = owed_by setup c.orders + c.odd_value

-- What is available by a carry, beside what else is reserved.
abbrev pub available_held : Setup → Carry → ℕ → ℕ
available_held setup c beside = c.value - (reserved_held setup c + beside + c.paid_value + c.sold)

-- What a carry shows before one more record.
abbrev pub known_by : Setup → Carry → Known
known_by setup c = record {
  epoch_at = λ addr. epoch_held addr c;
  order_at = λ addr. order_held addr c;
  is_open = λ id. is_some (order_with id c);
  named = λ id. order_with id c;
  available = available_held setup c 0;
}

-- A record follows those of a carry.
abbrev pub follows_carry : Setup → Carry → Record → Bool
follows_carry setup c r = follows_known setup (known_by setup c) r

-- The address that a record belongs to, by a carry of those before it: that of the order that it
-- closes, and 1 for a sale.
abbrev pub owner_by : Carry → Record → ℕ
owner_by c r = address_by (λ id. hopper_of (order_with id c)) (effect r).owned

-- The amount that a record sets aside, of an order whose counts of life don't fit.
abbrev pub odd_more : Setup → Carry → Record → ℕ
odd_more setup c r = odd_amount setup (λ id. order_with id c) r

-- The running epochs after a record of this address.
abbrev pub epochs_after : ℕ → Record → Carry → List CarryEpoch
epochs_after addr r c =
    set_with addr_of_epoch addr (epoch_entry addr (epoch_by r (epoch_held addr c))) c.epochs

-- The open orders after a record of this address.
abbrev pub orders_after : ℕ → Record → Carry → List CarryOrder
orders_after addr r c =
    set_with addr_of_order addr (option_map order_entry (order_by r (order_held addr c))) c.orders

-- The carry with one record more, which follows.
abbrev pub carry_with : Setup → Record → Carry → Carry
carry_with setup r c = record {
  last_id = max (id_of r) c.last_id;
  value = coins_value (device_at setup.devices (owner_by c r)) (posts_of r) + c.value;
  paid_value = coins_of setup (owner_by c r) (coins_paid r) + c.paid_value;
  odd_value = odd_more setup c r + c.odd_value;
  posted = coins_posted r + c.posted;
  lost = coins_lost r + c.lost;
  paid = coins_paid r + c.paid;
  unpaid = coins_unpaid r + c.unpaid;
  sold = price_sold r + c.sold;
  epochs = epochs_after (owner_by c r) r c;
  orders = orders_after (owner_by c r) r c;
}

-- The carry with more records, oldest first.
abbrev pub carry_over : Setup → Carry → List Record → Carry
carry_over setup c [] = c
carry_over setup c (r ∷ later) = carry_over setup (carry_with setup r c) later

-- Each of these records, oldest first, follows those of a carry and those before it.
abbrev pub all_follow_carry : Setup → Carry → List Record → Bool
all_follow_carry setup c [] = true
all_follow_carry setup c (r ∷ later) =
    follows_carry setup c r && all_follow_carry setup (carry_with setup r c) later

-- An order has another id than this one.
abbrev pub IsOther : ℕ → CarryOrder → Type 0
IsOther id o = o.id ≡ id → ⊥

-- No two orders have one id.
abbrev pub AreApart : List CarryOrder → Type 0
AreApart [] = ⊤
AreApart (o ∷ orders) = All (IsOther o.id) orders × AreApart orders

-- A carry fits a setup: its epochs are of devices that take money and its orders of hoppers, no id
-- is above the last one and none stands twice, and the value posted covers what was paid and sold
-- and what is reserved.
pub record Fits (setup : Setup) (c : Carry) : Type 0 where
  pub epochs : All (λ e. taker_there (device_at setup.devices e.addr) ≡ true) c.epochs
  pub orders : All (λ o. hopper_there (device_at setup.devices o.addr) ≡ true) c.orders
  pub ids : All (λ o. o.id ≤ c.last_id) c.orders
  pub apart : AreApart c.orders
  pub covered : c.paid_value + c.odd_value + c.sold + owed_by setup c.orders ≤ c.value

-- A carry of so many records that a host may have: it may be the carry of so many, and fits the
-- setup.
pub record IsSafe (setup : Setup) (many : ℕ) (c : Carry) : Type 0 where
  pub rightly : IsRightly many c
  pub fits : Fits setup c
