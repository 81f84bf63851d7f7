-- The open orders that a ledger keeps.
use Rattle.std.specs.Prelude.{◌≡◌, ℕ, ◌==◌, Bool, true, false, not, List, map, Option, Some, None}
use Rattle.std.specs.Prelude.{IfSome}
use Rattle.std.specs.Prelude.{is_none, slice_get}
use Rattle.std.specs.List.{list_any}
use Rattle.cct_model.specs.terms.device.DeviceSetup.{DeviceSetup}
use Rattle.cct_model.specs.terms.device.Setup.{Setup}
use Rattle.cct_model.specs.lines.record.Record.{Record}
use Rattle.cct_model.specs.declared.judging.OpenOrder.{OpenOrder}
use Rattle.cct_model.specs.Device.{is_hopper}
use Rattle.cct_model.specs.Records.{order_in, order_named, is_open}

-- It is an open order with this id.
abbrev pub has_id : ℕ → Option OpenOrder → Bool
has_id id None = false
has_id id (Some o) = o.id == id

-- These are the open orders of the devices of a setup, in its order: an order is open by its id
-- where one of them has it, and each of them is the one that was opened last with its id.
pub record KeepsOrders (setup : Setup) (before : List Record) (orders : List (Option OpenOrder))
    : Type 0 where
  pub at_devices : orders ≡ map (λ d. order_in d.addr before) setup.devices
  pub opened : (id : ℕ) → is_open id before ≡ list_any (has_id id) orders
  pub named : (place : ℕ) (o : OpenOrder) → slice_get orders place ≡ Some (Some o) →
      order_named o.id before ≡ Some o

-- The place of the open order with an id, and that order, if there is one.
pub record Finds (id : ℕ) (orders : List (Option OpenOrder)) (result : Option (ℕ × OpenOrder))
    : Type 0 where
  pub found : IfSome result (λ found. slice_get orders found.0 ≡ Some (Some found.1))
  pub own : IfSome result (λ found. found.1.id ≡ id)
  pub is_open : is_none result ≡ not (list_any (has_id id) orders)

-- At this place among the devices is a hopper of this address.
pub record IsHopperAt (devices : List DeviceSetup) (addr place : ℕ) : Type 0 where
  pub device : DeviceSetup
  pub there : slice_get devices place ≡ Some device
  pub here : device.addr ≡ addr
  pub kind : is_hopper device.body ≡ true
