-- The tests of a carry that is read: whether it fits a setup.
use Rattle.std.specs.Prelude.{◌+◌, ◌==◌, ◌&&◌, nat_le, not, Bool, true, List, [], ◌∷◌}
use Rattle.std.specs.List.{list_all}
use Rattle.cct_model.specs.terms.device.Setup.{Setup}
use Rattle.cct_model.specs.lines.carry.Carry.{Carry}
use Rattle.cct_model.specs.lines.carry.CarryOrder.{CarryOrder}
use Rattle.cct_model.specs.Carry.{owed_by}
use Rattle.cct_model.specs.Exchange.{device_at, hopper_there, taker_there}

-- No two orders have one id.
abbrev pub are_apart : List CarryOrder → Bool
are_apart [] = true
are_apart (o ∷ orders) = list_all (λ other. not (other.id == o.id)) orders && are_apart orders

-- The value posted covers what was paid and sold and what is reserved.
abbrev pub covers : Setup → Carry → Bool
covers setup c = nat_le (c.paid_value + c.odd_value + c.sold + owed_by setup c.orders) c.value

-- A carry fits a setup.
abbrev pub fits : Setup → Carry → Bool
fits setup c =
    list_all (λ e. taker_there (device_at setup.devices e.addr)) c.epochs
    && list_all (λ o. hopper_there (device_at setup.devices o.addr)) c.orders
    && list_all (λ o. nat_le o.id c.last_id) c.orders && are_apart c.orders && covers setup c
