use Rattle.std.proofs.Common.{◌≡◌, map, take}
use Rattle.cct_model.specs.Carry.{order_held}
use Rattle.cct_ledger.proofs.resumed.open_orders.Given as goal

abbrev pub invariant-loop-device : goal.invariant-loop-device
invariant-loop-device l = l.orders.items ≡ map (λ d. order_held d.addr l.carry) (take l.device-index l.devices)
