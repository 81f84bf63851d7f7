use Rattle.std.proofs.Common.{◌≡◌, None, map, take}
use Rattle.cct_ledger.proofs.lookup.none_open.Given as goal

abbrev pub invariant-loop-device : goal.invariant-loop-device
invariant-loop-device l = l.orders.items ≡ map (λ d. None) (take l._device-index l.devices)
