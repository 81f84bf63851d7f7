use Rattle.std.proofs.Common.{◌≡◌, length}
use Rattle.std.specs.List.{All}
use Rattle.cct_host.specs.Desk.{IsFree}
use Rattle.cct_host.proofs.desks.free_desks.Given as goal

abbrev pub invariant-loop-device : goal.invariant-loop-device
invariant-loop-device l = (length l.desks.items ≡ l._device-index) × All IsFree l.desks.items
