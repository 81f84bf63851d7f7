use Rattle.std.proofs.Common.{◌≡◌, ◌*◌, None}
use Rattle.std.specs.Prelude.{find}
use Rattle.cct_model_lines.specs.DeviceSet.{has, addresses_below}
use Rattle.cct_model_lines.proofs.device_set.DeviceSet.first.Given as goal

abbrev pub invariant-loop-index : goal.invariant-loop-index
invariant-loop-index l = find (has l.self) (addresses_below (l.index * 64)) ≡ None
