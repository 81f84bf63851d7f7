use Rattle.std.proofs.Common.{◌≡◌, ◌≤◌, flat_map, length, take}
use Rattle.cct_monitor.specs.Machine.{ends_on}
use Rattle.cct_monitor.proofs.places.finish_devices.Given as goal

abbrev pub invariant-loop-device : goal.invariant-loop-device
invariant-loop-device l =
    (l.report.items ≡ flat_map ends_on (take l.device-index l.devices)) × (length l.report.items ≤ l.device-index)
