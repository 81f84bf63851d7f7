-- Each device so far has its desk, at which no job is.
use Rattle.std.proofs.Common.{◌≡◌, length, take}
use Rattle.std.specs.List.{All}
use Rattle.cct_model.specs.terms.device.Setup.{Setup}
use Rattle.cct_model.specs.Carry.{known_by}
use Rattle.cct_host.specs.Replayed.{AllReplay, IsUnused}
use Rattle.cct_host.proofs.recorded.resumed_desks.Given as goal

abbrev pub invariant-loop-device : goal.invariant-loop-device
invariant-loop-device l = record {
  many : length l.desks.items ≡ l.device-index;
  unused : All IsUnused l.desks.items;
  resumed : (setup : Setup) → AllReplay (take l.device-index l.devices) l.desks.items (known_by setup l.carry);
}
