use Rattle.std.proofs.Common.{◌≡◌, take}
use Rattle.cct_model_wire.specs.Places.{places_of}
use Rattle.cct_bus.specs.Device.{setups_in}
use Rattle.cct_bus.proofs.table.places_of.Given as goal

abbrev pub invariant-loop-index : goal.invariant-loop-index
invariant-loop-index l = l.places ≡ places_of (setups_in (take l.index l.devices))
