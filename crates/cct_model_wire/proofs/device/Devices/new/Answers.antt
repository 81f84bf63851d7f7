use Rattle.std.proofs.Common.{◌∙◌, ap, length, sym, arith}
use Rattle.cct_model_wire.specs.Places.{places_of}
use Rattle.cct_model_wire.proofs.Places.{no_place}
use Rattle.cct_model_wire.proofs.device.Devices.new.Goals as goal

pub invariant_of-result : goal.invariant_of-result
invariant_of-result c = (omega (arith, ap length c.new.ensures), no_place ∙ ap places_of (sym c.new.ensures))
