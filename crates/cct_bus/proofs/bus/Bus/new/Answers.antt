use Rattle.std.proofs.Common.{◌∙◌, length, ap, arith}
use Rattle.cct_model.specs.Exchange.{by_address}
use Rattle.cct_model_wire.specs.Places.{places_of}
use Rattle.cct_bus.specs.Device.{setups_in}
use Rattle.cct_bus.proofs.Orders.{answers_short}
use Rattle.cct_bus.proofs.Tables.{many_in_order}
use Rattle.cct_bus.proofs.bus.Bus.new.Goals as goal

pub invariant_of-result : goal.invariant_of-result
invariant_of-result c = record {
  order = c.in_ok-devices.ensures.order ∙ ap by_address c.as_slice.ensures.value;
  table = c.places_of-places.ensures ∙ ap (λ ds. places_of (setups_in ds)) c.deref.ensures.value;
  room = λ piece. answers_short piece _ c.requires.sound.devices c.requires.sound.distinct (omega (arith, ap length c.as_slice.ensures.value));
  short = λ piece is. absurd cc;
}

pub places_of-places-requires : goal.places_of-places-requires
places_of-places-requires c =
    omega (arith, ap length c.deref.ensures.value, many_in_order c.in_ok-devices.devices.items c.as_slice.result.now c.in_ok-devices.ensures.order, ap length c.as_slice.ensures.value)
