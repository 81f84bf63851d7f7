use Rattle.std.proofs.Common.{◌∙◌, ◌≡◌, length, map, ap, sym, arith}
use Rattle.std.specs.List.{refill}
use Rattle.std.proofs.lemmas.List.{length-map}
use Rattle.cct_model_wire.specs.Places.{places_of}
use Rattle.cct_model_wire.proofs.Places.{places_renewed, refilled}
use Rattle.cct_model_wire.proofs.Replaced.{renewed}
use Rattle.cct_model_wire.proofs.device.Devices.replace.Goals as goal

pub invariant_of-self : goal.invariant_of-self
invariant_of-self c =
    let ds = c.self.inside.devices.items in
    let here = renewed c.args.device.now in
    let news : c.replace_in.new.devices ≡ map here ds = c.replace_in.ensures ∙ ap (λ es. map here es) c.as_mut_slice.ensures.value in
    let now : refill (length ds) ds c.replace_in.new.devices ≡ map here ds =
    refilled ds c.replace_in.new.devices (sym (ap length news ∙ length-map ds here)) ∙ news in (
      omega (arith, ap length now ∙ length-map ds here, c.self.invariant.0),
      c.self.invariant.1 ∙ places_renewed c.args.device.now ds ∙ ap places_of (sym now),
    )
