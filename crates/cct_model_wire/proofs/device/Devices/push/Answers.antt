use Rattle.std.proofs.Common.{◌∙◌, ◌<◌, ◌∷◌, [], ap, length, set, sym, arith, None, Some, get_or}
use Rattle.std.specs.Option.{option_or}
use Rattle.std.proofs.lemmas.List.{length-append}
use Rattle.cct_model_wire.specs.Places.{places_of}
use Rattle.cct_model_wire.proofs.Places.{placed_more}
use Rattle.cct_model_wire.proofs.device.Devices.push.Goals as goal

pub invariant_of-self : goal.invariant_of-self
invariant_of-self c =
    let ds = c.self.inside.devices.items in
    let d = c.args.device in
    let low : d.addr < 256 = omega arith in (
      omega (arith, ap length c.push.ensures.items ∙ length-append ds (d ∷ []), ap length c.self.view_is),
      ap (λ r. set c.self.inside.places d.addr r) (c.or.ensures ∙ ap (λ n. option_or (get_or c.self.inside.places d.addr None) (Some n)) c.len-place.ensures.value)
          ∙ ap (λ t. set t d.addr (option_or (get_or t d.addr None) (Some (length ds)))) c.self.invariant.1
          ∙ placed_more ds d low
          ∙ ap places_of (sym c.push.ensures.items),
    )
