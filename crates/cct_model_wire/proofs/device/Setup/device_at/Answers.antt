use Rattle.std.proofs.Common.{◌∙◌, ap, sym}
use Rattle.std.specs.Option.{option_map}
use Rattle.cct_model_wire.proofs.Places.{found_nowhere, stands_there}
use Rattle.cct_model_wire.proofs.device.Setup.device_at.Goals as goal

pub returns-in_err-place : goal.returns-in_err-place
returns-in_err-place c =
    ap (λ r. option_map (λ d. d.now) r) c.from_residual.ensures
    ∙ sym (found_nowhere c.args.self.now.devices c.args.addr (sym c.place_of.ensures.first ∙ c.in_err-place.was))

pub returns : goal.returns
returns c =
    stands_there c.args.self.now.devices c.as_slice.result.now c.args.addr c.in_ok-place.place
    c.index-as_slice-place.result c.as_slice.ensures.value (sym c.place_of.ensures.first ∙ c.in_ok-place.was)
    c.index-as_slice-place.is
