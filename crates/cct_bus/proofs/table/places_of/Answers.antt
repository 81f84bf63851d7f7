use Rattle.std.proofs.Common.{◌∙◌, ◌≡◌, ◌<◌, ap, set, get_or, arith}
use Rattle.std.proofs.lemmas.List.{take_all}
use Rattle.cct_model_wire.specs.Places.{places_of}
use Rattle.cct_model_wire.proofs.Places.{no_place}
use Rattle.cct_bus.specs.Device.{setup_in, setups_in}
use Rattle.cct_bus.proofs.Tables.{table_more}
use Rattle.cct_bus.proofs.table.places_of.Goals as goal

pub loop-index-init : goal.loop-index-init
loop-index-init c = no_place

pub loop-index-preserved : goal.loop-index-preserved
loop-index-preserved c =
    let devices = c.args.devices.now in
    let i = c.loop-index.index in
    let table = c.loop-index.places in
    let y = c.index-devices-index.result in
    let is : y ≡ get_or devices i y = c.index-devices-index.is in
    let low : (setup_in (get_or devices i y)).addr < 256 = omega (arith, ap (λ d. (setup_in d).addr) is) in
    ap (λ r. set table (setup_in (get_or devices i y)).addr r) c.or.ensures
    ∙ table_more devices i y table (omega arith) low c.loop-index.invariant

pub returns : goal.returns
returns c = c.loop-index.invariant ∙ ap (λ ds. places_of (setups_in ds)) (take_all c.loop-index.index c.args.devices.now (omega arith))
