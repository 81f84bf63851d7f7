use Rattle.std.proofs.Common.{◌<◌, length, get_or, sym, ◌∙◌, arith}
use Rattle.cct_model_wire.proofs.Replaced.{renewed-here, renewed-there, replaces_more}
use Rattle.cct_model_wire.proofs.device.replace_in.Goals as goal
use Rattle.cct_model_wire.proofs.device.replace_in.Goals.{then-place-device, else-place-device}

pub loop-place-preserved : goal.loop-place-preserved
loop-place-preserved c =
    let device = c.args.device.now in
    let now = c.loop-place.devices in
    let i = c.loop-place.place-index in
    let d = c.place-item.result in
    let x = get_or now i d in
    let inside : i < length now = omega arith in
    elim c.if-place-device.branch [
      | then-place-device w ↦
          replaces_more device c.args.devices.now now _ i d w.copied.result inside c.loop-place.invariant w.devices-is
          (w.copied.ensures ∙ sym (renewed-here device x w.if-place-device.true))
      | else-place-device w ↦
          replaces_more device c.args.devices.now now _ i d x inside c.loop-place.invariant w.devices-is
          (sym (renewed-there device x w.if-place-device.false))
    ]
