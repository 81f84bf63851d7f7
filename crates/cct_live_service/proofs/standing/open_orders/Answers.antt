use Rattle.std.proofs.Common.{◌∙◌, ap, arith, false, is_some, sym, true}
use Rattle.cct_model.specs.terms.device.DeviceSetup.{DeviceSetup}
use Rattle.cct_model.specs.terms.device.Setup.{Setup}
use Rattle.cct_host.specs.Host.{setup_of}
use Rattle.cct_live_service.proofs.Counting.{counted_lent}
use Rattle.cct_live_service.proofs.standing.open_orders.Goals as goal
use Rattle.cct_live_service.proofs.standing.open_orders.Goals.{then-is_some, else-is_some}

pub loop-device-preserved : goal.loop-device-preserved
loop-device-preserved g c =
    let before = c.loop-device.invariant in
    let ds = (setup_of c.args.host.now).devices in
    let lent = c.as_slice-device-items.ensures.value ∙ ap (λ (s : Setup). s.devices) c.setup.ensures in
    let found = c.order_at.ensures.begins in
    elim c.if-is_some.branch [
      | then-is_some w ↦ record {
        few = omega (arith, before.few, w.count-is);
        counts = λ k last begins. counted_lent (λ (d : DeviceSetup). is_some (k.order_at d.addr)) ds _ c.loop-device.device-index
            c.loop-device.count _ c.device-item.result true lent c.loop-device-test.true c.device-item.is
            (λ there. ap is_some (sym (found k last begins there)) ∙ sym c.is_some.ensures ∙ w.if-is_some.true)
            (before.counts k last begins) w.count-is;
      }
      | else-is_some w ↦ record {
        few = omega (arith, before.few, w.count-is);
        counts = λ k last begins. counted_lent (λ (d : DeviceSetup). is_some (k.order_at d.addr)) ds _ c.loop-device.device-index
            c.loop-device.count _ c.device-item.result false lent c.loop-device-test.true c.device-item.is
            (λ there. ap is_some (sym (found k last begins there)) ∙ sym c.is_some.ensures ∙ w.if-is_some.false)
            (before.counts k last begins) (omega (arith, w.count-is));
      }
    ]
