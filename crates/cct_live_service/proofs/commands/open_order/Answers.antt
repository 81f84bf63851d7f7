use Rattle.std.proofs.Common.{◌≡◌, ◌∙◌, ◌<◌, ◌≤◌, ap, arith, get_or, is_some, length, subst, sym}
use Rattle.cct_model.specs.terms.device.DeviceSetup.{DeviceSetup}
use Rattle.cct_model.specs.terms.device.Setup.{Setup}
use Rattle.cct_host.specs.Host.{setup_of}
use Rattle.cct_host.specs.Standing.{order_at}
use Rattle.cct_live_service.specs.Reported.{open_by}
use Rattle.cct_live_service.proofs.Ordering.{first_found, first_more, first_none, none_is}
use Rattle.cct_live_service.proofs.commands.open_order.Goals as goal

pub loop-device-preserved : goal.loop-device-preserved
loop-device-preserved g c =
    let setup = setup_of c.args.host.now in
    let ds = setup.devices in
    let id = c.args.id in
    let i = c.loop-device.device-index in
    let d = c.device-item.result in
    let lent = c.as_slice-device-items.ensures.value ∙ ap (λ (s : Setup). s.devices) c.setup.ensures in
    let inside : i < length ds = subst (λ l. i < length l) lent c.loop-device-test.true in
    let there : d ≡ get_or ds i d = c.device-item.is ∙ ap (λ l. get_or l i d) lent in
    λ past keeps.
    let tells = λ (x : DeviceSetup). open_by id x.addr (order_at setup past x.addr) in
    first_more tells ds i d inside there (c.loop-device.invariant past keeps)
    ∙ ap (open_by id d.addr) (sym (c.order_at.ensures.stands past keeps)) ∙ sym c.open_by-told.ensures
    ∙ none_is c.open_by-told.result (sym c.is_some.ensures ∙ c.if-is_some.false)

pub returns-then-is_some : goal.returns-then-is_some
returns-then-is_some g c =
    let setup = setup_of c.args.host.now in
    let ds = setup.devices in
    let id = c.args.id in
    let i = c.loop-device.device-index in
    let d = c.device-item.result in
    let lent = c.as_slice-device-items.ensures.value ∙ ap (λ (s : Setup). s.devices) c.setup.ensures in
    let inside : i < length ds = subst (λ l. i < length l) lent c.loop-device-test.true in
    let there : d ≡ get_or ds i d = c.device-item.is ∙ ap (λ l. get_or l i d) lent in
    record {
      known = λ past keeps.
          let tells = λ (x : DeviceSetup). open_by id x.addr (order_at setup past x.addr) in
          let is = c.open_by-told.ensures ∙ ap (open_by id d.addr) (c.order_at.ensures.stands past keeps) in
          is ∙ sym (first_found tells ds i d inside there (c.loop-device.invariant past keeps)
          (ap is_some (sym is) ∙ sym c.is_some.ensures ∙ c.if-is_some.true));
    }

pub returns : goal.returns
returns g c =
    let setup = setup_of c.args.host.now in
    let ds = setup.devices in
    let lent = c.as_slice-device-items.ensures.value ∙ ap (λ (s : Setup). s.devices) c.setup.ensures in
    record {
      known = λ past keeps. sym (first_none (λ (x : DeviceSetup). open_by c.args.id x.addr (order_at setup past x.addr)) ds
          c.loop-device.device-index (subst (λ l. length l ≤ c.loop-device.device-index) lent
          (omega (arith, c.loop-device-test.false))) (c.loop-device.invariant past keeps));
    }
