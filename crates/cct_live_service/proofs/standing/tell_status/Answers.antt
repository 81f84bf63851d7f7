use Rattle.std.proofs.Common.{◌≡◌, ◌∙◌, ◌<◌, ◌≤◌, ◌+◌, IsErr, Ok, Err, Result, ap, arith, get_or, inr, length, refl, subst}
use Rattle.cct_edge.specs.declared.fault.Failed.{Failed}
use Rattle.cct_host.specs.Host.{setup_of}
use Rattle.cct_model.specs.terms.device.Setup.{Setup}
use Rattle.cct_live_service.specs.declared.notice.Notice.TheVariants as notice_of
use Rattle.cct_live_service.specs.Reported.{TellsDevice}
use Rattle.cct_live_service.proofs.Parts.{serves_none, serves_on, serves_then}
use Rattle.cct_live_service.proofs.Telling.{devices_more, devices_none, status_broken, status_ended, writes_two}
use Rattle.cct_live_service.proofs.standing.tell_status.Goals as goal

pub loop-device-init : goal.loop-device-init
loop-device-init g c =
    let sink = g.K.Sink in
    record {
      tells = devices_none sink.written sink.puts c.args.host.now c.args.page.now.watch c.args.out.now;
      watch = refl;
      serves = serves_none sink.written sink.faults c.args.out.now ⊥ (λ fails. fails);
    }

pub loop-device-preserved : goal.loop-device-preserved
loop-device-preserved g c =
    let sink = g.K.Sink in
    let before = c.loop-device.invariant in
    let ds = (setup_of c.args.host.now).devices in
    let i = c.loop-device.device-index in
    let d = c.device-item.result in
    let lent = c.as_slice-device-items.ensures.value ∙ ap (λ (s : Setup). s.devices) c.setup.ensures in
    let inside : i < length ds = subst (λ l. i < length l) lent c.loop-device-test.true in
    let there : d ≡ get_or ds i d = c.device-item.is ∙ ap (λ l. get_or l i d) lent in
    record {
      tells = devices_more sink.written sink.puts c.args.host.now c.args.page.now.watch ds i d c.args.out.now c.loop-device.out
          c.tell_device.new.out (Ok tt) inside there before.tells
          (subst (λ w. TellsDevice sink.written sink.puts c.args.host.now w d.addr c.loop-device.out (Ok tt)
          c.tell_device.new.out) before.watch c.in-Ok.ensures.tells);
      watch = c.in-Ok.ensures.watch ∙ before.watch;
      serves = serves_on sink.written sink.faults c.args.out.now c.loop-device.out c.tell_device.new.out before.serves
          c.in-Ok.ensures.serves;
    }

pub returns-in-Err : goal.returns-in-Err
returns-in-Err g c =
    let sink = g.K.Sink in
    let before = c.loop-device.invariant in
    let ds = (setup_of c.args.host.now).devices in
    let i = c.loop-device.device-index in
    let d = c.device-item.result in
    let lent = c.as_slice-device-items.ensures.value ∙ ap (λ (s : Setup). s.devices) c.setup.ensures in
    let inside : i < length ds = subst (λ l. i < length l) lent c.loop-device-test.true in
    let there : d ≡ get_or ds i d = c.device-item.is ∙ ap (λ l. get_or l i d) lent in
    let answer : Result (Unit {0}) Failed = Err c.in-Err.failed in
    record {
      tells = status_broken sink.written sink.puts c.args.host.now c.args.page.now.watch (i + 1) c.args.out.now c.tell_device.new.out c.in-Err.failed
          (devices_more sink.written sink.puts c.args.host.now c.args.page.now.watch ds i d c.args.out.now c.loop-device.out
          c.tell_device.new.out answer inside there before.tells
          (subst (λ w. TellsDevice sink.written sink.puts c.args.host.now w d.addr c.loop-device.out answer
          c.tell_device.new.out) before.watch c.in-Err.ensures.tells));
      watch = c.in-Err.ensures.watch ∙ before.watch;
      serves = serves_then sink.written sink.faults c.args.out.now c.loop-device.out c.tell_device.new.out ⊥ (IsErr answer)
          before.serves c.in-Err.ensures.serves (IsErr answer) (λ fails. inr fails);
    }

pub returns : goal.returns
returns g c =
    let sink = g.K.Sink in
    let before = c.loop-device.invariant in
    let i = c.loop-device.device-index in
    let lent = c.as_slice-device-items.ensures.value ∙ ap (λ (s : Setup). s.devices) c.setup.ensures in
    let whole : length (setup_of c.args.host.now).devices ≤ i =
    subst (λ l. length l ≤ i) lent (omega (arith, c.loop-device-test.false)) in
    let answer = c.tell_two.result in
    record {
      watch = before.watch;
      tells = status_ended sink.written sink.puts c.args.host.now c.args.page.now.watch i c.args.out.now c.loop-device.out c.tell_two.new.out
          c.last_id.result c.room.result answer whole before.tells
          (writes_two sink.written sink.puts c.args.host.now c.loop-device.out c.tell_two.new.out
          (notice_of.Last c.last_id.result) (notice_of.Room c.room.result) answer (tt, λ past keeps. c.last_id.ensures past keeps)
          (tt, λ past keeps. c.room.ensures past keeps) c.tell_two.ensures.tells);
      serves = serves_then sink.written sink.faults c.args.out.now c.loop-device.out c.tell_two.new.out ⊥ (IsErr answer)
          before.serves c.tell_two.ensures.serves (IsErr answer) (λ fails. inr fails);
    }
