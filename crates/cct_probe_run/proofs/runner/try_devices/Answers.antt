use Rattle.std.proofs.Common.{◌<◌, ◌∙◌, ap, arith, get_or, length, subst}
use Rattle.cct_probe_run.proofs.Tried.{each_next, each_whole}
use Rattle.cct_probe_run.specs.Plays.{not_begun}
use Rattle.cct_probe_run.proofs.runner.try_devices.Goals as goal

pub loop-device-preserved : goal.loop-device-preserved
loop-device-preserved g c =
    let lent = c.as_slice-device-items.ensures.value in
    let device = c.device-item.result in
    record {
      plays = λ first played. c.run_device.ensures.plays first (c.loop-device.invariant.plays first played);
      each = each_next g.L.Line.reads g.L.Line.writes g.K.Sink.puts c.args.plan.setup.now c.args.plan.trials.now c.args.plan.setup.now.devices c.loop-device.device-index device
          c.args.bench.now c.loop-device.bench c.run_device.new.bench
          (subst (λ l. c.loop-device.device-index < length l) lent c.loop-device-test.true)
          (c.device-item.is ∙ ap (λ l. get_or l c.loop-device.device-index device) lent) c.loop-device.invariant.each
          (c.loop-device.invariant.plays c.args.bench.now not_begun) (c.run_device.ensures.plays c.loop-device.bench not_begun)
          c.in_ok-answers.ensures.tried;
    }

pub returns-clause-tried : goal.returns-clause-tried
returns-clause-tried g c = each_whole g.L.Line.reads g.L.Line.writes g.K.Sink.puts c.args.plan.setup.now c.args.plan.trials.now c.args.plan.setup.now.devices c.loop-device.device-index
    c.args.bench.now c.loop-device.bench c.loop-device.bench (omega (arith, ap length c.as_slice-device-items.ensures.value)) c.loop-device.invariant.each not_begun
