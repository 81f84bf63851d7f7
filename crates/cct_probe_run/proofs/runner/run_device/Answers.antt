use Rattle.std.proofs.Common.{arith}
use Rattle.cct_probe_run.proofs.Tried.{all_next, all_whole, none_tried}
use Rattle.cct_probe_run.specs.Plays.{not_begun}
use Rattle.cct_probe_run.proofs.runner.run_device.Goals as goal

pub loop-trial-init : goal.loop-trial-init
loop-trial-init g c = record {
  plays = λ first played. played;
  all = none_tried g.L.Line.reads g.L.Line.writes g.K.Sink.puts c.args.plan.setup.now c.args.plan.trials.now c.args.device.now c.args.bench.now c.args.bench.now;
  here = tt;
}

pub loop-trial-preserved : goal.loop-trial-preserved
loop-trial-preserved g c =
    let next = c.in_ok-presence.ensures.tried c.args.bench.now (c.loop-trial.invariant.plays c.args.bench.now not_begun) c.loop-trial.invariant.here in
    record {
      plays = λ first played. c.try_next.ensures.plays first (c.loop-trial.invariant.plays first played);
      all = all_next g.L.Line.reads g.L.Line.writes g.K.Sink.puts c.args.plan.setup.now c.args.plan.trials.now c.args.device.now c.loop-trial.trial-index _
          c.args.bench.now c.loop-trial.bench c.try_next.new.bench c.loop-trial-test.true c.loop-trial.invariant.all
          (c.try_next.ensures.plays c.loop-trial.bench not_begun) next.0;
      here = next.1;
    }

pub returns-clause-tried : goal.returns-clause-tried
returns-clause-tried g c = all_whole g.L.Line.reads g.L.Line.writes g.K.Sink.puts c.args.plan.setup.now c.args.plan.trials.now c.args.device.now c.loop-trial.trial-index
    c.args.bench.now c.loop-trial.bench c.tell_coins.new.bench (omega arith) c.loop-trial.invariant.all
    (c.tell_coins.ensures.plays c.args.plan.setup.now c.args.plan.trials.now c.loop-trial.bench
    (c.tell_device.ensures.plays c.args.plan.setup.now c.args.plan.trials.now c.loop-trial.bench not_begun))
