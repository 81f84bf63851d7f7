use Rattle.std.proofs.Common.{arith}
use Rattle.cct_probe_run.proofs.Tried.{line_next, line_whole, none_of_line, whatever}
use Rattle.cct_probe_run.specs.Plays.{not_begun}
use Rattle.cct_probe_run.proofs.runner.run_line.Goals as goal

pub loop-trial-init : goal.loop-trial-init
loop-trial-init g c = record {
  plays = λ first played. played;
  all = none_of_line g.L.Line.reads g.L.Line.writes g.K.Sink.puts c.args.plan.setup.now c.args.plan.trials.now c.args.device.now c.args.bench.now c.args.bench.now;
}

pub loop-trial-preserved : goal.loop-trial-preserved
loop-trial-preserved g c = record {
  plays = λ first played. c.try_on_line.ensures.plays first (c.loop-trial.invariant.plays first played);
  all = line_next g.L.Line.reads g.L.Line.writes g.K.Sink.puts c.args.plan.setup.now c.args.plan.trials.now c.args.device.now c.loop-trial.trial-index _
      c.args.bench.now c.loop-trial.bench c.try_on_line.new.bench c.loop-trial-test.true c.loop-trial.invariant.all
      (c.loop-trial.invariant.plays c.args.bench.now not_begun)
      (c.try_on_line.ensures.plays c.loop-trial.bench not_begun) c.in_ok-try_on_line.ensures.tried;
}

pub returns-clause-tried : goal.returns-clause-tried
returns-clause-tried g c = whatever c.tell_device.result _
    (line_whole g.L.Line.reads g.L.Line.writes g.K.Sink.puts c.args.plan.setup.now c.args.plan.trials.now c.args.device.now c.loop-trial.trial-index
    c.args.bench.now c.loop-trial.bench c.tell_device.new.bench (omega arith) c.loop-trial.invariant.all
    (c.tell_device.ensures.plays c.args.plan.setup.now c.args.plan.trials.now c.loop-trial.bench not_begun))
