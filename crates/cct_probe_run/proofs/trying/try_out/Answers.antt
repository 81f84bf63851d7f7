use Rattle.std.proofs.Common.{[]}
use Rattle.std.proofs.lemmas.Result.{IfOk-weaker}
use Rattle.cct_probe_run.proofs.Tried.{lacks_came, try_came}
use Rattle.cct_probe_run.specs.Doing.{Concludes, TryCame}
use Rattle.cct_probe_run.specs.Plays.{not_begun}
use Rattle.cct_probe_run.proofs.trying.try_out.Goals as goal

pub returns-in-Some-clause-came : goal.returns-in-Some-clause-came
returns-in-Some-clause-came g c = lacks_came g.L.Line.reads g.L.Line.writes g.K.Sink.puts c.args.plan.setup.now c.args.plan.trials.now c.args.device.now c.args.trial.now _
    c.args.bench.now c.in-Some.ensures

pub returns-clause-came : goal.returns-clause-came
returns-clause-came g c = IfOk-weaker c.conclude.result
    (Concludes g.L.Line.reads g.L.Line.writes g.K.Sink.puts c.args.plan.setup.now c.args.plan.trials.now c.in_ok-done.done c.go.new.bench c.conclude.new.bench)
    (TryCame g.L.Line.reads g.L.Line.writes g.K.Sink.puts c.args.plan.setup.now c.args.plan.trials.now c.args.device.now c.args.trial.now c.args.bench.now c.conclude.new.bench)
    (λ answered concludes. try_came g.L.Line.reads g.L.Line.writes g.K.Sink.puts c.args.plan.setup.now c.args.plan.trials.now c.args.device.now c.args.trial.now
    c.args.memory.now c.go.new.memory c.args.bench.now c.tell_begin.new.bench c.go.new.bench c.conclude.new.bench c.in_ok-done.done answered
    (c.tell_begin.ensures.plays c.args.plan.setup.now [] c.args.bench.now not_begun)
    (c.tell_begin.ensures.plays c.args.plan.setup.now c.args.plan.trials.now c.args.bench.now not_begun)
    (c.go.ensures.plays c.tell_begin.new.bench not_begun) c.in_ok-done.ensures.came concludes)
    c.conclude.ensures.concludes
