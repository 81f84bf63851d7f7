use Rattle.cct_probe_run.proofs.Tried.{try_also}
use Rattle.cct_probe_run.specs.Plays.{not_begun}
use Rattle.cct_probe_run.proofs.runner.try_and_close.Goals as goal

pub returns-then-answered-clause-came : goal.returns-then-answered-clause-came
returns-then-answered-clause-came g c = try_also g.L.Line.reads g.L.Line.writes g.K.Sink.puts c.args.plan.setup.now c.args.plan.trials.now c.args.device.now c.args.trial.now
    c.args.bench.now c.try_out.new.bench c.close.new.bench c.in_ok-answered.answered c.in_ok-answered.answered c.in_ok-answered.ensures.came
    (c.close.ensures.plays c.try_out.new.bench not_begun) (λ isnt. isnt)

pub returns-else-answered-clause-came : goal.returns-else-answered-clause-came
returns-else-answered-clause-came g c = try_also g.L.Line.reads g.L.Line.writes g.K.Sink.puts c.args.plan.setup.now c.args.plan.trials.now c.args.device.now c.args.trial.now
    c.args.bench.now c.try_out.new.bench c.close.new.bench c.in_ok-answered.answered c.is_answered.result c.in_ok-answered.ensures.came
    (c.close.ensures.plays c.try_out.new.bench not_begun) (λ isnt. c.if-answered.false)
