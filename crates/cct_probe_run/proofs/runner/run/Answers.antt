use Rattle.cct_probe_run.proofs.Tried.{done_on}
use Rattle.cct_probe_run.specs.Plays.{not_begun}
use Rattle.cct_probe_run.proofs.runner.run.Goals as goal

pub returns-in_err-is_heard-clause-leaves : goal.returns-in_err-is_heard-clause-leaves
returns-in_err-is_heard-clause-leaves g c =
    (c.try_all-tried.new.bench, c.try_all-tried.ensures.plays c.args.bench.now not_begun, c.leave-left.ensures.leaves)

pub returns-in_err-left-clause-leaves : goal.returns-in_err-left-clause-leaves
returns-in_err-left-clause-leaves g c =
    (c.try_all-tried.new.bench, c.try_all-tried.ensures.plays c.args.bench.now not_begun, c.leave-left.ensures.leaves)

pub returns-clause-leaves : goal.returns-clause-leaves
returns-clause-leaves g c =
    (c.try_all-tried.new.bench, c.try_all-tried.ensures.plays c.args.bench.now not_begun, c.leave-left.ensures.leaves)

pub returns-clause-tries : goal.returns-clause-tries
returns-clause-tries g c = done_on g.L.Line.reads g.L.Line.writes g.K.Sink.puts c.args.plan.setup.now c.args.plan.trials.now c.in_ok-is_heard.is_heard _
    c.args.bench.now c.try_all-tried.new.bench c.leave-left.new.bench c.in_ok-is_heard.ensures.tries
    (c.leave-left.ensures.plays c.try_all-tried.new.bench not_begun) c.ending_of.ensures.heard
