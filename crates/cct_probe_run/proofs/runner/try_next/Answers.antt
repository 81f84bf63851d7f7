use Rattle.cct_probe_run.proofs.Tried.{next_gone, next_silent, next_there}
use Rattle.cct_probe_run.proofs.runner.try_next.Goals as goal

pub returns-then-branch-clause-tried : goal.returns-then-branch-clause-tried
returns-then-branch-clause-tried g c = λ first played here. next_there g.L.Line.reads g.L.Line.writes g.K.Sink.puts c.args.plan.setup.now c.args.plan.trials.now
    c.args.device.now c.args.trial.now first c.args.bench.now c.try_and_close.new.bench c.in_ok-try_and_close-in-Here.field-0 played
    c.in_ok-try_and_close-in-Here.ensures.came

pub returns-else-branch-clause-tried : goal.returns-else-branch-clause-tried
returns-else-branch-clause-tried g c = λ first played here. next_gone g.L.Line.reads g.L.Line.writes g.K.Sink.puts c.args.plan.setup.now c.args.plan.trials.now
    c.args.device.now c.args.trial.now first c.args.bench.now c.try_and_close.new.bench c.in_ok-try_and_close-in-Here.field-0
    c.requires.of_plan played c.in_ok-try_and_close-in-Here.ensures.came c.if-branch.false

pub returns-then-branch-2-clause-tried : goal.returns-then-branch-2-clause-tried
returns-then-branch-2-clause-tried g c = λ first played here. next_there g.L.Line.reads g.L.Line.writes g.K.Sink.puts c.args.plan.setup.now c.args.plan.trials.now
    c.args.device.now c.args.trial.now first c.args.bench.now c.try_and_close-in-Unknown.new.bench c.in_ok-try_and_close-in-Unknown.field-0 played
    c.in_ok-try_and_close-in-Unknown.ensures.came

pub returns-else-branch-2-clause-tried : goal.returns-else-branch-2-clause-tried
returns-else-branch-2-clause-tried g c = λ first played here. next_silent g.L.Line.reads g.L.Line.writes g.K.Sink.puts c.args.plan.setup.now c.args.plan.trials.now
    c.args.device.now c.args.trial.now first c.args.bench.now c.try_and_close-in-Unknown.new.bench c.in_ok-try_and_close-in-Unknown.field-0
    c.requires.of_plan played c.in_ok-try_and_close-in-Unknown.ensures.came c.if-branch-2.false
