use Rattle.std.proofs.Common.{IfOk, subst, sym}
use Rattle.cct_probe_run.specs.Doing.{StepCame}
use Rattle.cct_probe_run.proofs.acting.act.Goals as goal

pub returns-in-Waits-clause-shows : goal.returns-in-Waits-clause-shows
returns-in-Waits-clause-shows g c = λ trials of_step. c.wait.ensures.shows trials

pub returns-in-Person-clause-shows : goal.returns-in-Person-clause-shows
returns-in-Person-clause-shows g c = λ trials of_step. c.prompt.ensures.shows c.args.plan.setup.now trials

pub returns-in-Waits-clause-came : goal.returns-in-Waits-clause-came
returns-in-Waits-clause-came g c = subst (λ s. IfOk c.wait.result (StepCame g.L.Line.reads g.L.Line.writes g.K.Sink.puts c.args.plan.setup.now c.args.plan.trials.now
    c.args.turn.device.now c.args.turn.round c.args.turn.premise s c.args.memory.now c.args.memory.now c.args.bench.now c.wait.new.bench))
    (sym c.in-Waits.is) (c.wait.ensures.came c.args.memory.now)

pub returns-in-Person-clause-came : goal.returns-in-Person-clause-came
returns-in-Person-clause-came g c = subst (λ s. IfOk c.prompt.result (StepCame g.L.Line.reads g.L.Line.writes g.K.Sink.puts c.args.plan.setup.now c.args.plan.trials.now
    c.args.turn.device.now c.args.turn.round c.args.turn.premise s c.args.memory.now c.args.memory.now c.args.bench.now c.prompt.new.bench))
    (sym c.in-Person.is) (c.prompt.ensures.came c.args.plan.setup.now c.args.plan.trials.now c.args.memory.now)

pub returns-in-Settles-clause-shows : goal.returns-in-Settles-clause-shows
returns-in-Settles-clause-shows g c = λ trials of_step. c.settle.ensures.shows trials

pub returns-in-Settles-clause-came : goal.returns-in-Settles-clause-came
returns-in-Settles-clause-came g c = subst (λ s. IfOk c.settle.result (StepCame g.L.Line.reads g.L.Line.writes g.K.Sink.puts c.args.plan.setup.now c.args.plan.trials.now
    c.args.turn.device.now c.args.turn.round c.args.turn.premise s c.args.memory.now c.args.memory.now c.args.bench.now c.settle.new.bench))
    (sym c.in-Settles.is) (c.settle.ensures.came c.args.memory.now)
