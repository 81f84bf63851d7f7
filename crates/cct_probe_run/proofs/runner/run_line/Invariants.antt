-- What was done so far is of the plan, and of the trial.
use Rattle.std.proofs.Common.{take}
use Rattle.cct_probe_run.specs.Doing.{LineTried}
use Rattle.cct_probe_run.specs.Plays.{Plays}
use Rattle.cct_probe_run.specs.declared.bench.Bench.{Bench}
use Rattle.cct_probe_run.proofs.runner.run_line.Given as goal

abbrev pub invariant-loop-trial : goal.invariant-loop-trial
invariant-loop-trial g l = record {
  plays : (first : Bench g.row.L.Denot g.row.K.Denot) → Plays g.L.Line.reads g.L.Line.writes g.K.Sink.puts l.plan.setup.now l.plan.trials.now first l.fn.bench → Plays g.L.Line.reads g.L.Line.writes g.K.Sink.puts l.plan.setup.now l.plan.trials.now first l.bench;
  all : LineTried g.L.Line.reads g.L.Line.writes g.K.Sink.puts l.plan.setup.now l.plan.trials.now l.device (take l.trial-index l.plan.trials.now) l.fn.bench l.bench;
}
