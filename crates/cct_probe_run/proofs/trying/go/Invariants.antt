-- What was done so far is of the plan, and of the trial.
use Rattle.cct_probe_run.specs.Doing.{RoundsDone}
use Rattle.cct_probe_run.specs.Plays.{Plays}
use Rattle.cct_probe_run.specs.declared.bench.Bench.{Bench}
use Rattle.cct_probe_run.proofs.trying.go.Given as goal

abbrev pub invariant-loop-round : goal.invariant-loop-round
invariant-loop-round g l = record {
  plays : (first : Bench g.row.L.Denot g.row.K.Denot) → Plays g.L.Line.reads g.L.Line.writes g.K.Sink.puts l.plan.setup.now l.plan.trials.now first l.fn.bench → Plays g.L.Line.reads g.L.Line.writes g.K.Sink.puts l.plan.setup.now l.plan.trials.now first l.bench;
  rounds : RoundsDone g.L.Line.reads g.L.Line.writes g.K.Sink.puts l.plan.setup.now l.plan.trials.now l.device l.trial l.round l.fn.memory l.memory l.fn.bench l.bench;
}
