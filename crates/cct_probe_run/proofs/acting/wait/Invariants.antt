-- What was done so far is of the plan, and each status had coins left to pay.
use Rattle.cct_probe_run.specs.Doing.{Unpaid}
use Rattle.cct_probe_run.specs.Plays.{Plays}
use Rattle.cct_probe_run.specs.declared.bench.Bench.{Bench}
use Rattle.cct_probe_run.proofs.acting.wait.Given as goal

abbrev pub invariant-loop-asked : goal.invariant-loop-asked
invariant-loop-asked g l = record {
  plays : (first : Bench g.row.L.Denot g.row.K.Denot) → Plays g.L.Line.reads g.L.Line.writes g.K.Sink.puts l.plan.setup.now l.plan.trials.now first l.fn.bench → Plays g.L.Line.reads g.L.Line.writes g.K.Sink.puts l.plan.setup.now l.plan.trials.now first l.bench;
  unpaid : Unpaid g.L.Line.reads g.L.Line.writes g.K.Sink.puts l.plan.setup.now l.plan.trials.now l.turn.device.now l.turn.round l._asked l.fn.bench l.bench;
}
