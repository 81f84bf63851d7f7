-- What was done so far is of the plan.
use Rattle.cct_probe_run.specs.Plays.{Plays}
use Rattle.cct_probe_run.specs.declared.bench.Bench.{Bench}
use Rattle.cct_probe_run.proofs.acting.settle.Given as goal

abbrev pub invariant-loop : goal.invariant-loop
invariant-loop g l =
    (first : Bench g.row.L.Denot g.row.K.Denot) → Plays g.L.Line.reads g.L.Line.writes g.K.Sink.puts l.plan.setup.now l.plan.trials.now first l.fn.bench → Plays g.L.Line.reads g.L.Line.writes g.K.Sink.puts l.plan.setup.now l.plan.trials.now first l.bench
