-- What was done so far is of the plan.
use Rattle.std.proofs.Common.{◌≡◌, List}
use Rattle.cct_model_wire.specs.declared.device.Setup.{Setup}
use Rattle.cct_probe_plan.specs.declared.plan.Trial.{Trial}
use Rattle.cct_probe_run.specs.Plays.{Plays}
use Rattle.cct_probe_run.specs.declared.bench.Bench.{Bench}
use Rattle.cct_probe_run.proofs.summary.tell_each.Given as goal

abbrev pub invariant-loop-found : goal.invariant-loop-found
invariant-loop-found g l =
    ((setup : Setup) (trials : List Trial) (first : Bench g.row.L.Denot g.row.K.Denot) → Plays g.L.Line.reads g.L.Line.writes g.K.Sink.puts setup trials first l.fn.bench → Plays g.L.Line.reads g.L.Line.writes g.K.Sink.puts setup trials first l.bench)
    × (l.bench.broken ≡ l.fn.bench.broken)
