-- What was done so far is of the plan, and of the trial.
use Rattle.std.proofs.Common.{take}
use Rattle.cct_probe_run.specs.Doing.{EachTried}
use Rattle.cct_probe_run.specs.Plays.{Plays}
use Rattle.cct_probe_run.specs.declared.bench.Bench.{Bench}
use Rattle.cct_probe_run.proofs.runner.try_devices.Given as goal

abbrev pub invariant-loop-device : goal.invariant-loop-device
invariant-loop-device g l = record {
  plays : (first : Bench g.row.L.Denot g.row.K.Denot) → Plays g.L.Line.reads g.L.Line.writes g.K.Sink.puts l.plan.setup.now l.plan.trials.now first l.fn.bench → Plays g.L.Line.reads g.L.Line.writes g.K.Sink.puts l.plan.setup.now l.plan.trials.now first l.bench;
  each : EachTried g.L.Line.reads g.L.Line.writes g.K.Sink.puts l.plan.setup.now l.plan.trials.now (take l.device-index l.plan.setup.now.devices) l.fn.bench l.bench;
}
