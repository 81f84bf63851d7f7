use Rattle.std.proofs.Common.{◌≡◌}
use Rattle.cct_probe_plan.specs.Values.{counter_after}
use Rattle.cct_probe_plan.proofs.values.counter_after.Given as goal

abbrev pub invariant-loop-event : goal.invariant-loop-event
invariant-loop-event l = l.after ≡ counter_after l.counter l._event
