use Rattle.std.proofs.Common.{◌≡◌, false}
use Rattle.cct_host.specs.Host.{has_failed}
use Rattle.cct_test_line.proofs.day.run.Given as goal

-- No put failed.
abbrev pub invariant-loop-step : goal.invariant-loop-step
invariant-loop-step l = has_failed l.host ≡ false
