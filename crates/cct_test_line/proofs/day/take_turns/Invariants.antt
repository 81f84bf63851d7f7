use Rattle.std.proofs.Common.{◌≡◌, false}
use Rattle.cct_host.specs.Host.{has_failed}
use Rattle.cct_test_line.proofs.day.take_turns.Given as goal

-- No put failed.
abbrev pub invariant-loop : goal.invariant-loop
invariant-loop l = has_failed l.host ≡ false
