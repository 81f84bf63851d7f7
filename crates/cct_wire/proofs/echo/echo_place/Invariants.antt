use Rattle.std.proofs.Common.{◌≡◌, ◌+◌, ◌-◌, length, drop}
use Rattle.cct_wire.specs.Echo.{echo_place}
use Rattle.cct_wire.proofs.echo.echo_place.Given as goal

abbrev pub invariant-loop-at : goal.invariant-loop-at
invariant-loop-at l = l.at + echo_place (drop l.at l.sent) (drop l.at l.heard) ≡ echo_place l.sent l.heard

abbrev pub decreases-loop-at : goal.decreases-loop-at
decreases-loop-at l = length l.initial.sent - l.at
