use Rattle.std.proofs.Common.{◌-◌}
use Rattle.cct_script.specs.Giving.{standing_of}
use Rattle.cct_bench.proofs.Going.{Opens}
use Rattle.cct_bench.proofs.opening.read_setup.Given as goal

abbrev pub invariant-loop-number : goal.invariant-loop-number
invariant-loop-number g l =
    let source = g.S.Source in
    Opens source.takes source.left source.faults l.fn.script l.script (standing_of l.lines) l.number l.setup

abbrev pub decreases-loop-number : goal.decreases-loop-number
decreases-loop-number g l = 1048578 - l.number
