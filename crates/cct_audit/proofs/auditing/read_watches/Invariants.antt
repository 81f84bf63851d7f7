use Rattle.std.proofs.Common.{◌-◌}
use Rattle.cct_edge.specs.Bytes.{Serves}
use Rattle.cct_script.specs.Giving.{standing_of}
use Rattle.cct_audit.specs.Going.{Opens}
use Rattle.cct_audit.proofs.auditing.read_watches.Given as goal

abbrev pub invariant-loop-number : goal.invariant-loop-number
invariant-loop-number g l =
    let source = g.S.Source in
    Opens (source.left l.fn.script) (source.left l.script) (standing_of l.lines) l.number l.monitor l.fn.monitor
    (Serves source.left source.faults l.fn.script l.script ⊥)

abbrev pub decreases-loop-number : goal.decreases-loop-number
decreases-loop-number g l = 1048578 - l.number
