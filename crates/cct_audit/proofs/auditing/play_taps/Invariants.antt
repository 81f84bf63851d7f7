use Rattle.std.proofs.Common.{◌-◌}
use Rattle.cct_edge.specs.Bytes.{Serves}
use Rattle.cct_script.specs.Giving.{standing_of}
use Rattle.cct_audit.specs.Going.{Taps}
use Rattle.cct_audit.specs.Writing.{WroteLines}
use Rattle.cct_audit.proofs.auditing.play_taps.Given as goal

abbrev pub invariant-loop-lines : goal.invariant-loop-lines
invariant-loop-lines g l =
    let source = g.S.Source in
    let sink = g.K.Sink in
    Taps l.fn.first (source.left l.fn.script) (source.left l.script) (standing_of l.fn.lines) (standing_of l.lines) l.number
    l.fn.monitor l.monitor (WroteLines sink.written sink.puts l.fn.out l.out)
    (Serves source.left source.faults l.fn.script l.script ⊥) (Serves sink.written sink.faults l.fn.out l.out ⊥)

abbrev pub decreases-loop-lines : goal.decreases-loop-lines
decreases-loop-lines g l = 1048578 - l.number
