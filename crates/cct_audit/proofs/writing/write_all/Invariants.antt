use Rattle.std.proofs.Common.{◌≤◌, take, map}
use Rattle.cct_edge.specs.Bytes.{TellsAsBefore}
use Rattle.cct_audit.specs.Telling.{said_line}
use Rattle.cct_audit.specs.Writing.{WroteLines}
use Rattle.cct_audit.proofs.writing.write_all.Given as goal

abbrev pub invariant-loop-one : goal.invariant-loop-one
invariant-loop-one g l =
    let sink = g.K.Sink in
    WroteLines sink.written sink.puts l.fn.out l.out (take l.one-index (map said_line l.said))
    × TellsAsBefore (sink.written l.fn.out) (sink.written l.out) × (sink.faults l.fn.out ≤ sink.faults l.out)
