use Rattle.std.proofs.Common.{◌≤◌, take}
use Rattle.cct_edge.specs.Bytes.{TellsAsBefore}
use Rattle.cct_text.specs.Writing.{Wrote}
use Rattle.cct_text.proofs.write_entries.Given as goal

abbrev pub invariant-loop-entry : goal.invariant-loop-entry
invariant-loop-entry g l =
    let sink = g.K.Sink in
    Wrote sink.written sink.puts l.fn.out l.out (take l.entry-index l.entries)
    × TellsAsBefore (sink.written l.fn.out) (sink.written l.out) × (sink.faults l.fn.out ≤ sink.faults l.out)
