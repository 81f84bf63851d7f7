use Rattle.std.proofs.Common.{◌≤◌, flat_map, take}
use Rattle.cct_audit.specs.Writing.{WroteLines}
use Rattle.cct_edge.specs.Bytes.{TellsAsBefore}
use Rattle.cct_bench_state.specs.Lines.{account_lines}
use Rattle.cct_bench_state.proofs.writing.write_accounts.Given as goal

abbrev pub invariant-loop-account : goal.invariant-loop-account
invariant-loop-account g l =
    let sink = g.K.Sink in
    WroteLines sink.written sink.puts l.fn.out l.out (flat_map account_lines (take l.account-index l.accounts))
    × TellsAsBefore (sink.written l.fn.out) (sink.written l.out) × (sink.faults l.fn.out ≤ sink.faults l.out)
