use Rattle.std.proofs.Common.{◌≡◌, ◌+◌, ◌*◌, ◌^◌, ◌≤◌, List, take}
use Rattle.cct_model.specs.lines.entry.Entry.{Entry}
use Rattle.cct_model.specs.Transcript.{onto}
use Rattle.cct_bench_load.specs.Sums.{Counts, together}
use Rattle.cct_bench_load.proofs.sums.LoadSums.add_step.Given as goal

abbrev pub invariant-loop-entry : goal.invariant-loop-entry
invariant-loop-entry l = record {
  counts : (past : List Entry) → Counts l.fn.self past → Counts l.self (onto past (take l.entry-index l.report));
  steps : l.self.steps ≡ l.fn.self.steps + 1;
  few : together l.self ≤ 2 ^ 36 * l.fn.self.steps + 2 ^ 33 * l.entry-index;
}
