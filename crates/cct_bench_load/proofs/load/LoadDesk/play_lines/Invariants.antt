use Rattle.cct_bench_load.proofs.Playing.{Goes}
use Rattle.cct_bench_load.proofs.load.LoadDesk.play_lines.Given as goal

abbrev pub invariant-loop-line : goal.invariant-loop-line
invariant-loop-line g l = Goes l.fn.world l.world l.self.sums l.load.seed l.line
