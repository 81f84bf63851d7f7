-- The last reads so far were silent, those before the first one counted.
use Rattle.std.proofs.Common.{List, ℕ}
use Rattle.cct_live_port.specs.Calls.{Hearing, is_noisy}
use Rattle.cct_live_port.proofs.calls.wait.Given as goal

abbrev pub invariant-loop : goal.invariant-loop
invariant-loop g l = record {
  dropped : List ℕ;
  hearing : Hearing g.L.Line.reads g.L.Line.writes (is_noisy l.reads) l.already l.fn.line dropped l.silent l.counter l.line;
}
