-- What was written so far and what is left of the piece make the piece.
use Rattle.std.proofs.Common.{◌≡◌, ℕ, List, ◌++◌, length}
use Rattle.std.specs.Io.KnownBytes.{Appends}
use Rattle.cct_edge.proofs.standard.StdSinkSink.put.Given as goal

abbrev pub invariant-loop-rest : goal.invariant-loop-rest
invariant-loop-rest g l = record {
  done : List ℕ;
  piece_is : l.piece ≡ done ++ l.rest;
  written : Appends (g.W.Write.contents l.fn.self.writer) (g.W.Write.contents l.self.writer) done;
  no_fault : l.self.faults ≡ l.fn.self.faults;
}

abbrev pub decreases-loop-rest : goal.decreases-loop-rest
decreases-loop-rest g l = length l.rest
