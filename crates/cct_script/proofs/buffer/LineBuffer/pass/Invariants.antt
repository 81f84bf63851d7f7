use Rattle.cct_script.proofs.Passing.{Passes}
use Rattle.cct_script.proofs.buffer.LineBuffer.pass.Given as goal

-- So many takes brought bytes without a line feed, and none is held.
abbrev pub invariant-loop-passed : goal.invariant-loop-passed
invariant-loop-passed g l =
    Passes g.S.Source.left g.S.Source.faults l.fn.self l.self l.fn.source l.source l._passed
