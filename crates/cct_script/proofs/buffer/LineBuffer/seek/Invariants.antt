use Rattle.std.proofs.Common.{◌-◌, length}
use Rattle.cct_script.specs.declared.buffer.TheConstants.{ROOM}
use Rattle.cct_script.specs.Taking.{TakesOn}
use Rattle.cct_script.proofs.Window.{Seeks}
use Rattle.cct_script.proofs.buffer.LineBuffer.seek.Given as goal

abbrev pub invariant-loop-at : goal.invariant-loop-at
invariant-loop-at g l = record {
  seeks : Seeks g.S.Source.left g.S.Source.faults l.fn.self l.self l.fn.source l.source;
  takes : TakesOn g.S.Source.takes g.S.Source.left l.fn.self l.fn.source l.self l.source;
}

abbrev pub decreases-loop-at : goal.decreases-loop-at
decreases-loop-at g l = ROOM - length l.self
