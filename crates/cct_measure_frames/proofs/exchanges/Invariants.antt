use Rattle.cct_acceptor.specs.Acceptor.{IsAtGap}
use Rattle.cct_measure_frames.proofs.exchanges.Given as goal

-- after each answer no byte came since the gap
abbrev pub invariant-loop-pass : goal.invariant-loop-pass
invariant-loop-pass l = IsAtGap l.acceptor
