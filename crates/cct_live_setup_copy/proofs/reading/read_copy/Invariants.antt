-- The setup is sound so far, and the source has served.
use Rattle.cct_edge.specs.Bytes.{Serves}
use Rattle.cct_model_lines.specs.Setup.{IsSoundSetup}
use Rattle.cct_live_setup_copy.proofs.reading.read_copy.Given as goal

abbrev pub invariant-loop-number : goal.invariant-loop-number
invariant-loop-number g l = record {
  sound : IsSoundSetup l.setup;
  serves : Serves g.S.Source.left g.S.Source.faults l.fn.source l.source ⊥;
}
