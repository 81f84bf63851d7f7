use Rattle.cct_laws_change.specs.Blocks.{AnyBlock}
use Rattle.cct_laws_change.proofs.Ends.{blocks_end}
use Rattle.cct_laws_change.proofs.a_session_without_a_fault_ends.Goals as goal

pub returns : goal.returns
returns c = blocks_end AnyBlock
