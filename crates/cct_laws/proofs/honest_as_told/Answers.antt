use Rattle.cct_laws.proofs.wire.HonestAsReported.{legal_as_told}
use Rattle.cct_laws.proofs.honest_as_told.Goals as goal

pub returns : goal.returns
returns c = legal_as_told
