use Rattle.cct_laws.proofs.acceptor.Safety.{legal_masked}
use Rattle.cct_laws.proofs.a_running_epoch_sets_its_mask_or_none.Goals as goal

pub returns : goal.returns
returns c = legal_masked
