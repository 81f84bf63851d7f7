-- It goes along the deeds.
use Rattle.cct_laws_poll.proofs.Parts.{keeps_part}
use Rattle.cct_laws_poll.proofs.a_run_keeps_its_part.Goals as goal

pub returns : goal.returns
returns c = keeps_part
