-- It goes along the deeds.
use Rattle.cct_laws_poll.proofs.Living.{lives_on}
use Rattle.cct_laws_poll.proofs.a_run_is_a_life.Goals as goal

pub returns : goal.returns
returns c = λ found deeds steps past before after told. lives_on found deeds steps past before.host after.host told
