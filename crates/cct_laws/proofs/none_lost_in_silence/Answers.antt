use Rattle.cct_laws.proofs.acceptor.Posts.{legal_covers}
use Rattle.cct_laws.proofs.none_lost_in_silence.Goals as goal

pub returns : goal.returns
returns c = legal_covers
