use Rattle.cct_laws.proofs.acceptor.Posts.{legal_stops}
use Rattle.cct_laws.proofs.no_stop_is_made_again.Goals as goal

pub returns : goal.returns
returns c = legal_stops
