use Rattle.cct_laws.proofs.acceptor.Posts.{legal_moves}
use Rattle.cct_laws.proofs.a_reading_made_again_met_a_coin.Goals as goal

pub returns : goal.returns
returns c = legal_moves
