use Rattle.cct_laws.proofs.acceptor.Tallies.{legal_tallies}
use Rattle.cct_laws.proofs.coins_up_to_the_mark_are_tallied.Goals as goal

pub returns : goal.returns
returns c = legal_tallies
