use Rattle.cct_laws.proofs.acceptor.Posts.{legal_epochs}
use Rattle.cct_laws.proofs.acceptor.Safety.{legal_shut}
use Rattle.cct_laws.proofs.no_coin_is_accepted_without_an_epoch.Goals as goal

pub returns : goal.returns
returns c = record { accepted = legal_epochs; inhibits = legal_shut }
