use Rattle.cct_laws.proofs.acceptor.Posts.{legal_in_order}
use Rattle.cct_laws.proofs.posts_in_order.Goals as goal

pub returns : goal.returns
returns c = legal_in_order
