use Rattle.cct_laws_route.proofs.Routes.{legal_ends}
use Rattle.cct_laws_route.proofs.a_route_tells_what_was_held.Goals as goal

pub returns : goal.returns
returns c = legal_ends
