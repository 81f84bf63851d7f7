use Rattle.cct_laws_route.proofs.Routes.{clear_ends}
use Rattle.cct_laws_route.proofs.a_route_without_a_fault_ends_by_what_is_held.Goals as goal

pub returns : goal.returns
returns c = clear_ends
