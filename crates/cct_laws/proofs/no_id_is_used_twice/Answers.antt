use Rattle.cct_laws.proofs.orders.Payments.{legal_fresh}
use Rattle.cct_laws.proofs.no_id_is_used_twice.Goals as goal

pub returns : goal.returns
returns c = legal_fresh
