use Rattle.cct_laws.proofs.orders.Payments.{legal_dispense}
use Rattle.cct_laws.proofs.a_dispense_is_for_a_fresh_order.Goals as goal

pub returns : goal.returns
returns c = legal_dispense
