use Rattle.cct_laws.proofs.orders.Payments.{legal_paid}
use Rattle.cct_laws.proofs.each_order_is_paid_once.Goals as goal

pub returns : goal.returns
returns c = legal_paid
