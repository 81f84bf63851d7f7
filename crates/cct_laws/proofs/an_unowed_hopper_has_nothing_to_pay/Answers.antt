use Rattle.cct_laws.proofs.orders.Payments.{legal_rests}
use Rattle.cct_laws.proofs.an_unowed_hopper_has_nothing_to_pay.Goals as goal

pub returns : goal.returns
returns c = legal_rests
