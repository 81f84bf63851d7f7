use Rattle.cct_laws.proofs.orders.PaidOut.{legal_paid_out}
use Rattle.cct_laws.proofs.a_hopper_shown_paid_out_stays_so.Goals as goal

pub returns : goal.returns
returns c = legal_paid_out
