use Rattle.cct_monitor.proofs.Confirmed.{new_unconfirmed, stays_confirmed, sure_are}
use Rattle.cct_monitor.proofs.laws.a_tap_makes_sure_what_it_confirms.Goals as goal

pub returns-clause-sure : goal.returns-clause-sure
returns-clause-sure c = sure_are

pub returns-clause-new : goal.returns-clause-new
returns-clause-new c = new_unconfirmed

pub returns-clause-stays : goal.returns-clause-stays
returns-clause-stays c = stays_confirmed
