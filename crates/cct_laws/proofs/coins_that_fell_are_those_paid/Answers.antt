use Rattle.cct_laws.proofs.orders.PaidCoins.{fallen_all, fallen_closed}
use Rattle.cct_laws.proofs.coins_that_fell_are_those_paid.Goals as goal

pub returns : goal.returns
returns c = record { all = fallen_all; closed = fallen_closed }
