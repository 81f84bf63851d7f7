use Rattle.cct_laws_change.proofs.Counted.{counted}
use Rattle.cct_laws_change.proofs.Legal.{counted_legal}
use Rattle.cct_laws_change.proofs.each_order_is_counted.Goals as goal

pub returns : goal.returns
returns c = record { lines = counted; legal = counted_legal }
