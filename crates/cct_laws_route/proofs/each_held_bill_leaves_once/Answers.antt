use Rattle.cct_laws_route.proofs.Escrow.{all_stacked, counted, credited, in_order}
use Rattle.cct_laws_route.proofs.Held.{legal_told}
use Rattle.cct_laws_route.proofs.Placed.{legal_placed}
use Rattle.cct_laws_route.proofs.each_held_bill_leaves_once.Goals as goal

pub returns : goal.returns
returns c = record {
  in_order = in_order;
  counted = counted;
  stacked = all_stacked;
  credited = credited;
  told = legal_told;
  placed = legal_placed;
}
