-- The bodies so far stand after those that were there.
use Rattle.std.proofs.Common.{◌≡◌, ◌+◌, ◌++◌, map, take}
use Rattle.arrayvec.specs.ArrayVec.{array_vec_len}
use Rattle.cct_record.specs.CarryBody.{order_body}
use Rattle.cct_record.proofs.carry.add_orders.Given as goal

abbrev pub invariant-loop-order : goal.invariant-loop-order
invariant-loop-order l = record {
  items : l.bodies.items ≡ l.fn.bodies.items ++ map order_body (take l.order-index l.orders);
  len : array_vec_len l.bodies ≡ array_vec_len l.fn.bodies + l.order-index;
}
