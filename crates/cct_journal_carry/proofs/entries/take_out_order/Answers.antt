use Rattle.cct_model.specs.Carried.{addr_of_order}
use Rattle.cct_journal_carry.proofs.Splits.{left_seen, taken_seen}
use Rattle.cct_journal_carry.proofs.entries.take_out_order.Goals as goal

pub returns-then-order_is_at : goal.returns-then-order_is_at
returns-then-order_is_at c =
    taken_seen addr_of_order c.args.addr c.args.orders.now c.as_slice.result.now c.as_slice-2.result.now
    c.remove.new.self c.order_place-index.result c.as_slice.ensures.value c.order_place-index.ensures
    c.as_slice-2.ensures.value c.if-order_is_at.ensures c.remove.ensures

pub returns-else-order_is_at : goal.returns-else-order_is_at
returns-else-order_is_at c =
    left_seen addr_of_order c.args.addr c.args.orders.now c.as_slice.result.now c.as_slice-2.result.now
    c.order_place-index.result c.as_slice.ensures.value c.order_place-index.ensures c.as_slice-2.ensures.value
    c.if-order_is_at.ensures
