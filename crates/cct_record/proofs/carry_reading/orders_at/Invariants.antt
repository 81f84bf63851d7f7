-- The orders of the bodies so far.
use Rattle.std.proofs.Common.{◌≡◌, length, map, take}
use Rattle.std.specs.Prelude.{All}
use Rattle.cct_model_lines.specs.Carried.{OrderFits}
use Rattle.cct_record.specs.CarryBody.{order_read}
use Rattle.cct_record.proofs.carry_reading.orders_at.Given as goal

abbrev pub invariant-loop-body : goal.invariant-loop-body
invariant-loop-body l = record {
  orders : l.orders ≡ map order_read (take l.body-index l.bodies);
  count : length l.orders ≡ l.body-index;
  fit : All OrderFits l.orders;
}
