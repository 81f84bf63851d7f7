use Rattle.std.proofs.Common.{length}
use Rattle.cct_record.proofs.carry_reading.+orders_rise.Given as goal

abbrev pub decreases-orders_rise : goal.decreases-orders_rise
decreases-orders_rise l = length l.orders.now
