-- Only epochs have come so far.
use Rattle.std.proofs.Common.{◌≡◌, ◌++◌, drop, map, take}
use Rattle.cct_record.specs.CarryBody.{epoch_read, epochs_read, orders_read}
use Rattle.cct_record.proofs.carry_reading.epoch_count.Given as goal

abbrev pub invariant-loop-body : goal.invariant-loop-body
invariant-loop-body l = record {
  count : l.count ≡ l.body-index;
  epochs : epochs_read l.bodies ≡ map epoch_read (take l.count l.bodies) ++ epochs_read (drop l.count l.bodies);
  orders : orders_read l.bodies ≡ orders_read (drop l.count l.bodies);
}
