use Rattle.std.proofs.Common.{[]}
use Rattle.std.proofs.lemmas.Grind.{merely}
use Rattle.cct_bus.proofs.Lives.{keeps_gap}
use Rattle.cct_bus.proofs.device.Device.new.Goals as goal

pub invariant_of-result : goal.invariant_of-result
invariant_of-result c = record {
  still = keeps_gap _ c.in_ok-body.ensures.gap;
  lived = merely ([], c.in_ok-body.ensures.fresh);
}
