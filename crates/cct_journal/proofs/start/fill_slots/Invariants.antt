-- The slots so far are filled, and those after them are 0.
use Rattle.std.proofs.Common.{◌≡◌, ◌+◌, ◌-◌, ◌*◌, ◌++◌, length, take, replicate}
use Rattle.std.specs.Prelude.{flat_map}
use Rattle.cct_journal.specs.Start.{carry_slot}
use Rattle.cct_journal.proofs.start.fill_slots.Given as goal

abbrev pub invariant-loop-body : goal.invariant-loop-body
invariant-loop-body l = record {
  at : l.at ≡ 32 * l.body-index + 1;
  long : length (flat_map carry_slot (take l.body-index l.bodies)) ≡ 32 * l.body-index;
  filled : l.area ≡ flat_map carry_slot (take l.body-index l.bodies) ++ replicate (1120 - 32 * l.body-index) 0;
}
