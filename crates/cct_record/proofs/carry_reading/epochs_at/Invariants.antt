-- The epochs of the bodies so far.
use Rattle.std.proofs.Common.{◌≡◌, length, map, take}
use Rattle.std.specs.Prelude.{All}
use Rattle.cct_model_lines.specs.Carried.{EpochFits}
use Rattle.cct_record.specs.CarryBody.{epoch_read}
use Rattle.cct_record.proofs.carry_reading.epochs_at.Given as goal

abbrev pub invariant-loop-body : goal.invariant-loop-body
invariant-loop-body l = record {
  epochs : l.epochs ≡ map epoch_read (take l.body-index l.bodies);
  count : length l.epochs ≡ l.body-index;
  fit : All EpochFits l.epochs;
}
