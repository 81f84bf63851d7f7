use Rattle.std.proofs.Common.{length}
use Rattle.cct_record.proofs.carry_reading.+epochs_rise.Given as goal

abbrev pub decreases-epochs_rise : goal.decreases-epochs_rise
decreases-epochs_rise l = length l.epochs.now
