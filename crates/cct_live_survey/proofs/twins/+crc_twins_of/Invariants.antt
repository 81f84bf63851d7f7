use Rattle.std.proofs.Common.{length}
use Rattle.cct_live_survey.proofs.twins.+crc_twins_of.Given as goal

abbrev pub decreases-crc_twins_of : goal.decreases-crc_twins_of
decreases-crc_twins_of l = length l.devices.now
