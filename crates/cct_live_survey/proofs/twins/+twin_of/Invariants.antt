use Rattle.std.proofs.Common.{length}
use Rattle.cct_live_survey.proofs.twins.+twin_of.Given as goal

abbrev pub decreases-twin_of : goal.decreases-twin_of
decreases-twin_of l = length l.others.now
