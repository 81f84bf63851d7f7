-- Each call has one less.
use Rattle.std.proofs.Common.{length}
use Rattle.cct_probe_run.proofs.leaving.+close_all.Given as goal

abbrev pub decreases-close_all : goal.decreases-close_all
decreases-close_all g l = length l.trials.now
