-- Each call has one less.
use Rattle.std.proofs.Common.{length}
use Rattle.cct_probe_run.proofs.leaving.+close_steps.Given as goal

abbrev pub decreases-close_steps : goal.decreases-close_steps
decreases-close_steps g l = length l.steps.now
