-- Each call has one less.
use Rattle.std.proofs.Common.{length}
use Rattle.cct_probe_run.proofs.leaving.+leave_each.Given as goal

abbrev pub decreases-leave_each : goal.decreases-leave_each
decreases-leave_each g l = length l.devices.now
