-- Each turn has one call less.
use Rattle.std.proofs.Common.{length}
use Rattle.cct_disk_queue.proofs.obey.+make_noted.Given as goal

abbrev pub decreases-make_noted : goal.decreases-make_noted
decreases-make_noted g l = length l.notes.now
