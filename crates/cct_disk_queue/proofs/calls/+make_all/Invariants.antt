-- Each turn has one call less.
use Rattle.std.proofs.Common.{length}
use Rattle.cct_disk_queue.proofs.calls.+make_all.Given as goal

abbrev pub decreases-make_all : goal.decreases-make_all
decreases-make_all l = length l.notes.now
