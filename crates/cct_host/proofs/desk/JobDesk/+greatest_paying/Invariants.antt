use Rattle.std.proofs.Common.{length}
use Rattle.cct_host.proofs.desk.JobDesk.+greatest_paying.Given as goal

abbrev pub decreases-greatest_paying : goal.decreases-greatest_paying
decreases-greatest_paying l = length l.desks.now
