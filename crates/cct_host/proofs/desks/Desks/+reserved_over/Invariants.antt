use Rattle.std.proofs.Common.{length}
use Rattle.cct_host.proofs.desks.Desks.+reserved_over.Given as goal

abbrev pub decreases-reserved_over : goal.decreases-reserved_over
decreases-reserved_over l = length l.devices.now
