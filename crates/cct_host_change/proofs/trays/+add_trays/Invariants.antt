use Rattle.std.proofs.Common.{length}
use Rattle.cct_host_change.proofs.trays.+add_trays.Given as goal

abbrev pub decreases-add_trays : goal.decreases-add_trays
decreases-add_trays l = length l.devices.now
