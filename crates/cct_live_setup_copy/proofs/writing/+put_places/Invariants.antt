use Rattle.std.proofs.Common.{length}
use Rattle.cct_live_setup_copy.proofs.writing.+put_places.Given as goal

abbrev pub decreases-put_places : goal.decreases-put_places
decreases-put_places g l = length l.values.now
