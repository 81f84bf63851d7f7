use Rattle.std.proofs.Common.{length}
use Rattle.cct_journal_carry.proofs.fits.+are_apart.Given as goal

abbrev pub decreases-are_apart : goal.decreases-are_apart
decreases-are_apart l = length l.orders.now
