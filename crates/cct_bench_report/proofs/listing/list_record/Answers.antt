use Rattle.std.proofs.Common.{refl}
use Rattle.cct_bench_report.proofs.listing.list_record.Goals as goal

pub returns-in-Err-BadRecord-clause-lists : goal.returns-in-Err-BadRecord-clause-lists
returns-in-Err-BadRecord-clause-lists g c = (
  refl,
  λ records held.
      let is = c.in-Err-BadRecord.ensures.refused.never records held in absurd cc,
)
