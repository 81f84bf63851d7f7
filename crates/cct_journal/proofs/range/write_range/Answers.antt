use Rattle.std.proofs.Common.{arith, length}
use Rattle.cct_disk.proofs.Taking.{takes_most, takes_one, takes_then}
use Rattle.cct_journal.proofs.range.write_range.Goals as goal

pub returns-in_err-write-clause-takes : goal.returns-in_err-write-clause-takes
returns-in_err-write-clause-takes g c =
    takes_most 2 (length c.args.bytes.now) (omega arith) (omega arith)
    (takes_one (length c.args.bytes.now) c.write.ensures.below c.write.ensures.spends)

pub returns-then-not-synced-clause-takes : goal.returns-then-not-synced-clause-takes
returns-then-not-synced-clause-takes g c =
    takes_most 2 (length c.args.bytes.now) (omega arith) (omega arith)
    (takes_one (length c.args.bytes.now) c.write.ensures.below c.write.ensures.spends)

pub returns-clause-takes : goal.returns-clause-takes
returns-clause-takes g c =
    takes_most 2 (length c.args.bytes.now) (omega arith) (omega arith)
    (takes_then (takes_one (length c.args.bytes.now) c.write.ensures.below c.write.ensures.spends)
    (takes_one 0 c.sync.ensures.below c.sync.ensures.spends))
