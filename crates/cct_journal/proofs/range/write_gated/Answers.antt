use Rattle.std.proofs.Common.{◌+◌, arith, length}
use Rattle.cct_disk.proofs.Taking.{takes_most, takes_none, takes_then}
use Rattle.cct_journal.proofs.range.write_gated.Goals as goal

pub returns-then-calls-eq0-clause-takes : goal.returns-then-calls-eq0-clause-takes
returns-then-calls-eq0-clause-takes g c = takes_none 4 (length c.args.bytes.now + 1) c.args.disk.now

pub returns-in_err-write_range-clause-takes : goal.returns-in_err-write_range-clause-takes
returns-in_err-write_range-clause-takes g c =
    takes_most 4 (length c.args.bytes.now + 1) (omega arith) (omega arith) c.write_range.ensures.takes

pub returns-then-calls-le2-clause-takes : goal.returns-then-calls-le2-clause-takes
returns-then-calls-le2-clause-takes g c =
    takes_most 4 (length c.args.bytes.now + 1) (omega arith) (omega arith) c.write_range.ensures.takes

pub returns-clause-takes : goal.returns-clause-takes
returns-clause-takes g c =
    takes_most 4 (length c.args.bytes.now + 1) (omega arith) (omega arith)
    (takes_then c.write_range.ensures.takes c.write_range-2.ensures.takes)
