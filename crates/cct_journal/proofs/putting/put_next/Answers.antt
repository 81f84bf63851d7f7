use Rattle.std.proofs.Common.{arith}
use Rattle.cct_disk.proofs.Taking.{takes_most}
use Rattle.cct_journal.specs.Turning.{put_bytes, put_calls}
use Rattle.cct_journal.proofs.putting.put_next.Goals as goal

pub returns-in_err-put_slot-clause-moments : goal.returns-in_err-put_slot-clause-moments
returns-in_err-put_slot-clause-moments g c carry_of records stands =
    c.put_slot.ensures.moments carry_of records stands.stands

pub returns-clause-moments : goal.returns-clause-moments
returns-clause-moments g c carry_of records stands = c.put_slot.ensures.moments carry_of records stands.stands

pub returns-in_err-put_slot-clause-takes : goal.returns-in_err-put_slot-clause-takes
returns-in_err-put_slot-clause-takes g c =
    takes_most put_calls put_bytes (omega arith) (omega arith) c.put_slot.ensures.takes

pub returns-clause-takes : goal.returns-clause-takes
returns-clause-takes g c =
    takes_most put_calls put_bytes (omega arith) (omega arith) c.put_slot.ensures.takes
