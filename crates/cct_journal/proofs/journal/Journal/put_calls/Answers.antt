use Rattle.cct_journal.proofs.Calls.{stands_settled}
use Rattle.cct_journal.proofs.Leaving.{leaves_one_of, leaves_same}
use Rattle.cct_journal.proofs.journal.Journal.put_calls.Goals as goal

pub returns-in-Ok-clause-done : goal.returns-in-Ok-clause-done
returns-in-Ok-clause-done g c all carry_of records stands =
    stands_settled (c.in-Ok.ensures.done all carry_of records stands)

pub returns-in-Ok-clause-left : goal.returns-in-Ok-clause-left
returns-in-Ok-clause-left g c carry_of records stands =
    leaves_one_of g.met.D.Disk.counts_now c.put_record.ensures.goes_on.same_honest
    c.put_record.ensures.goes_on.same_telling stands.stands c.args.entry.now
    (c.put_record.ensures.moments.each carry_of records stands)

pub returns-in-Ok-clause-left_early : goal.returns-in-Ok-clause-left_early
returns-in-Ok-clause-left_early g c few carry_of records stands =
    leaves_same g.met.D.Disk.counts_now c.put_record.ensures.goes_on.same_honest
    c.put_record.ensures.goes_on.same_telling stands.stands
    (c.put_record.ensures.moments.early few carry_of records stands)

pub returns-in-Err-clause-left : goal.returns-in-Err-clause-left
returns-in-Err-clause-left g c carry_of records stands =
    leaves_one_of g.met.D.Disk.counts_now c.put_record.ensures.goes_on.same_honest
    c.put_record.ensures.goes_on.same_telling stands.stands c.args.entry.now
    (c.put_record.ensures.moments.each carry_of records stands)

pub returns-in-Err-clause-left_early : goal.returns-in-Err-clause-left_early
returns-in-Err-clause-left_early g c few carry_of records stands =
    leaves_same g.met.D.Disk.counts_now c.put_record.ensures.goes_on.same_honest
    c.put_record.ensures.goes_on.same_telling stands.stands
    (c.put_record.ensures.moments.early few carry_of records stands)
