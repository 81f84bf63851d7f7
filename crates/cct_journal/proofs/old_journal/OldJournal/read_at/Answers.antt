use Rattle.cct_journal.proofs.OldFound.{up_same}
use Rattle.cct_journal.proofs.old_journal.OldJournal.read_at.Goals as goal

pub returns-clause-told_up : goal.returns-clause-told_up
returns-clause-told_up g c index before reads =
    up_same c.args.self.now.at index before c.read_old_record.ensures.reads.same_seen reads
