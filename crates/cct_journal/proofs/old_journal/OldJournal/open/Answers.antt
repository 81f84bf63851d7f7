use Rattle.std.proofs.Common.{◌∙◌}
use Rattle.cct_journal.proofs.OldFound.{found_from, never_old}
use Rattle.cct_journal.proofs.old_journal.OldJournal.open.Goals as goal

pub returns-in-Ok-clause-reads_from : goal.returns-in-Ok-clause-reads_from
returns-in-Ok-clause-reads_from g c image base carry rest told from =
    found_from g.D.Disk.seen c.args.disk c.find_old.new.disk c.in-Ok.at image base carry rest told
    (c.find_old.ensures.reads.same_seen ∙ told) (c.in-Ok.ensures.finds.counts image told) from

pub returns-in-Err-clause-never : goal.returns-in-Err-clause-never
returns-in-Err-clause-never g c image version second generation base carry told headed free =
    never_old c.in-Err.why image version second generation base carry (c.in-Err.ensures.refused image told) headed free
