use Rattle.std.proofs.Common.{◌∙◌}
use Rattle.cct_journal.specs.Journal.{JournalReadsFrom, disk_of, place_of}
use Rattle.cct_live_order.proofs.Going.{looked, reads_has}
use Rattle.cct_live_order.proofs.looking.order_on.Goals as goal

pub returns-in-Ok-clause-looks : goal.returns-in-Ok-clause-looks
returns-in-Ok-clause-looks g c image seen =
    let journal = c.in-Ok.journal in
    let place = place_of journal in
    let found = c.in-Ok.ensures.finds.found image seen in
    looked image c.args.id place.base place.carry found.0 (JournalReadsFrom journal) c.look-told.result
    (reads_has g.D.Disk.seen (disk_of journal) place image found.0 (c.in-Ok.ensures.reads.same_seen ∙ seen) found.1) found.1
    c.look-told.ensures.all c.look-told.ensures.refused

pub returns-in-Err-clause-looks : goal.returns-in-Err-clause-looks
returns-in-Err-clause-looks g c image seen = c.in-Err.ensures.refused image seen
