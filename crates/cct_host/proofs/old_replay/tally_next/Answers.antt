use Rattle.std.proofs.Common.{◌∙◌, sym}
use Rattle.cct_host.proofs.OldTallying.{bad_follow, bad_unread, old_unread, up_next}
use Rattle.cct_host.proofs.Tallying.{goes_next, stops_next}
use Rattle.cct_host.proofs.old_replay.tally_next.Goals as goal

pub returns-in_err-entry-clause-refused : goal.returns-in_err-entry-clause-refused
returns-in_err-entry-clause-refused g c =
    old_unread c.from_residual.result c.in_err-entry.field-0.0 _ _ _ _ _ c.from_residual.ensures
    c.in_err-entry.ensures.refused.never

pub returns-in_err-entry-clause-bad : goal.returns-in_err-entry-clause-bad
returns-in_err-entry-clause-bad g c =
    bad_unread _ c.args.journal.now c.args.index _ c.requires.from c.requires.within c.from_residual.result
    c.in_err-entry.field-0.0 c.from_residual.ensures c.in_err-entry.ensures.refused

pub returns-then-add-clause-over : goal.returns-then-add-clause-over
returns-then-add-clause-over g c rest reads went =
    let follows = c.if-add.true in
    goes_next _ _ _ _ _ rest c.args.index _ (c.in_ok-entry.ensures.gives.after rest reads)
    (sym c.add.ensures.follows ∙ follows) (c.add.ensures.next follows) went

pub returns-then-add-clause-reads_next : goal.returns-then-add-clause-reads_next
returns-then-add-clause-reads_next g c went =
    let follows = c.if-add.true in
    up_next _ c.args.journal.now c.args.index _ _ _ c.in_ok-entry.ensures.gives (sym c.add.ensures.follows ∙ follows)
    (c.add.ensures.next follows) went

pub returns-else-add-clause-refused : goal.returns-else-add-clause-refused
returns-else-add-clause-refused g c rest reads went =
    stops_next _ _ _ _ rest c.args.index _ (c.in_ok-entry.ensures.gives.after rest reads)
    (sym c.add.ensures.follows ∙ c.if-add.false) went

pub returns-else-add-clause-bad : goal.returns-else-add-clause-bad
returns-else-add-clause-bad g c counts went =
    bad_follow _ c.args.journal.now counts c.args.index _ c.requires.from c.requires.within _
    c.in_ok-entry.ensures.gives (sym c.add.ensures.follows ∙ c.if-add.false) went
