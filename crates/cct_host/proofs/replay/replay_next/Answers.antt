use Rattle.std.proofs.Common.{◌∙◌, sym}
use Rattle.cct_host.proofs.Tallying.{goes_next, some_more, stops_next, unread}
use Rattle.cct_host.proofs.replay.replay_next.Goals as goal

pub returns-in_err-entry-clause-refused : goal.returns-in_err-entry-clause-refused
returns-in_err-entry-clause-refused g c =
    unread c.from_residual.result c.in_err-entry.field-0.0 _ _ _ _ c.from_residual.ensures
    c.in_err-entry.ensures.refused.never

pub returns-then-add-clause-some : goal.returns-then-add-clause-some
returns-then-add-clause-some g c base carry some =
    let follows = c.if-add.true in
    some_more _ base carry _ _ c.args.index _ (sym c.add.ensures.follows ∙ follows) (c.add.ensures.next follows) some

pub returns-then-add-clause-over : goal.returns-then-add-clause-over
returns-then-add-clause-over g c rest reads carry went =
    let follows = c.if-add.true in
    goes_next _ _ carry _ _ rest c.args.index _ (c.in_ok-entry.ensures.gives.after rest reads)
    (sym c.add.ensures.follows ∙ follows) (c.add.ensures.next follows) went

pub returns-else-add-clause-refused : goal.returns-else-add-clause-refused
returns-else-add-clause-refused g c rest reads carry went =
    stops_next _ _ carry _ rest c.args.index _ (c.in_ok-entry.ensures.gives.after rest reads)
    (sym c.add.ensures.follows ∙ c.if-add.false) went
