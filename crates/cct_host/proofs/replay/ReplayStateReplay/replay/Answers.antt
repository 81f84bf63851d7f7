use Rattle.std.proofs.Common.{◌∙◌, refl, sym}
use Rattle.cct_host.proofs.Tallying.{replay_follows, replay_stopped, replay_stops}
use Rattle.cct_host.proofs.replay.ReplayStateReplay.replay.Goals as goal

pub returns-then-is_some : goal.returns-then-is_some
returns-then-is_some c first base carry before many over =
    replay_stopped first c.args.self.now base carry before c.args.entry.now
    (sym c.is_some.ensures ∙ c.if-is_some.true) over

pub returns-else-not-add : goal.returns-else-not-add
returns-else-not-add c first base carry before many over =
    let follows = c.if-not-add.false in
    replay_follows first c.args.self.now _ base carry before c.args.entry.now
    (sym c.is_some.ensures ∙ c.if-is_some.false) c.add.ensures.setup c.add.ensures.counted
    (sym c.add.ensures.follows ∙ follows) (c.add.ensures.next follows) refl over

pub returns-then-not-add : goal.returns-then-not-add
returns-then-not-add c first base carry before many over =
    replay_stops first c.args.self.now _ base carry before c.args.entry.now c.args.index
    (sym c.is_some.ensures ∙ c.if-is_some.false) c.add.ensures.setup (sym c.add.ensures.follows ∙ c.if-not-add.true)
    refl many over
