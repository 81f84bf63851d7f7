-- There is room, by what may be found from the turn on.
use Rattle.std.proofs.Common.{◌≡◌, ◌∙◌, ap, Some, slice_get}
use Rattle.cct_live_survey.proofs.Rolling.{room_for, roomy_moved}
use Rattle.cct_live_survey.proofs.roll.Roll.move_on.Goals as goal

pub push_finding-requires : goal.push_finding-requires
push_finding-requires c =
    let at : slice_get c.self.inside.left.items c.args.index ≡ Some c.args.turn =
    ap (λ r. slice_get r.left c.args.index) c.self.view_is ∙ c.requires.turn in
    room_for _ _ c.args.index c.args.turn _ _ c.self.invariant at c.requires.room

pub invariant_of-self : goal.invariant_of-self
invariant_of-self c =
    let at : slice_get c.self.inside.left.items c.args.index ≡ Some c.args.turn =
    ap (λ r. slice_get r.left c.args.index) c.self.view_is ∙ c.requires.turn in
    rw (c.push_finding.ensures, c.push_turn.ensures, c.remove.ensures.items)
    (roomy_moved _ _ c.args.index c.args.turn c.args.next c.args.found c.self.invariant at c.requires.room)
