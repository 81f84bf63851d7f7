use Rattle.std.proofs.Common.{◌≤◌, length, [], refl, sym, arith}
use Rattle.std.proofs.lemmas.List.{append-nil}
use Rattle.cct_edge.proofs.Chains.{Consumes-nil}
use Rattle.cct_model_lines.specs.Script.{most_lines}
use Rattle.cct_script.specs.Taking.{no_take}
use Rattle.cct_script.proofs.Giving.{is_nothing, not_empty}
use Rattle.cct_script.proofs.Window.{takes-first, until-first}
use Rattle.cct_script.proofs.lines.Lines.find_no_more.Goals as goal

pub returns-then-not-is_empty-clause-gives : goal.returns-then-not-is_empty-clause-gives
unfolding most_lines
returns-then-not-is_empty-clause-gives g c =
    let some = not_empty _ _ _ c.if-not-is_empty.true c.is_empty.ensures c.held.ensures.value in
    rw c.requires.spent ((refl, ([], sym (append-nil _), Consumes-nil _)), c.requires.many, some)

pub returns-in-Ok-clause-gives : goal.returns-in-Ok-clause-gives
unfolding most_lines
returns-in-Ok-clause-gives g c =
    let some : 1 ≤ length c.fill.new.self = omega (arith, c.in-Ok.ensures.count, c.in-Ok.field-0-test.1) in
    rw c.requires.spent ((refl, c.fill.ensures.fills), c.requires.many, some)

pub returns-then-not-is_empty-clause-takes : goal.returns-then-not-is_empty-clause-takes
returns-then-not-is_empty-clause-takes g c = rw c.requires.spent no_take

pub returns-in-Ok-eq0-clause-takes : goal.returns-in-Ok-eq0-clause-takes
returns-in-Ok-eq0-clause-takes g c =
    let nothing = is_nothing _ _ _ c.if-not-is_empty.false c.is_empty.ensures c.held.ensures.value in
    let fill = c.in-Ok-eq0.ensures in
    rw c.requires.spent
    (takes-first g.S.Source.takes g.S.Source.left c.args.self.now.buffer c.fill.new.self c.args.source.now
    c.fill.new.source c.in-Ok-eq0.field-0 nothing fill.one fill.fills fill.count)

pub returns-in-Ok-clause-takes : goal.returns-in-Ok-clause-takes
returns-in-Ok-clause-takes g c =
    let nothing = is_nothing _ _ _ c.if-not-is_empty.false c.is_empty.ensures c.held.ensures.value in
    let fill = c.in-Ok.ensures in
    rw c.requires.spent
    (takes-first g.S.Source.takes g.S.Source.left c.args.self.now.buffer c.fill.new.self c.args.source.now
    c.fill.new.source c.in-Ok.field-0 nothing fill.one fill.fills fill.count)

pub returns-in-Err-clause-takes : goal.returns-in-Err-clause-takes
returns-in-Err-clause-takes g c =
    let nothing = is_nothing _ _ _ c.if-not-is_empty.false c.is_empty.ensures c.held.ensures.value in
    let fill = c.in-Err.ensures in
    rw c.requires.spent
    (until-first g.S.Source.takes g.S.Source.left c.args.self.now.buffer c.fill.new.self c.args.source.now
    c.fill.new.source c.in-Err.field-0 nothing fill.one fill.err)
