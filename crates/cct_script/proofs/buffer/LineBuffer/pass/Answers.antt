use Rattle.std.proofs.Common.{◌≤◌, length, subst, arith}
use Rattle.cct_script.specs.Endless.{DropsLine}
use Rattle.cct_script.proofs.Passing.{passes_end, passes_on}
use Rattle.cct_script.proofs.buffer.LineBuffer.pass.Goals as goal

pub returns-then-drop_line-clause-gives : goal.returns-then-drop_line-clause-gives
returns-then-drop_line-clause-gives g c =
    passes_end g.S.Source.left g.S.Source.faults c.args.self.now c.loop-passed.self c.fill.new.self c.drop_line.new.self
    c.args.source.now c.loop-passed.source c.fill.new.source c.loop-passed._passed c.loop-passed.invariant
    c.fill.ensures.fills (subst (DropsLine c.fill.new.self c.drop_line.new.self) c.if-drop_line.true c.drop_line.ensures)

pub loop-passed-preserved : goal.loop-passed-preserved
loop-passed-preserved g c =
    let some : 1 ≤ length c.fill.new.self = omega (arith, c.in-Ok.ensures.count, c.in-Ok.field-0-test.1) in
    passes_on g.S.Source.left g.S.Source.faults c.args.self.now c.loop-passed.self c.fill.new.self c.drop_line.new.self
    c.args.source.now c.loop-passed.source c.fill.new.source c.loop-passed._passed _ c.loop-passed.invariant
    c.fill.ensures.fills c.fill.ensures.serves some
    (subst (DropsLine c.fill.new.self c.drop_line.new.self) c.if-drop_line.false c.drop_line.ensures)
