use Rattle.std.proofs.Common.{◌+◌, ◌≤◌, length, drop, ap, ◌∙◌, arith}
use Rattle.cct_script.proofs.Window.{held-drop, length-held}
use Rattle.cct_script.proofs.buffer.LineBuffer.advance.Goals as goal

-- the bytes held are a part of the buffer, and no more of it is given up
within : (c : goal.After-self-1) → c.self.inside.start + c.args.count ≤ c.self.inside.end
within c =
    let s = c.self.inside in
    omega (arith, ap length c.self.view_is, length-held s.bytes s.start s.end (omega arith) (omega arith))

pub returns : goal.returns
returns c =
    let s = c.self.inside in
    held-drop s.bytes s.start c.args.count s.end (within c) ∙ ap (drop c.args.count) c.self.view_is
