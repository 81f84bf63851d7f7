use Rattle.std.proofs.Common.{◌+◌, slice_index, arith, ◌∙◌}
use Rattle.cct_plan.proofs.Doubling.{widened}
use Rattle.cct_plan.proofs.filling.fill.Goals as goal

pub loop-taken-preserved : goal.loop-taken-preserved
loop-taken-preserved c = (
  omega arith,
  λ a within. rw (c.widen.ensures.within a within, c.worth.ensures)
      (widened _ c.args.tray.now.value c.loop-taken.taken c.min-more.result a (omega arith)
      (λ b. slice_index c.loop-taken.cells (c.args.base + b)) (λ b below. c.loop-taken.invariant.1 b (omega arith))),
  λ i below. c.widen.ensures.before i below ∙ c.loop-taken.invariant.2 i below,
)
