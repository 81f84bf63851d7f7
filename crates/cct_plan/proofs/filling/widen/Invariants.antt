use Rattle.std.proofs.Common.{◌≡◌, ℕ, ◌+◌, ◌<◌, ◌≤◌, slice_index}
use Rattle.cct_plan.specs.Row.{wider}
use Rattle.cct_plan.proofs.filling.widen.Given as goal

abbrev pub invariant-loop-a : goal.invariant-loop-a
invariant-loop-a l =
    (l.a ≤ l.amount + 1)
    × ((i : ℕ) → i < l.base + l.a → slice_index l.cells i ≡ slice_index l.initial.cells i)
    × ((b : ℕ) → l.a ≤ b → b ≤ l.amount → slice_index l.cells (l.base + b) ≡ wider l.initial.cells l.base l.step l.more b)

abbrev pub decreases-loop-a : goal.decreases-loop-a
decreases-loop-a l = l.a
