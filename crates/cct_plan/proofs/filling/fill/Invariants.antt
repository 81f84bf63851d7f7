use Rattle.std.proofs.Common.{◌-◌, ◌≡◌, ℕ, ◌+◌, ◌<◌, ◌≤◌, slice_index}
use Rattle.cct_plan.specs.Row.{IsLeastUpTo}
use Rattle.cct_plan.proofs.filling.fill.Given as goal

abbrev pub invariant-loop-taken : goal.invariant-loop-taken
invariant-loop-taken l =
    (l.taken ≤ l.all)
    × ((a : ℕ) → a ≤ l.amount → IsLeastUpTo l.taken l.tray.value (λ b. slice_index l.initial.cells (l.base + b)) a (slice_index l.cells (l.base + a)))
    × ((i : ℕ) → i < l.base → slice_index l.cells i ≡ slice_index l.initial.cells i)

abbrev pub decreases-loop-taken : goal.decreases-loop-taken
decreases-loop-taken l = l.all - l.taken
