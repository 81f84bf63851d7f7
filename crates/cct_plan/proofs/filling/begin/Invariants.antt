use Rattle.std.proofs.Common.{◌≡◌, ℕ, ◌+◌, ◌*◌, ◌<◌, slice_index}
use Rattle.cct_plan.specs.declared.filling.TheConstants.{ROW}
use Rattle.cct_plan.specs.Row.{least_in}
use Rattle.cct_plan.proofs.filling.begin.Given as goal

abbrev pub invariant-loop-a : goal.invariant-loop-a
invariant-loop-a l =
    ((b : ℕ) → b < l.a → slice_index l.cells (l.many * ROW + b) ≡ least_in l.initial.cells l.many b)
    × ((i : ℕ) → i < l.many * ROW → slice_index l.cells i ≡ slice_index l.initial.cells i)
