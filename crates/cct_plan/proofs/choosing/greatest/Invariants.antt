use Rattle.std.proofs.Common.{ℕ, ◌≤◌}
use Rattle.cct_model.specs.Plan.{most_of}
use Rattle.cct_plan.specs.Row.{least_in, Meets}
use Rattle.cct_plan.proofs.choosing.greatest.Given as goal

abbrev pub invariant-loop-count : goal.invariant-loop-count
invariant-loop-count l =
    (l.count ≤ most_of l.tray)
    × ((o : ℕ) → o ≤ most_of l.tray → Meets l.tray (least_in l.cells l.later) l.amount l.least o → o ≤ l.count)

abbrev pub decreases-loop-count : goal.decreases-loop-count
decreases-loop-count l = l.count
