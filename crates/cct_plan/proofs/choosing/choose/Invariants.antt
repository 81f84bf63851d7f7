use Rattle.std.proofs.Common.{◌≡◌, ◌≢◌, ◌-◌, ◌≤◌, length}
use Rattle.cct_plan.specs.declared.filling.TheConstants.{FAR}
use Rattle.cct_plan.specs.Row.{least_in}
use Rattle.cct_plan.proofs.Chain.{Leads}
use Rattle.cct_plan.proofs.choosing.choose.Given as goal

abbrev pub invariant-loop-i : goal.invariant-loop-i
invariant-loop-i l =
    (length l.counts.items ≡ l.i)
    × (l.rest ≤ l.amount)
    × (least_in l.cells (length l.trays - l.i) l.rest ≢ FAR)
    × Leads l.trays l.amount l.i l.rest l.counts.items
