use Rattle.cct_plan.specs.Row.{Tells}
use Rattle.cct_plan.proofs.filling.tabulate.Given as goal

abbrev pub invariant-loop-many : goal.invariant-loop-many
invariant-loop-many l = Tells l.cells l.trays l.many l.amount
