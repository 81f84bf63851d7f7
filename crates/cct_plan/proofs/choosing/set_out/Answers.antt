use Rattle.std.proofs.Common.{arith}
use Rattle.cct_plan.proofs.Fewest.{whole, no_plan}
use Rattle.cct_plan.proofs.choosing.set_out.Goals as goal

pub returns-then-told-clause-none : goal.returns-then-told-clause-none
returns-then-told-clause-none c = (
  c.clear.ensures,
  no_plan c.args.trays.now c.args.amount _ c.requires.few (whole _ c.args.trays.now c.args.amount c.tabulate.ensures)
      (omega (arith, c.told.ensures, c.if-told.true)),
)
