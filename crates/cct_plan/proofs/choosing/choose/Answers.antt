use Rattle.std.proofs.Common.{arith}
use Rattle.cct_plan.proofs.Chain.{met_there, still_paid, leads_on, chosen_at_last}
use Rattle.cct_plan.proofs.choosing.choose.Goals as goal

pub greatest-count-requires-clause-met : goal.greatest-count-requires-clause-met
greatest-count-requires-clause-met c =
    rw c.told.ensures (met_there c.args.cells.now c.args.trays.now c.args.amount c.loop-i.i c.loop-i.rest _ c.requires.tells
    (omega arith) c.loop-i.invariant.1 c.loop-i.invariant.2)

pub loop-i-preserved : goal.loop-i-preserved
loop-i-preserved c =
    let greatest = rw c.told.ensures at c.greatest-count.ensures in (
      omega (arith, c.push.ensures.len, c.loop-i.invariant.0),
      omega (arith, c.loop-i.invariant.1),
      rw c.worth-rest.ensures (still_paid c.args.cells.now c.args.trays.now c.args.amount c.loop-i.i c.loop-i.rest _
          c.requires.tells (omega arith) c.loop-i.invariant.1 c.loop-i.invariant.2 c.greatest-count.result greatest),
      rw (c.push.ensures.items, c.worth-rest.ensures) (leads_on c.args.cells.now c.args.trays.now c.args.amount c.loop-i.i
          c.loop-i.rest _ c.requires.tells (omega arith) c.loop-i.invariant.1 c.loop-i.invariant.2 c.greatest-count.result greatest
          c.loop-i.counts.items c.loop-i.invariant.3),
    )

pub returns : goal.returns
returns c = chosen_at_last c.args.cells.now c.args.trays.now c.args.amount c.loop-i.i c.loop-i.rest c.loop-i.counts.items
    (omega arith) c.loop-i.invariant.2 c.loop-i.invariant.3
