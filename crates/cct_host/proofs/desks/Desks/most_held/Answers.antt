use Rattle.std.proofs.Common.{arith}
use Rattle.cct_host.proofs.Held.{few_held_of, held_is}
use Rattle.cct_host.proofs.desks.Desks.most_held.Goals as goal

pub returns-clause-most : goal.returns-clause-most
returns-clause-most c = let few = few_held_of c.args.self.now in grind (arith, few)

pub returns-clause-stands : goal.returns-clause-stands
returns-clause-stands c past stands =
    let is = held_is c.args.self.now past stands in
    let few = few_held_of c.args.self.now in
    grind (arith, few, is)
