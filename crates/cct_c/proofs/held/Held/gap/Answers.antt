-- A gap does what the bytes since the last one ask.
use Rattle.std.proofs.Common.{rules}
use Rattle.cct_c.specs.declared.held.Held.TheVariants.{Acceptor, Bill, Hopper}
use Rattle.cct_c.specs.Held.{HasHeard, StandsFor}
use Rattle.cct_c.proofs.held.Held.gap.Goals as goal

pub returns-in-Acceptor-clause-stands : goal.returns-in-Acceptor-clause-stands
returns-in-Acceptor-clause-stands c = λ d past bytes so has.
    let at : StandsFor (Acceptor c.in-Acceptor.acceptor) d past = search rules in
    let by : HasHeard (Acceptor c.in-Acceptor.acceptor) bytes = search rules in
    c.gap.ensures.stands d past bytes at by

pub returns-in-Hopper-clause-stands : goal.returns-in-Hopper-clause-stands
returns-in-Hopper-clause-stands c = λ d past bytes so has.
    let at : StandsFor (Hopper c.in-Hopper.hopper) d past = search rules in
    let by : HasHeard (Hopper c.in-Hopper.hopper) bytes = search rules in
    c.gap-in-Hopper.ensures.stands d past bytes at by

pub returns-in-Bill-clause-stands : goal.returns-in-Bill-clause-stands
returns-in-Bill-clause-stands c = λ d past bytes so has.
    let at : StandsFor (Bill c.in-Bill.bills) d past = search rules in
    let by : HasHeard (Bill c.in-Bill.bills) bytes = search rules in
    c.gap-in-Bill.ensures.stands d past bytes at by
