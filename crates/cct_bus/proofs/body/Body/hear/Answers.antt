use Rattle.std.proofs.Common.{rules}
use Rattle.cct_acceptor.specs.Acceptor as acceptors
use Rattle.cct_bill.specs.Bill as bills
use Rattle.cct_hopper.specs.Hopper as hoppers
use Rattle.cct_bus.proofs.body.Body.hear.Goals as goal

pub returns-in-Acceptor-clause-stands : goal.returns-in-Acceptor-clause-stands
returns-in-Acceptor-clause-stands c = λ d past so.
    let at : acceptors.StandsFor c.in-Acceptor.acceptor d past = search rules in
    c.hear.ensures.stands d past at

pub returns-in-Hopper-clause-stands : goal.returns-in-Hopper-clause-stands
returns-in-Hopper-clause-stands c = λ d past so.
    let at : hoppers.StandsFor c.in-Hopper.hopper d past = search rules in
    c.hear-in-Hopper.ensures.stands d past at

pub returns-in-Bill-clause-stands : goal.returns-in-Bill-clause-stands
returns-in-Bill-clause-stands c = λ d past so.
    let at : bills.StandsFor c.in-Bill.bills d past = search rules in
    c.hear-in-Bill.ensures.stands d past at
