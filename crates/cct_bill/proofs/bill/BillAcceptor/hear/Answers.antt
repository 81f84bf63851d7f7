use Rattle.std.proofs.Common.{[]}
use Rattle.cct_bill.proofs.bill.BillAcceptor.hear.Goals as goal

pub returns-in-Some-clause-gap : goal.returns-in-Some-clause-gap
returns-in-Some-clause-gap c = c.act-reply.ensures.heard [] c.requires.gap
