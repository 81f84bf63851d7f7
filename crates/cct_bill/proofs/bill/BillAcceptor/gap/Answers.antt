use Rattle.std.proofs.Common.{[]}
use Rattle.cct_bill.proofs.bill.BillAcceptor.gap.Goals as goal

pub returns-then-passes_by-clause-gap : goal.returns-then-passes_by-clause-gap
returns-then-passes_by-clause-gap c = c.gap.ensures.gap c.args.self.now.setup.now.addr

pub returns-in-None-clause-gap : goal.returns-in-None-clause-gap
returns-in-None-clause-gap c = c.gap-2.ensures.gap c.args.self.now.setup.now.addr

pub returns-in-Some-clause-gap : goal.returns-in-Some-clause-gap
returns-in-Some-clause-gap c = c.act-reply.ensures.heard [] (c.gap-2.ensures.gap c.args.self.now.setup.now.addr)
