use Rattle.cct_bill.proofs.bill.BillAcceptor.new.Goals as goal

pub returns-clause-gap : goal.returns-clause-gap
returns-clause-gap c = c.new.ensures.gap c.args.setup.now.addr
