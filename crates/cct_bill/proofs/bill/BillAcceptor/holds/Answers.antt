use Rattle.std.proofs.Common.{◌∙◌, sym}
use Rattle.cct_bill.proofs.Bills.{as_inhibited, lets_in, not_beside}
use Rattle.cct_bill.proofs.bill.BillAcceptor.holds.Goals as goal

pub returns-in-Some : goal.returns-in-Some
returns-in-Some c d past so = not_beside past c.args.place _ (sym so.held ∙ c.in-Some.is)

pub returns-in-None : goal.returns-in-None
returns-in-None c d past so =
    as_inhibited past c.args.place _ (sym so.held ∙ c.in-None.is)
    (c.lets_in.ensures _ _ _ _ so.intake ∙ lets_in past c.args.place)
