use Rattle.std.proofs.Common.{◌∙◌, sym}
use Rattle.cct_bill.proofs.Bills.{held_holds, held_is, held_stays, inhibited_holds}
use Rattle.cct_bill.proofs.bill.BillAcceptor.present.Goals as goal

pub returns-then-not-holds-clause-stands : goal.returns-then-not-holds-clause-stands
returns-then-not-holds-clause-stands c d past so =
    let no = sym (c.holds.ensures d past so) ∙ c.if-not-holds.true in
    record {
      kind = so.kind;
      setup = so.setup;
      intake = inhibited_holds _ _ past c.args.place no (c.tell.ensures _ _ _ _ so.intake);
      held = so.held ∙ held_stays past c.args.place no;
    }

pub returns-clause-stands : goal.returns-clause-stands
returns-clause-stands c d past so =
    let yes = sym (c.holds.ensures d past so) ∙ c.if-not-holds.false in
    record {
      kind = so.kind;
      setup = so.setup;
      intake = held_holds _ _ past c.args.place yes (c.tell-2.ensures _ _ _ _ so.intake);
      held = held_is past c.args.place yes;
    }
