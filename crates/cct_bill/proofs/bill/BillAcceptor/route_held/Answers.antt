use Rattle.std.proofs.Common.{◌∙◌, ap, subst, sym}
use Rattle.cct_model_wire.specs.Bill.{is_way}
use Rattle.cct_bill.specs.Bill.{start_of}
use Rattle.cct_bill.proofs.Bills.{Routes, held_no_more, returned_holds, stacked_holds}
use Rattle.cct_bill.proofs.bill.BillAcceptor.route_held.Goals as goal

pub returns-in-1-clause-stands : goal.returns-in-1-clause-stands
returns-in-1-clause-stands c d past so =
    let held = sym so.held ∙ c.requires.held in
    record {
      kind = so.kind;
      setup = so.setup;
      intake = subst (λ way. Routes c.accept.new.self (start_of d.body) past way) (sym c.in-1.is)
          (stacked_holds _ _ past _ held (c.accept.ensures _ _ _ _ so.intake));
      held = held_no_more past c.args.way (ap is_way c.in-1.is);
    }

pub returns-in-0-clause-stands : goal.returns-in-0-clause-stands
returns-in-0-clause-stands c d past so =
    let held = sym so.held ∙ c.requires.held in
    record {
      kind = so.kind;
      setup = so.setup;
      intake = subst (λ way. Routes c.tell.new.self (start_of d.body) past way) (sym c.in-0.is)
          (returned_holds _ _ past _ held (c.tell.ensures _ _ _ _ so.intake));
      held = held_no_more past c.args.way (ap is_way c.in-0.is);
    }
