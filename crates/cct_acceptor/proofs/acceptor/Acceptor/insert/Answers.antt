use Rattle.std.proofs.Common.{◌∙◌, sym}
use Rattle.cct_acceptor.proofs.Coins.{accepted_holds, inhibited_holds}
use Rattle.cct_acceptor.proofs.acceptor.Acceptor.insert.Goals as goal

pub returns-then-not-lets_in-clause-stands : goal.returns-then-not-lets_in-clause-stands
returns-then-not-lets_in-clause-stands c d past so = record {
  kind = so.kind;
  setup = so.setup;
  ids = so.ids;
  intake = inhibited_holds _ _ past c.args.place
      (sym (c.lets_in.ensures _ _ _ _ so.intake) ∙ c.if-not-lets_in.true)
      (c.tell.ensures _ _ _ _ so.intake);
}

pub returns-clause-stands : goal.returns-clause-stands
returns-clause-stands c d past so = record {
  kind = so.kind;
  setup = so.setup;
  ids = so.ids;
  intake = accepted_holds _ _ past c.args.place _
      (sym (c.lets_in.ensures _ _ _ _ so.intake) ∙ c.if-not-lets_in.false)
      (c.path_of-path.ensures _ so.intake.table)
      (c.accept.ensures _ _ _ _ so.intake);
}
