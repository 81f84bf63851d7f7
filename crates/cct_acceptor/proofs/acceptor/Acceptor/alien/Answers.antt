use Rattle.cct_acceptor.proofs.acceptor.Acceptor.alien.Goals as goal

pub returns-clause-stands : goal.returns-clause-stands
returns-clause-stands c d past so = record {
  kind = so.kind;
  setup = so.setup;
  ids = so.ids;
  intake = c.tell.ensures _ _ _ _ so.intake;
}
