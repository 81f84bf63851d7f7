use Rattle.std.proofs.Common.{[]}
use Rattle.cct_acceptor.proofs.acceptor.Acceptor.hear.Goals as goal

pub returns-in-Some-clause-gap : goal.returns-in-Some-clause-gap
returns-in-Some-clause-gap c = c.act-reply.ensures.heard [] c.requires.gap
