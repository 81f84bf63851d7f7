use Rattle.cct_journal.proofs.Leaving.{cut_one_of, cut_settled}
use Rattle.cct_journal.proofs.journal.Journal.power_cut.Goals as goal

pub returns-in-Ok-clause-stands : goal.returns-in-Ok-clause-stands
returns-in-Ok-clause-stands g c = cut_settled c.power_cut.ensures.outlasts c.in-Ok.ensures.cut

pub returns-in-Ok-clause-one_of : goal.returns-in-Ok-clause-one_of
returns-in-Ok-clause-one_of g c = cut_one_of c.power_cut.ensures.outlasts c.in-Ok.ensures.cut
