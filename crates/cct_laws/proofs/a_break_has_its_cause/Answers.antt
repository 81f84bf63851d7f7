use Rattle.cct_laws.proofs.acceptor.Safety.{legal_caused, legal_causes}
use Rattle.cct_laws.proofs.a_break_has_its_cause.Goals as goal

pub returns : goal.returns
returns c = record { waiting = legal_caused; put = legal_causes }
