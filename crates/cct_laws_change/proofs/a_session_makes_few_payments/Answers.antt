use Rattle.cct_laws_change.proofs.Few.{has_tally, makes_few}
use Rattle.cct_laws_change.proofs.a_session_makes_few_payments.Goals as goal

pub returns : goal.returns
returns c = record { few = makes_few; tallied = has_tally }
