use Rattle.cct_laws_live.proofs.Closed.{legal_closed, life_closed, live_closed}
use Rattle.cct_laws_live.proofs.what_is_closed_was_heard.Goals as goal

pub returns : goal.returns
returns c = record { legal = legal_closed; live = live_closed; life = life_closed }
