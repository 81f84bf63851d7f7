use Rattle.cct_laws_live.proofs.LifeLaws.{life_tallied}
use Rattle.cct_laws_live.proofs.Tallying.{legal_tallied, live_tallied}
use Rattle.cct_laws_live.proofs.no_event_is_posted_twice.Goals as goal

pub returns : goal.returns
returns c = record { legal = legal_tallied; live = live_tallied; life = life_tallied }
