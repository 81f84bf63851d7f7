use Rattle.cct_laws_live.proofs.LifeLaws.{life_posts}
use Rattle.cct_laws_live.proofs.Posting.{legal_posts}
use Rattle.cct_laws_live.proofs.Undosed.{live_posts}
use Rattle.cct_laws_live.proofs.what_is_posted_was_heard.Goals as goal

pub returns : goal.returns
returns c = record { legal = legal_posts; live = live_posts; life = life_posts }
