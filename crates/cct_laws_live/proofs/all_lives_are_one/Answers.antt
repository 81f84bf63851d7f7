use Rattle.cct_laws_live.proofs.Joining.{lives_join, lives_whole}
use Rattle.cct_laws_live.proofs.all_lives_are_one.Goals as goal

pub returns : goal.returns
returns c = record { goes_on = lives_join; whole = lives_whole }
