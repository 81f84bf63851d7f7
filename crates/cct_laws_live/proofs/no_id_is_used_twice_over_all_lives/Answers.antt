use Rattle.cct_laws_live.proofs.Carrying.{live_fresh}
use Rattle.cct_laws_live.proofs.LifeLaws.{life_fresh}
use Rattle.cct_laws_live.proofs.no_id_is_used_twice_over_all_lives.Goals as goal

pub returns : goal.returns
returns c = record { live = live_fresh; life = life_fresh }
