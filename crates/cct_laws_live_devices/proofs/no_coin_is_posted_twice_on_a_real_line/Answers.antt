use Rattle.cct_laws_live_devices.proofs.Real.{life_right, world_right}
use Rattle.cct_laws_live_devices.proofs.no_coin_is_posted_twice_on_a_real_line.Goals as goal

pub returns : goal.returns
returns c = record { live = world_right; life = life_right }
