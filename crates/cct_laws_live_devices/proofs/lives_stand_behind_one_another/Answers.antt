use Rattle.cct_laws_live_devices.proofs.Real.{first_whole, next_whole}
use Rattle.cct_laws_live_devices.proofs.lives_stand_behind_one_another.Goals as goal

pub returns : goal.returns
returns c = record { first = first_whole; next = next_whole }
