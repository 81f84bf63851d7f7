use Rattle.cct_laws_live_devices.proofs.Living.{life_right_over}
use Rattle.cct_laws_live_devices.proofs.over_an_honest_line_the_money_is_right.Goals as goal

pub returns : goal.returns
returns c start = life_right_over _ _
