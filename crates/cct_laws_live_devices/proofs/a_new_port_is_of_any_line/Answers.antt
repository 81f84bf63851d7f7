use Rattle.cct_laws_live_devices.proofs.Living.{new_port}
use Rattle.cct_laws_live_devices.proofs.a_new_port_is_of_any_line.Goals as goal

pub returns : goal.returns
returns c start = new_port _ _
