use Rattle.cct_laws_live_devices.proofs.Standing.{stands}
use Rattle.cct_laws_live_devices.proofs.an_honest_line_stands_for_every_setup.Goals as goal

pub returns : goal.returns
returns c = stands
