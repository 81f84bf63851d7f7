use Rattle.cct_laws_live_devices.proofs.Answering.{in_some_world}
use Rattle.cct_laws_live_devices.proofs.what_is_heard_stands_in_some_world.Goals as goal

pub returns : goal.returns
returns c = in_some_world
