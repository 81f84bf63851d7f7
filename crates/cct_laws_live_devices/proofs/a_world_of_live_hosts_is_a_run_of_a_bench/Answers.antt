use Rattle.cct_laws_live_devices.proofs.Growing.{world_played}
use Rattle.cct_laws_live_devices.proofs.a_world_of_live_hosts_is_a_run_of_a_bench.Goals as goal

pub returns : goal.returns
returns c = world_played
