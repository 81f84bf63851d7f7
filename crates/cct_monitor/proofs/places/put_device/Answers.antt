use Rattle.cct_monitor.proofs.Insertions.{put_is}
use Rattle.cct_monitor.proofs.places.put_device.Goals as goal

pub returns : goal.returns
returns c = let put = put_is c.args.device c.args.devices.now.items in cc
