use Rattle.std.proofs.Common.{length}
use Rattle.cct_live_setup_copy.proofs.writing.+put_devices.Given as goal

abbrev pub decreases-put_devices : goal.decreases-put_devices
decreases-put_devices g l = length l.devices.now
