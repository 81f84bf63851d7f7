use Rattle.cct_live_setup_copy.proofs.Parts.{devices_parts}
use Rattle.cct_live_setup_copy.proofs.Written.{both_written, written_as}
use Rattle.cct_live_setup_copy.proofs.writing.+put_devices.Goals as goal

pub returns-in-Ok : goal.returns-in-Ok
returns-in-Ok g t c =
    let parts = devices_parts c.args.devices.now c.device-item.result c.in-len1-up.len_at_least c.device-item.is in
    written_as _ _ _ _ _ _ _ parts (both_written _ _ _ _ _ _ _ _ c.in-Ok.ensures c.put_devices.ensures)
