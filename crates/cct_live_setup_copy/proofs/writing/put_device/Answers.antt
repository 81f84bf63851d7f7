use Rattle.cct_live_setup_copy.specs.Text.{device_text}
use Rattle.cct_live_setup_copy.proofs.Written.{both_written}
use Rattle.cct_live_setup_copy.proofs.writing.put_device.Goals as goal

pub returns-in-Ok : goal.returns-in-Ok
unfolding device_text
returns-in-Ok g c = both_written _ _ _ _ _ _ _ _ c.in-Ok.ensures c.put_rest.ensures
