use Rattle.cct_laws.proofs.setups.Rising.{same_devices, devices_rise}
use Rattle.cct_laws.proofs.by_address_devices_are_the_same_rising.Goals as goal

pub returns : goal.returns
returns c = record { same = same_devices; rising = devices_rise }
