-- A device on the wire, and what it met.
use Rattle.std.specs.Prelude.{List, map}
use Rattle.cct_model.specs.terms.device.DeviceSetup.{DeviceSetup}
use Rattle.cct_model.specs.History.{Met}
use Rattle.cct_bus.specs.Body.{StandsFor}
use Rattle.cct_bus.specs.declared.device.Device.{Device}

-- The setup of a device on the wire.
abbrev pub setup_in : Device → DeviceSetup
setup_in device = device.setup.now

-- The setups of devices on the wire, in their order.
abbrev pub setups_in : List Device → List DeviceSetup
setups_in devices = map setup_in devices

-- A device on the wire represents one of its setup that met all this, newest first.
abbrev pub Lived : Device → List Met → Type 0
Lived device past = StandsFor device.body (setup_in device) past

-- A device on the wire met what a history shows of its setup.
abbrev pub Stands : (DeviceSetup → List Met) → Device → Type 0
Stands history device = Lived device (history (setup_in device))
