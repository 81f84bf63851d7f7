-- The devices of a setup together.
use Rattle.std.specs.Prelude.{◌≡◌, List, [], ◌∷◌, None, ⊤}
use Rattle.std.specs.List.{All}
use Rattle.cct_model_wire.specs.declared.device.DeviceSetup.{DeviceSetup}
use Rattle.cct_model_wire.specs.declared.device.Setup.{Setup}
use Rattle.cct_model_wire.specs.Device.{IsSound}
use Rattle.cct_model_wire.specs.Exchange.{device_at}

-- No two devices have the same address.
abbrev pub AreDistinct : List DeviceSetup → Type 0
AreDistinct [] = ⊤
AreDistinct (d ∷ devices) = (device_at devices d.addr ≡ None) × AreDistinct devices

-- The numbers and texts of all devices are in their ranges, and their addresses are different.
pub record IsSoundSetup (setup : Setup) : Type 0 where
  pub devices : All IsSound setup.devices
  pub distinct : AreDistinct setup.devices
