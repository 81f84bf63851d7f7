-- The coin places of a mask without a value.
use Rattle.std.specs.Prelude.{ℕ, ◌==◌, ◌&&◌, Bool}
use Rattle.cct_model.specs.terms.device.DeviceBody.{DeviceBody}
use Rattle.cct_model.specs.Setting.{has_place}
use Rattle.cct_model.specs.Device.{value_at}

-- A mask has a coin place, which has no value at a device.
abbrev pub lacks : DeviceBody → ℕ → ℕ → Bool
lacks body mask place = has_place mask place && (value_at body place == 0)
