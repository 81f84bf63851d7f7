-- The place of a device among those of a setup, by its address.
use Rattle.std.specs.Prelude.{ℕ, ◌==◌, Bool, List, map, Option}
use Rattle.std.specs.List.{position, range_with_len}
use Rattle.cct_model_wire.specs.declared.device.DeviceSetup.{DeviceSetup}
use Rattle.cct_model_wire.specs.declared.device.TheConstants.{ADDRESSES}

-- Whether a device is at an address.
abbrev pub is_at : ℕ → DeviceSetup → Bool
is_at addr d = d.addr == addr

-- For each address, in rising order, the place of the first device there, or none.
unfoldable pub places_of : List DeviceSetup → List (Option ℕ)
places_of devices = map (λ addr. position (is_at addr) devices) (range_with_len 0 ADDRESSES)
