-- Two devices under the CRC that have the same replies: both hoppers, or both acceptors, of coins
-- or of bills.
use Rattle.std.specs.Prelude.{ℕ, ◌&&◌, Bool, true, false, List, [], ◌∷◌, if◌then◌else◌, Option}
use Rattle.std.specs.Prelude.{Some, None}
use Rattle.cct_model_wire.specs.declared.wire.CheckKind.{CheckKind}
use Rattle.cct_model_wire.specs.declared.wire.CheckKind.TheVariants.{Simple, Crc}
use Rattle.cct_model_wire.specs.declared.device.DeviceSetup.{DeviceSetup}
use Rattle.cct_model_wire.specs.Device.{is_hopper}

-- The check is the CRC.
abbrev pub is_crc : CheckKind → Bool
is_crc Crc = true
is_crc Simple = false

-- Two Booleans are the same.
abbrev pub same : Bool → Bool → Bool
same true b = b
same false true = false
same false false = true

-- Two devices have the same replies, and are both under the CRC.
abbrev pub are_twins : DeviceSetup → DeviceSetup → Bool
are_twins d e = is_crc d.kind && is_crc e.kind && same (is_hopper d.body) (is_hopper e.body)

-- The address of the first of these that is such a one for a device.
abbrev pub twin_of : DeviceSetup → List DeviceSetup → Option ℕ
twin_of d [] = None
twin_of d (e ∷ devices) = if are_twins d e then Some e.addr else twin_of d devices

-- The addresses of the first two, or those of the devices after it.
abbrev pub two_or : ℕ → Option ℕ → Option (ℕ × ℕ) → Option (ℕ × ℕ)
two_or addr (Some other) rest = Some (addr, other)
two_or addr None rest = rest

-- The addresses of the first two devices of a list that have the same replies, and are both under
-- the CRC.
abbrev pub crc_twins : List DeviceSetup → Option (ℕ × ℕ)
crc_twins [] = None
crc_twins (d ∷ devices) = two_or d.addr (twin_of d devices) (crc_twins devices)
