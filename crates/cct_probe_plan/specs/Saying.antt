-- The bytes of what is sent for a row of the plan.
use Rattle.std.specs.Prelude.{◌≡◌, ◌⊎◌, ◌^◌, ℕ, ◌+◌, ◌-◌, ◌%◌, ◌/◌, ◌==◌, not, Bool, true, false}
use Rattle.std.specs.Prelude.{List, [], ◌∷◌, ◌++◌, take, if◌then◌else◌, Option, Some, None}
use Rattle.std.specs.Prelude.{position, slice_index}
use Rattle.cct_model_wire.specs.declared.wire.CheckKind.{CheckKind}
use Rattle.cct_model_wire.specs.declared.wire.CheckKind.TheVariants.{Simple, Crc}
use Rattle.cct_model_wire.specs.declared.wire.TheConstants.{HOST}
use Rattle.cct_model_wire.specs.declared.device.DeviceBody.{DeviceBody}
use Rattle.cct_model_wire.specs.declared.device.DeviceBody.TheVariants as body
use Rattle.cct_model_wire.specs.declared.device.DeviceSetup.{DeviceSetup}
use Rattle.cct_model_wire.specs.Device.{is_bill}
use Rattle.cct_model_wire.specs.Message.{spelling}
use Rattle.cct_model_wire.specs.Request.{three_bytes}
use Rattle.cct_probe_plan.specs.declared.plan.Ask.{Ask}
use Rattle.cct_probe_plan.specs.declared.plan.Ask.TheVariants as ask
use Rattle.cct_probe_plan.specs.declared.plan.Odd.{Odd}
use Rattle.cct_probe_plan.specs.declared.plan.Odd.TheVariants as odd
use Rattle.cct_probe_plan.specs.declared.plan.Say.{Say}
use Rattle.cct_probe_plan.specs.declared.plan.Say.TheVariants as say
use Rattle.cct_probe_plan.specs.declared.round.TheConstants.{MASKS}
use Rattle.cct_model_wire.specs.declared.device.Setup.{Setup}
use Rattle.cct_model_wire.specs.Exchange.{device_at}

-- The place at which something is, 1 where nothing is.
abbrev pub place_at : Option ℕ → ℕ
place_at None = 1
place_at (Some at) = at % 16 + 1

-- The place of the first value.
abbrev pub first_place : List ℕ → ℕ
first_place values = place_at (position (λ value. not (value == 0)) values)

-- The lowest place of a device with a value: the place that is tried. Where none has, it is place
-- 1.
abbrev pub tried_place : DeviceBody → ℕ
tried_place (body.Acceptor accepts values ids) = first_place values
tried_place (body.Bill accepts values ids) = first_place values
tried_place (body.Hopper life value) = 1

-- The place of a round.
abbrev pub place_of : ℕ → ℕ
place_of round = round % 16 + 1

-- The mask of a place alone, low byte first.
abbrev pub mask_of : ℕ → List ℕ
mask_of place =
    slice_index MASKS ((place - 1) % 16) % 256 ∷ slice_index MASKS ((place - 1) % 16) / 256 ∷ []

-- The serial number of the setup, or the one after it.
abbrev pub serial_of : DeviceSetup → Bool → ℕ
serial_of d true = d.serial
serial_of d false = (d.serial + 1) % 2 ^ 32

-- The header of a message.
abbrev pub header_of : DeviceBody → Ask → ℕ
header_of device (ask.Plain header) = header
header_of device (ask.One header byte) = header
header_of device (ask.Two header first second) = header
header_of device ask.Credits = if is_bill device then 159 else 229
header_of device ask.Coin = 184
header_of device ask.Bill = 157
header_of device ask.Bit = 231
header_of device ask.Place = 231
header_of device (ask.Dispense coins is_own) = 167

-- Its data bytes.
abbrev pub data_of : DeviceSetup → ℕ → Ask → List ℕ
data_of d round (ask.Plain header) = []
data_of d round (ask.One header byte) = byte ∷ []
data_of d round (ask.Two header first second) = first ∷ second ∷ []
data_of d round ask.Credits = []
data_of d round ask.Coin = place_of round ∷ []
data_of d round ask.Bill = place_of round ∷ []
data_of d round ask.Bit = mask_of (place_of round)
data_of d round ask.Place = mask_of (tried_place d.body)
data_of d round (ask.Dispense coins is_own) = three_bytes (serial_of d is_own) ++ coins ∷ []

-- The bytes of a message to a device.
unfoldable pub asking : DeviceSetup → ℕ → Ask → List ℕ
asking d round q = spelling d.kind (record
    { to = d.addr; from = Some HOST; header = header_of d.body q; body = data_of d round q })

-- A poll of an address (header 254).
abbrev pub poll : CheckKind → ℕ → List ℕ
poll kind addr = spelling kind (record { to = addr; from = Some HOST; header = 254; body = [] })

-- The other check.
abbrev pub other : CheckKind → CheckKind
other Simple = Crc
other Crc = Simple

-- Bytes with another last byte: one higher.
abbrev pub IsDamaged : List ℕ → List ℕ → Type 0
IsDamaged whole sent = (front : List ℕ) × (last : ℕ) × (whole ≡ front ++ last ∷ [])
    × (sent ≡ front ++ (last + 1) % 256 ∷ [])

-- What a poll is that nobody may answer: of the device under its check, but for one thing.
abbrev pub IsOdd : Odd → Setup → DeviceSetup → ℕ → List ℕ → Type 0
IsOdd odd.OtherCheck setup d round sent = sent ≡ poll (other d.kind) d.addr
IsOdd odd.Damaged setup d round sent = IsDamaged (poll d.kind d.addr) sent
IsOdd odd.Cut setup d round sent = sent ≡ take (round % 4 + 1) (poll d.kind d.addr)
IsOdd odd.Noise setup d round sent = sent ≡ 85 ∷ poll d.kind d.addr
IsOdd odd.Nobody setup d round sent =
    (addr : ℕ) × ((device_at setup.devices addr ≡ None) ⊎ (addr ≡ 255)) × (sent ≡ poll d.kind addr)

-- What is sent for a row at a device.
abbrev pub IsSaid : Say → Setup → DeviceSetup → ℕ → List ℕ → Type 0
IsSaid (say.Ask q) setup d round sent = sent ≡ asking d round q
IsSaid (say.Odd o) setup d round sent = IsOdd o setup d round sent
IsSaid (say.Nothing at_once) setup d round sent = sent ≡ []
