-- A device of a setup: what it is, and what it replies after all that it met.
use Rattle.std.specs.Prelude.{ℕ, ◌-◌, ◌<◌, ◌≤◌, ◌≡◌, ◌^◌, Bool, List, length, Option, Some, None}
use Rattle.std.specs.Prelude.{codes, slice_index_or, ⊤}
use Rattle.std.specs.List.{All}
use Rattle.std.specs.Option.{option_or}
use Rattle.cct_model_wire.specs.declared.coin.TheConstants.{COIN_PLACES}
use Rattle.cct_model_wire.specs.declared.wire.TheConstants.{MOST_NAME}
use Rattle.cct_model_wire.specs.declared.device.DeviceBody.{DeviceBody}
use Rattle.cct_model_wire.specs.declared.device.DeviceBody.TheVariants.{Acceptor, Bill, Hopper}
use Rattle.cct_model_wire.specs.declared.device.DeviceSetup.{DeviceSetup}
use Rattle.cct_model_wire.specs.declared.family.Family.TheVariants as family
use Rattle.cct_model_wire.specs.declared.request.Request.{Request}
use Rattle.cct_model_wire.specs.declared.request.Request.TheVariants.{SimplePoll, MakerId, Category}
use Rattle.cct_model_wire.specs.declared.request.Request.TheVariants.{ProductCode, SerialNumber}
use Rattle.cct_model_wire.specs.declared.request.Request.TheVariants.{SoftwareRevision, BuildCode}
use Rattle.cct_model_wire.specs.declared.request.Request.TheVariants.{CommsRevision, ResetDevice}
use Rattle.cct_model_wire.specs.Reply.{Reply}
use Rattle.cct_model_wire.specs.Reply as reply
use Rattle.cct_model_wire.specs.Family.{family_of, is_same, takes_money}
use Rattle.cct_model_wire.specs.History.{Met}
use Rattle.cct_model_wire.specs.Acceptor.{acceptor_reply}
use Rattle.cct_model_wire.specs.Hopper.{hopper_reply}
use Rattle.cct_model_wire.specs.Bill.{bill_reply}

-- A printing character: a byte from 21 to 7e in hexadecimal.
abbrev pub IsPrinting : ℕ → Type 0
IsPrinting byte = (33 ≤ byte) × (byte ≤ 126)

-- A text by which a device names itself: 1 to 24 printing characters.
abbrev pub IsWord : List ℕ → Type 0
IsWord text = (1 ≤ length text) × (length text ≤ MOST_NAME) × All IsPrinting text

-- The identification of a coin or of a bill: six printing characters.
abbrev pub IsId : List ℕ → Type 0
IsId id = (length id ≡ 6) × All IsPrinting id

-- An accept counter, and a value and an identification for each place, are in their ranges.
abbrev pub AreSoundPlaces : ℕ → List ℕ → List (List ℕ) → Type 0
AreSoundPlaces accepts values ids =
    (accepts < 2 ^ 24) × All (λ value. value ≤ 1000000) values × All IsId ids
    × (length values ≡ COIN_PLACES) × (length ids ≡ COIN_PLACES)

-- The numbers and the identifications of a kind of device are in their ranges; an acceptor of coins
-- or of bills has one of each for each of its places.
abbrev pub IsSoundBody : DeviceBody → Type 0
IsSoundBody (Acceptor accepts values ids) = AreSoundPlaces accepts values ids
IsSoundBody (Hopper life value) = (life < 2 ^ 24) × (1 ≤ value) × (value ≤ 1000000)
IsSoundBody (Bill accepts values ids) = AreSoundPlaces accepts values ids

-- The numbers and the texts of a device are in their ranges.
pub record IsSound (d : DeviceSetup) : Type 0 where
  pub low : 2 ≤ d.addr
  pub high : d.addr ≤ 255
  pub serial : d.serial < 2 ^ 24
  pub maker : IsWord d.texts.maker
  pub product : IsWord d.texts.product
  pub software : IsWord d.texts.software
  pub build : IsWord d.texts.build
  pub body : IsSoundBody d.body

-- The device is a coin acceptor.
abbrev pub IsAcceptor : DeviceBody → Type 0
IsAcceptor (Acceptor accepts values ids) = ⊤
IsAcceptor (Hopper life value) = ⊥
IsAcceptor (Bill accepts values ids) = ⊥

-- The device is a hopper.
abbrev pub IsHopper : DeviceBody → Type 0
IsHopper (Acceptor accepts values ids) = ⊥
IsHopper (Hopper life value) = ⊤
IsHopper (Bill accepts values ids) = ⊥

-- The device is a bill acceptor.
abbrev pub IsBill : DeviceBody → Type 0
IsBill (Acceptor accepts values ids) = ⊥
IsBill (Hopper life value) = ⊥
IsBill (Bill accepts values ids) = ⊤

-- The device takes money in: it is a coin acceptor or a bill acceptor.
abbrev pub IsTaker : DeviceBody → Type 0
IsTaker (Acceptor accepts values ids) = ⊤
IsTaker (Hopper life value) = ⊥
IsTaker (Bill accepts values ids) = ⊤

-- Whether a device is a coin acceptor.
abbrev pub is_acceptor : DeviceBody → Bool
is_acceptor body = is_same family.Acceptor (family_of body)

-- Whether a device is a hopper.
abbrev pub is_hopper : DeviceBody → Bool
is_hopper body = is_same family.Hopper (family_of body)

-- Whether a device is a bill acceptor.
abbrev pub is_bill : DeviceBody → Bool
is_bill body = is_same family.Bill (family_of body)

-- Whether a device takes money in.
abbrev pub is_taker : DeviceBody → Bool
is_taker body = takes_money (family_of body)

-- The value of a place of a device, 0 where it has none.
abbrev pub value_at : DeviceBody → ℕ → ℕ
value_at (Acceptor accepts values ids) place = slice_index_or values (place - 1) 0
value_at (Hopper life value) place = 0
value_at (Bill accepts values ids) place = slice_index_or values (place - 1) 0

-- The equipment category of a device.
abbrev pub category_of : DeviceBody → List ℕ
category_of (Acceptor accepts values ids) = codes "Coin Acceptor"
category_of (Hopper life value) = codes "Payout"
category_of (Bill accepts values ids) = codes "Bill Validator"

-- The reply of a device to a request that every device answers, or none.
unfoldable pub common_reply : DeviceSetup → Request → Option Reply
common_reply d SimplePoll = Some reply.ack
common_reply d MakerId = Some (reply.text d.texts.maker)
common_reply d Category = Some (reply.text (category_of d.body))
common_reply d ProductCode = Some (reply.text d.texts.product)
common_reply d SerialNumber = Some (reply.serial d.serial)
common_reply d SoftwareRevision = Some (reply.text d.texts.software)
common_reply d BuildCode = Some (reply.text d.texts.build)
common_reply d CommsRevision = Some (reply.revision 1 4 0)
common_reply d ResetDevice = Some reply.ack
common_reply d q = None

-- The reply of a device with a serial number that met all this to a request that its kind alone
-- answers, or none.
abbrev pub own_reply : ℕ → DeviceBody → List Met → Request → Option Reply
own_reply serial (Acceptor accepts values ids) past q = acceptor_reply accepts ids past q
own_reply serial (Hopper life value) past q = hopper_reply serial life past q
own_reply serial (Bill accepts values ids) past q = bill_reply accepts past q

-- The reply of a device that met all this to a request, or none.
unfoldable pub reply_of : DeviceSetup → List Met → Request → Option Reply
reply_of d past q = option_or (common_reply d q) (own_reply d.serial d.body past q)
