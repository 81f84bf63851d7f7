-- Requests as header and data bytes (ccTalk Generic Specification 4, parts 2 and 3).
use Rattle.std.specs.Prelude.{ℕ, ◌+◌, ◌*◌, ◌/◌, ◌%◌, ◌==◌, List, [], ◌∷◌, ◌++◌, replicate}
use Rattle.std.specs.Prelude.{if◌then◌else◌, Option, Some, None}
use Rattle.cct_model_wire.specs.declared.request.Request.{Request}
use Rattle.cct_model_wire.specs.declared.request.Request.TheVariants.{SimplePoll, AddressPoll}
use Rattle.cct_model_wire.specs.declared.request.Request.TheVariants.{MakerId, Category}
use Rattle.cct_model_wire.specs.declared.request.Request.TheVariants.{ProductCode, SerialNumber}
use Rattle.cct_model_wire.specs.declared.request.Request.TheVariants.{SoftwareRevision, BuildCode}
use Rattle.cct_model_wire.specs.declared.request.Request.TheVariants.{CommsRevision, ResetDevice}
use Rattle.cct_model_wire.specs.declared.request.Request.TheVariants.{SetMask, GetMask, SetMaster}
use Rattle.cct_model_wire.specs.declared.request.Request.TheVariants.{GetMaster, ReadCredits}
use Rattle.cct_model_wire.specs.declared.request.Request.TheVariants.{SetPath, GetPath, SetDefault}
use Rattle.cct_model_wire.specs.declared.request.Request.TheVariants.{GetDefault, CoinId}
use Rattle.cct_model_wire.specs.declared.request.Request.TheVariants.{AcceptCount, ReadBills}
use Rattle.cct_model_wire.specs.declared.request.Request.TheVariants.{RouteBill, Enable, Dispense}
use Rattle.cct_model_wire.specs.declared.request.Request.TheVariants.{CipherDispense, GetStatus}
use Rattle.cct_model_wire.specs.declared.request.Request.TheVariants.{GetLife, StopNow, TestHopper}
use Rattle.cct_model_wire.specs.declared.request.Request.TheVariants.{PumpRng, CipherKey}
use Rattle.cct_model_wire.specs.declared.request.ReplyForm.{ReplyForm}
use Rattle.cct_model_wire.specs.declared.request.ReplyForm.TheVariants as form

-- A number of two bytes, low byte first.
abbrev pub from_two : ℕ → ℕ → ℕ
from_two low high = low + 256 * high

-- A number of three bytes, low byte first.
abbrev pub from_three : ℕ → ℕ → ℕ → ℕ
from_three low middle high = low + 256 * middle + 65536 * high

-- The three bytes of a number below 2 ^ 24, low byte first.
abbrev pub three_bytes : ℕ → List ℕ
three_bytes n = n % 256 ∷ n / 256 % 256 ∷ n / 65536 % 256 ∷ []

-- The header of a request.
abbrev pub header_of : Request → ℕ
header_of SimplePoll = 254
header_of AddressPoll = 253
header_of MakerId = 246
header_of Category = 245
header_of ProductCode = 244
header_of SerialNumber = 242
header_of SoftwareRevision = 241
header_of BuildCode = 192
header_of CommsRevision = 4
header_of ResetDevice = 1
header_of (SetMask mask) = 231
header_of GetMask = 230
header_of (SetMaster value) = 228
header_of GetMaster = 227
header_of ReadCredits = 229
header_of (SetPath place path) = 210
header_of (GetPath place) = 209
header_of (SetDefault path) = 189
header_of GetDefault = 188
header_of (CoinId place) = 184
header_of AcceptCount = 225
header_of ReadBills = 159
header_of (RouteBill way) = 154
header_of (Enable code) = 164
header_of (Dispense serial count) = 167
header_of CipherDispense = 167
header_of GetStatus = 166
header_of GetLife = 168
header_of StopNow = 172
header_of TestHopper = 163
header_of PumpRng = 161
header_of CipherKey = 160

-- The data bytes with which a request is sent: those that say more than their number stand in its
-- values, and the bytes under a cipher are sent as zeros or not at all.
unfoldable pub data_of : Request → List ℕ
data_of (SetMask mask) = mask % 256 ∷ mask / 256 ∷ []
data_of (SetMaster value) = value ∷ []
data_of (SetPath place path) = place ∷ path ∷ []
data_of (GetPath place) = place ∷ []
data_of (SetDefault path) = path ∷ []
data_of (CoinId place) = place ∷ []
data_of (RouteBill way) = way ∷ []
data_of (Enable code) = code ∷ []
data_of (Dispense serial count) = three_bytes serial ++ count ∷ []
data_of CipherDispense = replicate 9 0
data_of _ = []

-- The requests that have just these data bytes.
unfoldable pub requests_with : List ℕ → List Request
requests_with [] =
    SimplePoll ∷ AddressPoll ∷ MakerId ∷ Category ∷ ProductCode ∷ SerialNumber ∷ SoftwareRevision
    ∷ BuildCode ∷ CommsRevision ∷ ResetDevice ∷ GetMask ∷ GetMaster ∷ ReadCredits ∷ GetDefault
    ∷ AcceptCount ∷ ReadBills ∷ GetStatus ∷ GetLife ∷ StopNow ∷ TestHopper ∷ []
requests_with (byte ∷ []) = SetMaster byte ∷ GetPath byte ∷ SetDefault byte ∷ CoinId byte
    ∷ RouteBill byte ∷ Enable byte ∷ []
requests_with (first ∷ second ∷ []) = SetMask (from_two first second) ∷ SetPath first second ∷ []
requests_with (low ∷ middle ∷ high ∷ count ∷ []) = Dispense (from_three low middle high) count ∷ []
requests_with (c1 ∷ c2 ∷ c3 ∷ c4 ∷ c5 ∷ c6 ∷ c7 ∷ c8 ∷ c9 ∷ []) = CipherDispense ∷ []
requests_with body = []

-- The requests that may have any data bytes.
abbrev pub open_requests : List Request
open_requests = PumpRng ∷ CipherKey ∷ []

-- The first of some requests that has a header, or none.
abbrev pub with_header : ℕ → List Request → Option Request
with_header header [] = None
with_header header (q ∷ qs) = if header == header_of q then Some q else with_header header qs

-- The request that a header and data bytes are: of those with just these data bytes, and of those
-- with any, the one that has this header; none where the header or the number of data bytes isn't
-- known.
unfoldable pub request_of : ℕ → List ℕ → Option Request
request_of header body = with_header header (open_requests ++ requests_with body)

-- The form of the reply that a request wants, where it wants one of header 0 in a message.
unfoldable pub form_of : Request → Option ReplyForm
form_of SimplePoll = Some form.Ack
form_of AddressPoll = None
form_of MakerId = Some form.Text
form_of Category = Some form.Text
form_of ProductCode = Some form.Text
form_of SerialNumber = Some form.Serial
form_of SoftwareRevision = Some form.Text
form_of BuildCode = Some form.Text
form_of CommsRevision = Some form.Revision
form_of ResetDevice = Some form.Ack
form_of (SetMask mask) = Some form.Ack
form_of GetMask = Some form.Mask
form_of (SetMaster value) = Some form.Ack
form_of GetMaster = Some form.Master
form_of ReadCredits = Some form.Credits
form_of (SetPath place path) = Some form.Ack
form_of (GetPath place) = Some form.Path
form_of (SetDefault path) = Some form.Ack
form_of GetDefault = Some form.Path
form_of (CoinId place) = Some form.CoinId
form_of AcceptCount = Some form.Accepts
form_of ReadBills = Some form.Credits
form_of (RouteBill way) = Some form.Ack
form_of (Enable code) = Some form.Ack
form_of (Dispense serial count) = Some form.Ack
form_of CipherDispense = None
form_of GetStatus = Some form.Status
form_of GetLife = Some form.Life
form_of StopNow = Some form.Remaining
form_of TestHopper = Some form.Register
form_of PumpRng = None
form_of CipherKey = None
