-- The forms in which replies are read back.
use Rattle.std.specs.Prelude.{◌≡◌, ◌<◌, ◌^◌, ℕ, length, Option, Some, None, ⊤}
use Rattle.cct_model_wire.specs.declared.request.Request.{Request}
use Rattle.cct_model_wire.specs.declared.request.Request.TheVariants.{Dispense}
use Rattle.cct_model_wire.specs.declared.request.ReplyForm.{ReplyForm}
use Rattle.cct_model_wire.specs.declared.request.ReplyForm.TheVariants as form
use Rattle.cct_model_wire.specs.Reply.{Reply, ack, nak, busy, credits, mask, master, path, coin_id}
use Rattle.cct_model_wire.specs.Reply.{status, life, remaining, register, text, serial, revision}
use Rattle.cct_model_wire.specs.Reply.{accepts}

-- The serial number of a dispense request fits its three bytes.
abbrev pub FitsItsBytes : Request → Type 0
FitsItsBytes q = (number count : ℕ) → q ≡ Dispense number count → number < 2 ^ 24

-- The form of a kind of reply: none for a refusal, and none for a device that is busy.
abbrev pub form_shown : Reply → Option ReplyForm
form_shown ack = Some form.Ack
form_shown nak = None
form_shown busy = None
form_shown (credits read) = Some form.Credits
form_shown (mask bits) = Some form.Mask
form_shown (master value) = Some form.Master
form_shown (path number) = Some form.Path
form_shown (coin_id characters) = Some form.CoinId
form_shown (status events left_to_pay paid unpaid) = Some form.Status
form_shown (life count) = Some form.Life
form_shown (remaining count) = Some form.Remaining
form_shown (register bits) = Some form.Register
form_shown (text bytes) = Some form.Text
form_shown (serial number) = Some form.Serial
form_shown (revision release major minor) = Some form.Revision
form_shown (accepts count) = Some form.Accepts

-- A reply has the parts that each value of the code has: five events with a counter, and six
-- characters of a coin.
abbrev pub IsWhole : Reply → Type 0
IsWhole (credits read) = length read.pairs ≡ 5
IsWhole (coin_id characters) = length characters ≡ 6
IsWhole y = ⊤
