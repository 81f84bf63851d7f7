-- Replies as header and data bytes (ccTalk Generic Specification 4, parts 2 and 3).
use Rattle.std.specs.Prelude.{ℕ, ◌/◌, ◌%◌, ◌<◌, ◌≤◌, ◌^◌, List, [], ◌∷◌, length, flat_map, Option}
use Rattle.std.specs.Prelude.{Some, None, ⊤}
use Rattle.cct_model_wire.specs.declared.coin.Pair.{Pair}
use Rattle.cct_model_wire.specs.declared.coin.Credits.{Credits}
use Rattle.cct_model_wire.specs.declared.request.Reply as code
use Rattle.cct_model_wire.specs.declared.request.Reply.TheVariants as shown
use Rattle.cct_model_wire.specs.declared.request.ReplyForm.{ReplyForm}
use Rattle.cct_model_wire.specs.declared.request.ReplyForm.TheVariants as form
use Rattle.cct_model_wire.specs.Request.{from_two, from_three, three_bytes}

-- A reply by its values, as the code has it; a text is the bytes that it has.
pub data Reply : Type 0 where
  ack : Reply
  nak : Reply
  busy : Reply
  credits : (read : Credits) → Reply
  mask : (bits : ℕ) → Reply
  master : (value : ℕ) → Reply
  path : (number : ℕ) → Reply
  coin_id : (characters : List ℕ) → Reply
  status : (events left_to_pay paid unpaid : ℕ) → Reply
  life : (count : ℕ) → Reply
  remaining : (count : ℕ) → Reply
  register : (bits : ℕ) → Reply
  text : (bytes : List ℕ) → Reply
  serial : (number : ℕ) → Reply
  revision : (release major minor : ℕ) → Reply
  accepts : (count : ℕ) → Reply

-- The values of a reply of the code.
abbrev pub reply_shown : code.Reply → Reply
reply_shown shown.Ack = ack
reply_shown shown.Nak = nak
reply_shown shown.Busy = busy
reply_shown (shown.Credits c) = credits c
reply_shown (shown.Mask bits) = mask bits
reply_shown (shown.Master value) = master value
reply_shown (shown.Path number) = path number
reply_shown (shown.CoinId id) = coin_id id
reply_shown (shown.Status events left paid unpaid) = status events left paid unpaid
reply_shown (shown.Life count) = life count
reply_shown (shown.Remaining count) = remaining count
reply_shown (shown.Register bits) = register bits
reply_shown (shown.Text view) = text view.now
reply_shown (shown.Serial number) = serial number
reply_shown (shown.Revision release major minor) = revision release major minor
reply_shown (shown.Accepts count) = accepts count

-- The header of a reply: 5 refuses, 6 is busy, and 0 is any other.
abbrev pub reply_header : Reply → ℕ
reply_header nak = 5
reply_header busy = 6
reply_header y = 0

-- The two bytes of an event.
abbrev pub pair_bytes : Pair → List ℕ
pair_bytes pair = pair.a ∷ pair.b ∷ []

-- The data bytes of a reply.
unfoldable pub reply_data : Reply → List ℕ
reply_data ack = []
reply_data nak = []
reply_data busy = []
reply_data (credits c) = c.counter ∷ flat_map pair_bytes c.pairs
reply_data (mask bits) = bits % 256 ∷ bits / 256 ∷ []
reply_data (master value) = value ∷ []
reply_data (path number) = number ∷ []
reply_data (coin_id characters) = characters
reply_data (status events left paid unpaid) = events ∷ left ∷ paid ∷ unpaid ∷ []
reply_data (life count) = three_bytes count
reply_data (remaining count) = count ∷ []
reply_data (register bits) = bits ∷ []
reply_data (text bytes) = bytes
reply_data (serial number) = three_bytes number
reply_data (revision release major minor) = release ∷ major ∷ minor ∷ []
reply_data (accepts count) = three_bytes count

-- The data bytes can say a reply: a text has at most 255 bytes, and a number of three bytes is
-- below 2 ^ 24.
abbrev pub IsSayable : Reply → Type 0
IsSayable (text bytes) = length bytes ≤ 255
IsSayable (serial number) = number < 2 ^ 24
IsSayable (life count) = count < 2 ^ 24
IsSayable (accepts count) = count < 2 ^ 24
IsSayable y = ⊤

-- No data byte, read as a reply.
abbrev pub none_in : Reply → List ℕ → Option Reply
none_in y [] = Some y
none_in y body = None

-- One data byte, read as a reply.
abbrev pub one_in : (ℕ → Reply) → List ℕ → Option Reply
one_in make (byte ∷ []) = Some (make byte)
one_in make body = None

-- Two data bytes, read as a reply.
abbrev pub two_in : (ℕ → ℕ → Reply) → List ℕ → Option Reply
two_in make (first ∷ second ∷ []) = Some (make first second)
two_in make body = None

-- Three data bytes, read as a reply.
abbrev pub three_in : (ℕ → ℕ → ℕ → Reply) → List ℕ → Option Reply
three_in make (first ∷ second ∷ third ∷ []) = Some (make first second third)
three_in make body = None

-- Four data bytes, read as the state of a payout.
abbrev pub status_in : List ℕ → Option Reply
status_in (events ∷ left ∷ paid ∷ unpaid ∷ []) = Some (status events left paid unpaid)
status_in body = None

-- Six data bytes, read as the identification of a coin.
abbrev pub coin_id_in : List ℕ → Option Reply
coin_id_in (c1 ∷ c2 ∷ c3 ∷ c4 ∷ c5 ∷ c6 ∷ []) = Some (coin_id (c1 ∷ c2 ∷ c3 ∷ c4 ∷ c5 ∷ c6 ∷ []))
coin_id_in body = None

-- Eleven data bytes, read as a counter and five events.
abbrev pub credits_in : List ℕ → Option Reply
credits_in (n ∷ a1 ∷ b1 ∷ a2 ∷ b2 ∷ a3 ∷ b3 ∷ a4 ∷ b4 ∷ a5 ∷ b5 ∷ []) =
    Some (credits (record {
      counter = n;
      pairs =
          record { a = a1; b = b1 } ∷ record { a = a2; b = b2 } ∷ record { a = a3; b = b3 }
          ∷ record { a = a4; b = b4 } ∷ record { a = a5; b = b5 } ∷ [];
    }))
credits_in body = None

-- The data bytes of a reply with header 0, read in the form that is wanted, or none where their
-- number is wrong.
unfoldable pub reply_in : ReplyForm → List ℕ → Option Reply
reply_in form.Ack body = none_in ack body
reply_in form.Credits body = credits_in body
reply_in form.Mask body = two_in (λ low high. mask (from_two low high)) body
reply_in form.Master body = one_in master body
reply_in form.Path body = one_in path body
reply_in form.CoinId body = coin_id_in body
reply_in form.Status body = status_in body
reply_in form.Life body = three_in (λ low middle high. life (from_three low middle high)) body
reply_in form.Remaining body = one_in remaining body
reply_in form.Register body = one_in register body
reply_in form.Text body = Some (text body)
reply_in form.Serial body = three_in (λ low middle high. serial (from_three low middle high)) body
reply_in form.Revision body = three_in revision body
reply_in form.Accepts body = three_in (λ low middle high. accepts (from_three low middle high)) body
