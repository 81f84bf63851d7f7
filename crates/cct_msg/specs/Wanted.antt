-- What the host makes of a message that may be the reply that it wants.
use Rattle.std.specs.Prelude.{◌≡◌, ◌==◌, ◌&&◌, ⊤, ℕ, [], length, if◌then◌else◌, Option, Some, None}
use Rattle.std.specs.Prelude.{IsTrue}
use Rattle.cct_model_wire.specs.declared.request.Reply as code
use Rattle.cct_model_wire.specs.declared.request.Reply.TheVariants as shown
use Rattle.cct_model_wire.specs.declared.request.ReplyForm.{ReplyForm}
use Rattle.cct_model_wire.specs.Message.{Message}
use Rattle.cct_model_wire.specs.Reply.{Reply}
use Rattle.cct_model_wire.specs.Exchange.{is_for_host, reply_from}
use Rattle.cct_msg.specs.declared.reply_reading.NotWanted.{NotWanted}
use Rattle.cct_msg.specs.declared.reply_reading.NotWanted.TheVariants.{Nak, Busy, Other}

-- A message is for the host, comes from an address or from nobody named, and is this header without
-- data.
abbrev pub IsBare : ℕ → ℕ → Message → Type 0
IsBare addr header m = IsTrue (is_for_host addr m) × (m.header ≡ header) × (m.body ≡ [])

-- What a message without data says by its header, where it is not the wanted reply: 5 refuses, and
-- 6 is busy.
abbrev pub said_by : ℕ → NotWanted
said_by header = if header == 5 then Nak else if header == 6 then Busy else Other

-- Why a message is not the wanted reply: it refuses or is busy where it is for the host, comes from
-- the asked address or from nobody named, and has no data; all else is another message.
abbrev pub why_unwanted : ℕ → Message → NotWanted
why_unwanted addr m = if is_for_host addr m && (length m.body == 0) then said_by m.header else Other

-- A reason, where there is no reply.
abbrev pub unless : Option Reply → NotWanted → Option NotWanted
unless (Some y) why = None
unless None why = Some why

-- The reason why a message is not the reply that the host wants, or none where it is.
abbrev pub reason_in : ReplyForm → ℕ → Message → Option NotWanted
reason_in form addr m = unless (reply_from form addr m) (why_unwanted addr m)

-- The bytes of a text lie at this place of memory.
abbrev pub TextLiesAt : ℕ × ℕ → code.Reply → Type 0
TextLiesAt place (shown.Text text) = text.ref_ptr ≡ place
TextLiesAt place y = ⊤
