-- What a program in another language learns of a reply.
use Rattle.std.specs.Prelude.{◌≡◌, ℕ, ◌≤◌, List, [], ◌∷◌, flat_map, length, take, Option, Some}
use Rattle.std.specs.Prelude.{None, ⊤}
use Rattle.cct_model_wire.specs.Exchange.{after_echo, got}
use Rattle.cct_model_wire.specs.Message.{Message, message}
use Rattle.cct_frame.specs.Frame.{fault_in}
use Rattle.cct_frame.specs.declared.reading.FrameFault.{FrameFault}
use Rattle.cct_msg.specs.Wanted.{reason_in}
use Rattle.cct_msg.specs.declared.reply_reading.NotWanted.{NotWanted}
use Rattle.cct_c.specs.declared.codes.TheConstants.{OK, BAD_CHECK, BAD_ECHO, BAD_FORM, SILENCE}
use Rattle.cct_c.specs.Codes.{answer_to, reason_code}
use Rattle.cct_model_wire.specs.Reply.{Reply, pair_bytes, ack, nak, busy, credits, mask, master}
use Rattle.cct_model_wire.specs.Reply.{path, coin_id, status, life, remaining, register, text}
use Rattle.cct_model_wire.specs.Reply.{serial, revision, accepts}
use Rattle.cct_model_wire.specs.declared.request.ReplyForm.{ReplyForm}
use Rattle.cct_model_wire.specs.declared.wire.CheckKind.{CheckKind}
use Rattle.cct_c.specs.declared.replies.LhReply.{LhReply}
use Rattle.cct_c.specs.declared.replies.TheConstants.{MOST_TEXT}

-- The reply in a form that the host got from an address after what it sent, or none where there is
-- no such check or form.
abbrev pub got_by : Option CheckKind → ℕ → Option ReplyForm → List ℕ → List ℕ → Option Reply
got_by None addr form sent heard = None
got_by (Some kind) addr None sent heard = None
got_by (Some kind) addr (Some form) sent heard = got kind addr form sent heard

-- What a call answers to a message that is the wanted reply, or isn't for this reason.
abbrev pub reason_answer : Option NotWanted → ℕ
reason_answer None = OK
reason_answer (Some why) = reason_code why

-- What a call answers to bytes after an echo that are this message, or else have this fault first.
abbrev pub piece_answer : ReplyForm → ℕ → Option Message → Option FrameFault → ℕ
piece_answer form addr (Some m) fault = reason_answer (reason_in form addr m)
piece_answer form addr None fault = answer_to fault

-- What a call answers to what follows the echo, or to a damaged echo.
abbrev pub rest_answer : CheckKind → ReplyForm → ℕ → Option (List ℕ) → ℕ
rest_answer kind form addr None = BAD_ECHO
rest_answer kind form addr (Some []) = SILENCE
rest_answer kind form addr (Some (byte ∷ rest)) =
    piece_answer form addr (message kind (byte ∷ rest)) (fault_in kind (byte ∷ rest))

-- What a call answers that reads a reply in a form out of what was heard after what was sent.
abbrev pub reply_answer : Option CheckKind → Option ReplyForm → ℕ → List ℕ → List ℕ → ℕ
reply_answer None form addr sent heard = BAD_CHECK
reply_answer (Some kind) None addr sent heard = BAD_FORM
reply_answer (Some kind) (Some form) addr sent heard =
    rest_answer kind form addr (after_echo sent heard)

-- The fields of the program's struct that belong to the reply show it. A refusal is reported by the
-- answer of the call alone.
abbrev pub Tells : Reply → LhReply → Type 0
Tells ack told = ⊤
Tells nak told = ⊤
Tells busy told = ⊤
Tells (credits c) told = (told.counter ≡ c.counter) × (told.events ≡ flat_map pair_bytes c.pairs)
Tells (mask bits) told = told.mask ≡ bits
Tells (master value) told = told.value ≡ value
Tells (path number) told = told.value ≡ number
Tells (coin_id id) told = told.id ≡ id
Tells (status events left paid unpaid) told =
    (told.counter ≡ events) × (told.remaining ≡ left) × (told.paid ≡ paid) × (told.unpaid ≡ unpaid)
Tells (life count) told = told.number ≡ count
Tells (remaining count) told = told.value ≡ count
Tells (register bits) told = told.value ≡ bits
Tells (text bytes) told = length bytes ≤ MOST_TEXT → take told.count told.text ≡ bytes
Tells (serial number) told = told.number ≡ number
Tells (revision release major minor) told =
    (told.release ≡ release) × (told.major ≡ major) × (told.minor ≡ minor)
Tells (accepts count) told = told.number ≡ count
