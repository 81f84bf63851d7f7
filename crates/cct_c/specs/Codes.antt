-- What the numbers of the C interface mean: which check and which form a code names, and what a
-- call answers.
use Rattle.std.specs.Prelude.{ℕ, ◌==◌, List, [], ◌∷◌, if◌then◌else◌, Option, Some, None}
use Rattle.cct_model_wire.specs.declared.request.ReplyForm.{ReplyForm}
use Rattle.cct_model_wire.specs.declared.request.ReplyForm.TheVariants as form
use Rattle.cct_model_wire.specs.declared.wire.CheckKind.{CheckKind}
use Rattle.cct_model_wire.specs.declared.wire.CheckKind.TheVariants.{Simple, Crc}
use Rattle.cct_frame.specs.Frame.{fault_in}
use Rattle.cct_frame.specs.declared.reading.FrameFault.{FrameFault}
use Rattle.cct_frame.specs.declared.reading.FrameFault.TheVariants.{Short, Length, Check, CrcCheck}
use Rattle.cct_msg.specs.declared.reply_reading.NotWanted.{NotWanted}
use Rattle.cct_msg.specs.declared.reply_reading.NotWanted.TheVariants as why
use Rattle.cct_c.specs.declared.codes.TheConstants.{OK, BAD_CHECK, SHORT, BAD_LENGTH, DAMAGED, NAK}
use Rattle.cct_c.specs.declared.codes.TheConstants.{BUSY, OTHER}

-- The check that a code names: 0 the simple one, 1 the CRC.
abbrev pub kind_of : ℕ → Option CheckKind
kind_of code = if code == 0 then Some Simple else if code == 1 then Some Crc else None

-- The forms of replies, in the order of their codes, which begin at 0.
abbrev pub forms : List ReplyForm
forms =
    form.Ack ∷ form.Credits ∷ form.Mask ∷ form.Master ∷ form.Path ∷ form.CoinId ∷ form.Status
    ∷ form.Life ∷ form.Remaining ∷ form.Register ∷ form.Text ∷ form.Serial ∷ form.Revision
    ∷ form.Accepts ∷ []

-- What a call answers to a piece with a fault.
abbrev pub fault_code : FrameFault → ℕ
fault_code (Short have) = SHORT
fault_code (Length said have) = BAD_LENGTH
fault_code (Check want got) = DAMAGED
fault_code (CrcCheck want got) = DAMAGED

-- What a call answers to a piece with this fault, or with none.
abbrev pub answer_to : Option FrameFault → ℕ
answer_to None = OK
answer_to (Some fault) = fault_code fault

-- What a call answers that reads a piece under a check.
abbrev pub read_under : Option CheckKind → List ℕ → ℕ
read_under None piece = BAD_CHECK
read_under (Some kind) piece = answer_to (fault_in kind piece)

-- What a call answers to a message that isn't the wanted reply.
abbrev pub reason_code : NotWanted → ℕ
reason_code why.Nak = NAK
reason_code why.Busy = BUSY
reason_code why.Other = OTHER
