-- The line of each notice, and that of a message that wasn't written (docs/LIVE.md).
use Rattle.std.specs.Prelude.{ℕ, List, [], ◌∷◌, ◌++◌, Option, Some, None, codes}
use Rattle.hex.specs.Hex.{encode_lower}
use Rattle.cct_model.specs.lines.command.Command.{Command}
use Rattle.cct_model.specs.lines.command.Command.TheVariants as command
use Rattle.cct_model.specs.declared.judging.EpochState.{EpochState}
use Rattle.cct_model.specs.declared.judging.EpochState.TheVariants.{Idle, Running}
use Rattle.cct_model.specs.declared.judging.OpenOrder.{OpenOrder}
use Rattle.cct_model.specs.Shape.{shape_of}
use Rattle.cct_model.specs.Text.{hyphen, mask_field, number_text}
use Rattle.cct_live_survey.specs.declared.withholding.Withheld.{Withheld}
use Rattle.cct_live_survey.specs.declared.withholding.Withheld.TheVariants.{OtherCoin, OtherSerial}
use Rattle.cct_live_service.specs.declared.notice.Notice.{Notice}
use Rattle.cct_live_service.specs.declared.notice.Notice.TheVariants as notice
use Rattle.cct_live_order.specs.declared.told.OrderTold.{OrderTold}
use Rattle.cct_live_order.specs.declared.told.OrderTold.TheVariants as order

-- A number as the next field of a line.
abbrev pub number_field : ℕ → List ℕ
number_field n = 32 ∷ number_text n

-- The word of the command whose job it is, or a hyphen.
abbrev pub job_word : Option Command → List ℕ
job_word None = hyphen
job_word (Some c) = (shape_of c).word

-- The same as the next field of a line.
abbrev pub job_field : Option Command → List ℕ
job_field job = 32 ∷ job_word job

-- An inhibit mask as the next field.
abbrev pub mask_after : ℕ → List ℕ
mask_after mask = 32 ∷ mask_field mask

-- The inhibit mask of an epoch that runs as the next field, or a hyphen.
abbrev pub epoch_field : EpochState → List ℕ
epoch_field Idle = 32 ∷ hyphen
epoch_field (Running mask counter accepts) = mask_after mask

-- The id of an open order as the next field, or a hyphen.
abbrev pub open_order_field : Option OpenOrder → List ℕ
open_order_field None = 32 ∷ hyphen
open_order_field (Some owed) = number_field owed.id

-- What is known of an order as the next fields.
abbrev pub order_fields : OrderTold → List ℕ
order_fields (order.Open addr count) = codes " open" ++ number_field addr ++ number_field count
order_fields (order.Closed paid unpaid) = codes " closed" ++ number_field paid ++ number_field unpaid
order_fields (order.Odd paid) = codes " odd" ++ number_field paid
order_fields order.Unknown = codes " unknown"
order_fields order.Unread = codes " unread"

-- A command that may be withheld as the next fields.
abbrev pub command_fields : Command → List ℕ
command_fields (command.Pay addr id count) = codes " pay" ++ number_field addr ++ number_field id ++ number_field count
command_fields (command.Start addr mask) = codes " start" ++ number_field addr ++ mask_after mask
command_fields c = []

-- Why a command is withheld, as the last field.
abbrev pub why_field : Withheld → List ℕ
why_field OtherSerial = codes " otherserial"
why_field OtherCoin = codes " othercoin"

-- A command that is withheld, and why, as the next fields.
abbrev pub withheld_fields : Command → Withheld → List ℕ
withheld_fields c why = command_fields c ++ why_field why

-- What a notice reports, without a line feed.
unfoldable pub notice_text : Notice → List ℕ
notice_text notice.Made = codes "made 0 0 0"
notice_text (notice.Found records orders epochs) =
    codes "found" ++ number_field records ++ number_field orders ++ number_field epochs
notice_text (notice.Device addr job epoch order) =
    codes "device" ++ number_field addr ++ job_field job ++ epoch_field epoch ++ open_order_field order
notice_text (notice.Held addr place) = codes "held" ++ number_field addr ++ number_field place
notice_text (notice.Last id) = codes "last" ++ number_field id
notice_text (notice.Room records) = codes "room" ++ number_field records
notice_text (notice.Order id told) = codes "order" ++ number_field id ++ order_fields told
notice_text (notice.Withheld c why) = codes "no" ++ withheld_fields c why
notice_text notice.StateUnread = codes "state unread"
notice_text notice.LineFault = codes "linefault"
notice_text notice.LineBack = codes "lineback"

-- The line of a notice.
abbrev pub notice_line : Notice → List ℕ
notice_line n = notice_text n ++ 10 ∷ []

-- The text that reports a message that wasn't written, without a line feed.
abbrev pub unsent_text : ℕ → List ℕ → List ℕ
unsent_text addr sent = codes "unsent" ++ number_field addr ++ (32 ∷ encode_lower sent)

-- The line of it.
abbrev pub unsent_line : ℕ → List ℕ → List ℕ
unsent_line addr sent = unsent_text addr sent ++ 10 ∷ []
