-- That a hopper has shown that nothing is left to pay since an order was opened.
use Rattle.std.specs.Prelude.{◌==◌, ◌||◌, Bool, false, List, [], ◌∷◌, Option, Some}
use Rattle.cct_model.specs.terms.request.Request.{Request}
use Rattle.cct_model.specs.terms.request.Request.TheVariants.{GetStatus}
use Rattle.cct_model.specs.lines.record.Record.{Record}
use Rattle.cct_model.specs.lines.record.Record.TheVariants as record_of
use Rattle.cct_model.specs.Reply.{Reply}
use Rattle.cct_model.specs.Reply as reply
use Rattle.cct_model.specs.Line.{Line, exchange, put}

-- The hopper answered that nothing is left to pay: an answered header 166 with no coin remaining.
abbrev pub shows_none : Option Request → Option Reply → Bool
shows_none (Some GetStatus) (Some (reply.status events left_to_pay paid unpaid)) = left_to_pay == 0
shows_none asked got = false

-- What was shown is after a record, but for one that opens an order.
abbrev pub paid_out_by : Record → Bool → Bool
paid_out_by (record_of.Opened id addr count life) before = false
paid_out_by r before = before

-- Whether the hopper has answered that nothing is left to pay, and no order was opened since.
abbrev pub is_paid_out : List Line → Bool
is_paid_out [] = false
is_paid_out (put entry ∷ past) = paid_out_by entry (is_paid_out past)
is_paid_out (exchange asked got ∷ past) = shows_none asked got || is_paid_out past
is_paid_out (line ∷ past) = is_paid_out past
