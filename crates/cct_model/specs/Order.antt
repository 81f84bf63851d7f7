-- The open order of a hopper, read off the lines of its address; what a payment's lines show, and
-- how an order is closed.
use Rattle.std.specs.Prelude.{ℕ, ◌+◌, ◌-◌, ◌%◌, ◌^◌, nat_le, Bool, true, false, List, [], ◌∷◌}
use Rattle.std.specs.Prelude.{if◌then◌else◌, Option, Some, None}
use Rattle.std.specs.Option.{option_or}
use Rattle.cct_model.specs.terms.request.Request.{Request}
use Rattle.cct_model.specs.terms.request.Request.TheVariants.{GetLife, StopNow}
use Rattle.cct_model.specs.lines.record.Record.{Record}
use Rattle.cct_model.specs.lines.record.Record.TheVariants as record_of
use Rattle.cct_model.specs.Effect.{OrderMove, effect}
use Rattle.cct_model.specs.Effect as move
use Rattle.cct_model.specs.declared.judging.OpenOrder.{OpenOrder}
use Rattle.cct_model.specs.Reply.{Reply}
use Rattle.cct_model.specs.Reply as reply
use Rattle.cct_model.specs.Line.{Line, exchange, put, taken}

-- The open order after a record: one is opened, or the open one is closed, with counts of life that
-- fit it or not.
abbrev pub order_by : Record → Option OpenOrder → Option OpenOrder
order_by r before = order_after (effect r).order before
  where
    order_after : OrderMove → Option OpenOrder → Option OpenOrder
    order_after move.none_moved before = before
    order_after (move.newly_opened id addr count life) before =
        Some (record { id = id; addr = addr; count = count; life = life })
    order_after closed before = None

-- The open order of a hopper, or none.
abbrev pub order : List Line → Option OpenOrder
order [] = None
order (put entry ∷ past) = order_by entry (order past)
order (line ∷ past) = order past

-- The life count that a reply is, or none.
abbrev pub life_reply : Option Reply → Option ℕ
life_reply (Some (reply.life count)) = Some count
life_reply got = None

-- The life count that a line read, or none where it is no answered header 168.
abbrev pub life_line : Line → Option ℕ
life_line (exchange (Some GetLife) got) = life_reply got
life_line line = None

-- The life count that was last read.
abbrev pub life_read : List Line → Option ℕ
life_read [] = None
life_read (line ∷ past) = option_or (life_line line) (life_read past)

-- The hopper answered how many coins it stopped: an answered header 172.
abbrev pub is_stopped : Option Request → Option Reply → Bool
is_stopped (Some StopNow) (Some got) = true
is_stopped asked got = false

-- A payment is to be stopped: it was halted, and the hopper has not been stopped since. The only
-- command that is a line of a job is a halt.
abbrev pub is_marked : List Line → Bool
is_marked [] = false
is_marked (taken c ∷ since) = true
is_marked (exchange asked got ∷ since) = if is_stopped asked got then false else is_marked since
is_marked (line ∷ since) = is_marked since

-- How many coins fell between two life counts, which go from 2 ^ 24 - 1 to 0.
unfoldable pub life_between : ℕ → ℕ → ℕ
life_between before after = (after + 2 ^ 24 - before) % 2 ^ 24

-- The record that closes an order whose hopper then has this life count: the coins that fell were
-- paid, and the others were not; where more fell than were ordered, both life counts are recorded.
unfoldable pub close : OpenOrder → ℕ → Record
close o after =
    let paid = life_between o.life after in
    if nat_le paid o.count then record_of.Closed o.id paid (o.count - paid) else record_of.Odd o.id
    o.life after
