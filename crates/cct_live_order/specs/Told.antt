-- What the records of a journal show of an order.
use Rattle.std.specs.Prelude.{ℕ, ◌==◌, if◌then◌else◌, List, [], ◌∷◌}
use Rattle.cct_model.specs.lines.record.Record.{Record}
use Rattle.cct_model.specs.lines.record.Record.TheVariants as record_of
use Rattle.cct_model.specs.Order.{life_between}
use Rattle.cct_live_order.specs.declared.told.OrderTold.{OrderTold}
use Rattle.cct_live_order.specs.declared.told.OrderTold.TheVariants as order

-- What is known of the order of an id after a record, where this was known before: one that opens
-- it, or closes it, says so. Where the life counts don't fit the order, they say how many coins
-- were paid.
abbrev pub told_after : ℕ → Record → OrderTold → OrderTold
told_after id (record_of.Opened opened addr count life) told =
    if opened == id then order.Open addr count else told
told_after id (record_of.Closed closed paid unpaid) told =
    if closed == id then order.Closed paid unpaid else told
told_after id (record_of.Odd closed life_before life_after) told =
    if closed == id then order.Odd (life_between life_before life_after) else told
told_after id r told = told

-- What is known of it by records, newest first.
abbrev pub order_in : ℕ → List Record → OrderTold
order_in id [] = order.Unknown
order_in id (r ∷ before) = told_after id r (order_in id before)
