-- An order that is looked up in a journal.
use Rattle.std.specs.Prelude.{◌≡◌, ℕ, ◌-◌, List, Option, Some, Result, Ok, Err, reverse, slice_get}
use Rattle.cct_model.specs.lines.carry.Carry.{Carry}
use Rattle.cct_model.specs.lines.record.Record.{Record}
use Rattle.cct_journal.specs.Image.{HasFrom}
use Rattle.cct_journal.specs.Opening.{RefusesOpen}
use Rattle.cct_journal.specs.declared.refusal.OpenNo.{OpenNo}
use Rattle.cct_live_order.specs.Told.{order_in, told_after}
use Rattle.cct_live_order.specs.declared.told.OrderTold.{OrderTold}

-- What an image shows of the order of an id: what the records do that it has after those of its
-- carry; or why it isn't read.
abbrev pub Looks : List ℕ → ℕ → Result OrderTold OpenNo → Type 0
Looks image id (Ok told) =
    (base : ℕ) × (c : Carry) × (rest : List Record) × HasFrom image base c rest
    × (told ≡ order_in id (reverse rest))
Looks image id (Err why) = RefusesOpen why image

-- This is what all records that are held, oldest first, show of it.
abbrev pub IsKnownBy : (List Record → Type 0) → ℕ → OrderTold → Type 0
IsKnownBy holds id told = (rest : List Record) → holds rest → told ≡ order_in id (reverse rest)

-- And this is known after the record of an index, where the first one has the index of the base.
abbrev pub ReadsNext : (List Record → Type 0) → ℕ → ℕ → ℕ → OrderTold → OrderTold → Type 0
ReadsNext holds base index id before now =
    (r : Record) × ((rest : List Record) → holds rest → slice_get rest (index - base) ≡ Some r)
    × (now ≡ told_after id r before)
