-- What one entry shows of a payment.
use Rattle.std.specs.Prelude.{ℕ, ◌==◌, Bool, false, if◌then◌else◌}
use Rattle.cct_model.specs.lines.record.Record.{Record}
use Rattle.cct_model.specs.lines.record.Record.TheVariants as record_of
use Rattle.cct_model.specs.lines.entry.Entry.{Entry}
use Rattle.cct_model.specs.lines.entry.Entry.TheVariants as entry
use Rattle.cct_model.specs.declared.change.Payment.{Payment}
use Rattle.cct_model.specs.declared.change.Phase.{Phase}
use Rattle.cct_model.specs.declared.change.Phase.TheVariants.{Closed, Odd}
use Rattle.cct_model.specs.Change.{is_opening}

-- An entry shows a record that opens the order of a payment.
abbrev pub opens : Payment → Entry → Bool
opens p (entry.Put r) = is_opening p r
opens p (entry.Kept r) = is_opening p r
opens p e = false

-- What a record shows of an open order, or what was known before.
abbrev pub closed_by : ℕ → Record → Phase → Phase
closed_by id (record_of.Closed closed paid unpaid) before =
    if closed == id then Closed paid unpaid else before
closed_by id (record_of.Odd closed opened now) before = if closed == id then Odd else before
closed_by id r before = before

-- The same of an entry.
abbrev pub closed_told : ℕ → Entry → Phase → Phase
closed_told id (entry.Put r) before = closed_by id r before
closed_told id (entry.Kept r) before = closed_by id r before
closed_told id e before = before
