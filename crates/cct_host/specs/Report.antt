-- A report whose last entry gives way to the first one that is reported next.
use Rattle.std.specs.Prelude.{Bool, true, false, List, [], ◌∷◌}
use Rattle.cct_model.specs.lines.entry.Entry.{Entry}
use Rattle.cct_model.specs.lines.entry.Entry.TheVariants as entry

-- What stays of such a report: its entries but the last.
abbrev pub kept : List Entry → List Entry
kept [] = []
kept (last ∷ []) = []
kept (e ∷ next ∷ es) = e ∷ kept (next ∷ es)

-- The entry is one of an exchange.
abbrev pub is_exchange : Entry → Bool
is_exchange (entry.Wire addr sent heard) = true
is_exchange e = false
