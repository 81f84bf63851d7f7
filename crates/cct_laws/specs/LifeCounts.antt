-- That the life counts of hoppers fit their orders: no record and no end says that they don't.
use Rattle.std.specs.Prelude.{List, ⊤}
use Rattle.cct_model.specs.lines.record.Record.{Record}
use Rattle.cct_model.specs.lines.record.Record.TheVariants as record_of
use Rattle.cct_model.specs.lines.entry.End.TheVariants.{OddLife}
use Rattle.cct_model.specs.lines.entry.Entry.{Entry}
use Rattle.cct_model.specs.lines.entry.Entry.TheVariants as entry

-- A record closes no order whose life counts don't fit it.
abbrev pub HasFittingLife : Record → Type 0
HasFittingLife (record_of.Odd id life_before life_after) = ⊥
HasFittingLife r = ⊤

-- An entry puts and keeps no such record, and ends no job by one.
abbrev pub FitsLife : List Entry → Entry → Type 0
FitsLife past (entry.Put r) = HasFittingLife r
FitsLife past (entry.Kept r) = HasFittingLife r
FitsLife past (entry.Ended addr OddLife) = ⊥
FitsLife past e = ⊤
