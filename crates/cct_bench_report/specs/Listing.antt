-- What the listing of a journal is, and what of it was written.
use Rattle.std.specs.Prelude.{◌≡◌, ◌⊎◌, ℕ, suc, ◌-◌, List, [], ◌∷◌, ◌++◌, Some, Result, Ok, Err}
use Rattle.std.specs.Prelude.{slice_get}
use Rattle.cct_edge.specs.declared.fault.Failed.{Failed}
use Rattle.cct_model_lines.specs.declared.carry.Carry.{Carry}
use Rattle.cct_model_lines.specs.declared.record.Record.{Record}
use Rattle.cct_model_lines.specs.declared.entry.Entry.{Entry}
use Rattle.cct_model_lines.specs.declared.entry.Entry.TheVariants.{Listing, Total}
use Rattle.cct_journal.specs.Image.{HasFrom, IsAlien, IsBadAt}
use Rattle.cct_journal.specs.declared.refusal.OpenNo.TheVariants as opening
use Rattle.cct_bench_report.specs.Sums.{sums_in, sums_over}
use Rattle.cct_bench_report.specs.declared.sums.Sums.{Sums}
use Rattle.cct_bench_report.specs.declared.listing.ReportEnd.{ReportEnd}
use Rattle.cct_bench_report.specs.declared.listing.ReportEnd.TheVariants.{Done, Unwritten, Unread}

-- The lines of records, the oldest first, numbered upwards from this index.
abbrev pub listing_from : ℕ → List Record → List Entry
listing_from index [] = []
listing_from index (r ∷ records) = Listing index r ∷ listing_from (suc index) records

-- The line of sums.
abbrev pub total_in : Sums → Entry
total_in sums = Total sums.posted sums.lost sums.paid sums.unpaid sums.sold

-- The line of these sums with those over records.
abbrev pub total_over : Sums → List Record → Entry
total_over sums records = total_in (sums_over sums records)

-- The listing of records after so many others, over which the sums are these: the line of each, and
-- the line of the sums over all.
abbrev pub listed : ℕ → Sums → List Record → List Entry
listed index sums records = listing_from index records ++ total_over sums records ∷ []

-- An image has records after those of a carry.
pub record HasSome (image : List ℕ) : Type 0 where
  pub base : ℕ
  pub carry : Carry
  pub rest : List Record
  pub has : HasFrom image base carry rest

-- What was written of the listing of these records after those of a carry, of which there are so
-- many, by how it ended: the whole; up to a put that failed; or whole lines of the first records,
-- where the disk failed.
abbrev pub Lists : ReportEnd → ℕ → Carry → List Record →
    (List Entry → Result (Unit {0}) Failed → Type 0) → Type 0
Lists Done base carry rest writes = writes (listed base (sums_in carry) rest) (Ok tt)
Lists Unwritten base carry rest writes =
    (failed : Failed) × writes (listed base (sums_in carry) rest) (Err failed)
Lists (Unread opening.Disk) base carry rest writes =
    (first later : List Record) × (rest ≡ first ++ later) × writes (listing_from base first) (Ok tt)
Lists (Unread opening.Alien) base carry rest writes = ⊥
Lists (Unread (opening.BadRecord index)) base carry rest writes = ⊥

-- What was written of the listing of records that are reported by no image, by how it ended.
abbrev pub ListsSome : ReportEnd → (List Entry → Result (Unit {0}) Failed → Type 0) → Type 0
ListsSome Done writes =
    (base : ℕ) × (carry : Carry) × (read : List Record)
    × writes (listed base (sums_in carry) read) (Ok tt)
ListsSome Unwritten writes =
    (base : ℕ) × (carry : Carry) × (read : List Record) × (failed : Failed)
    × writes (listed base (sums_in carry) read) (Err failed)
ListsSome (Unread opening.Disk) writes =
    (base : ℕ) × (read : List Record) × writes (listing_from base read) (Ok tt)
ListsSome (Unread opening.Alien) writes = writes [] (Ok tt)
ListsSome (Unread (opening.BadRecord index)) writes =
    (base : ℕ) × (read : List Record) × writes (listing_from base read) (Ok tt)

-- What the image of a disk is to a listing, by how it ended: it has records, where any line was to
-- be written; else nothing was written, and it has no journal, or one with a record that is spelt
-- wrongly.
abbrev pub Finds : ReportEnd → List ℕ → Type 0 → Type 0
Finds Done image nothing = HasSome image
Finds Unwritten image nothing = HasSome image
Finds (Unread opening.Disk) image nothing = HasSome image ⊎ nothing
Finds (Unread opening.Alien) image nothing = IsAlien image × nothing
Finds (Unread (opening.BadRecord index)) image nothing = IsBadAt image index × nothing

-- A listing ended as the image decides.
pub record Decides (how : ReportEnd) (image : List ℕ) : Type 0 where
  pub done : (base : ℕ) (carry : Carry) (rest : List Record) → HasFrom image base carry rest → how
      ≡ Done
  pub alien : IsAlien image → how ≡ Unread opening.Alien
  pub bad : (index : ℕ) → IsBadAt image index → how ≡ Unread (opening.BadRecord index)

-- A record is that of an index, the first of which is the base, in each list of records that is
-- held.
abbrev pub IsAt : (List Record → Type 0) → ℕ → ℕ → Record → Type 0
IsAt holds base index entry =
    (rest : List Record) → holds rest → slice_get rest (index - base) ≡ Some entry

-- What came of reading the record of an index, adding it to the sums and writing its line, by the
-- answer.
abbrev pub ListsOne : (List Record → Type 0) → ℕ → ℕ → (Record → Type 0)
    → (List Entry → Result (Unit {0}) Failed → Type 0) → Type 0 → Result (Unit {0}) ReportEnd →
    Type 0
ListsOne holds base index adds writes nothing (Ok done) =
    (entry : Record) × IsAt holds base index entry × adds entry
    × writes (Listing index entry ∷ []) (Ok tt)
ListsOne holds base index adds writes nothing (Err Done) = ⊥
ListsOne holds base index adds writes nothing (Err Unwritten) =
    (entry : Record) × (failed : Failed) × IsAt holds base index entry
    × writes (Listing index entry ∷ []) (Err failed)
ListsOne holds base index adds writes nothing (Err (Unread opening.Disk)) = nothing
ListsOne holds base index adds writes nothing (Err (Unread opening.Alien)) = ⊥
ListsOne holds base index adds writes nothing (Err (Unread (opening.BadRecord told))) =
    nothing × ((rest : List Record) → holds rest → ⊥)
