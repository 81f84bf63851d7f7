-- What a report of the bench leaves: what it wrote, by its status, and what the disk was for it.
use Rattle.std.specs.Prelude.{◌≡◌, ◌≢◌, ◌⊎◌, ℕ, List, [], ◌∷◌, ◌++◌, Result, Ok, Err}
use Rattle.cct_edge.specs.declared.fault.Failed.{Failed}
use Rattle.cct_model.specs.lines.carry.Carry.{Carry}
use Rattle.cct_model.specs.lines.record.Record.{Record}
use Rattle.cct_model.specs.lines.entry.Entry.{Entry}
use Rattle.cct_model.specs.lines.entry.Entry.TheVariants as entry
use Rattle.cct_journal.specs.Image.{HasFrom, IsAlien, IsBadAt}
use Rattle.cct_journal.specs.declared.refusal.OpenNo.TheVariants as opening
use Rattle.cct_bench_report.specs.Listing.{listed, listing_from}
use Rattle.cct_bench_report.specs.Sums.{sums_in}
use Rattle.cct_bench_report.specs.declared.listing.ReportEnd.{ReportEnd}
use Rattle.cct_bench_report.specs.declared.listing.ReportEnd.TheVariants as listing
use Rattle.cct_bench.specs.declared.outcome.Status.{Status}
use Rattle.cct_bench.specs.declared.outcome.Status.TheVariants as status
use Rattle.cct_bench.specs.declared.play.TheConstants.{JOURNAL_BYTES}

-- What is known of a disk that a report reads: how many bytes it has; which records it has after
-- those of which carry, and how many those are; whether it has no journal; whether, with these
-- records listed, that of an index can't be read; and whether a call of it failed.
pub record Known : Type 1 where
  pub size : ℕ
  pub has : ℕ → Carry → List Record → Type 0
  pub alien : Type 0
  pub bad : List Record → ℕ → Type 0
  pub failed : Type 0

-- A disk of this size whose reads give this image. A record that can't be read is met before any is
-- listed.
abbrev pub image_known : ℕ → Type 0 → List ℕ → Known
image_known size failed image = record {
  size = size;
  has = HasFrom image;
  alien = IsAlien image;
  bad = λ first index. (first ≡ []) × IsBadAt image index;
  failed = failed;
}

-- A disk of this size whose reads give an image that has these records after those of this carry,
-- of which there are so many.
abbrev pub records_known : ℕ → Type 0 → ℕ → Carry → List Record → Known
records_known size failed base carry rest = record {
  size = size;
  has = λ many c found. (many ≡ base) × (c ≡ carry) × (found ≡ rest);
  alien = ⊥;
  bad = λ first index. ⊥;
  failed = failed;
}

-- A disk of which its size alone is known.
abbrev pub size_known : ℕ → Type 0 → Known
size_known size failed = record {
  size = size;
  has = λ base carry rest. Unit {0};
  alien = Unit {0};
  bad = λ first index. Unit {0};
  failed = failed;
}

-- of a report over a disk
module _ (disk : Known) where
  -- All lines of a report, by its status: the listing of the records; or a last line alone, where
  -- the size is another, where there is no journal, and where a record can't be read; or, where a
  -- call of the disk failed, the lines of the first records and a last line. Any other status is
  -- none of a report.
  abbrev pub ReportIs : Status → List Entry → Type 0
  ReportIs status.Done lines =
      (base : ℕ) × (carry : Carry) × (rest : List Record) × (disk.size ≡ JOURNAL_BYTES)
      × disk.has base carry rest
      × (lines ≡ listed base (sums_in carry) rest)
  ReportIs status.DiskFault lines =
      (disk.size ≡ JOURNAL_BYTES) × disk.failed
      × ((lines ≡ entry.DiskFault ∷ [])
      ⊎ ((base : ℕ) × (carry : Carry) × (first : List Record) × (later : List Record)
      × disk.has base carry (first ++ later)
      × (lines ≡ listing_from base first ++ entry.DiskFault ∷ [])))
  ReportIs status.DiskSize lines =
      (disk.size ≢ JOURNAL_BYTES) × (lines ≡ entry.DiskSize disk.size ∷ [])
  ReportIs status.JournalLost lines =
      (disk.size ≡ JOURNAL_BYTES)
      × ((disk.alien × (lines ≡ entry.JournalAlien ∷ []))
      ⊎ ((base : ℕ) × (first : List Record) × (index : ℕ) × disk.bad first index
      × (lines ≡ listing_from base first ++ entry.JournalBad index ∷ [])))
  ReportIs s lines = ⊥

  -- What a report wrote, by its status: all its lines; or, where the sink failed, up to a put that
  -- failed, those of a report of another status; or, where there was no memory, nothing.
  abbrev pub Reported : Status → (List Entry → Result (Unit {0}) Failed → Type 0) → Type 0
  Reported status.WriteFault writes =
      (s : Status) × (lines : List Entry) × (failed : Failed) × ReportIs s lines
      × writes lines (Err failed)
  Reported status.OutOfMemory writes = writes [] (Ok tt)
  Reported s writes = (lines : List Entry) × ReportIs s lines × writes lines (Ok tt)

-- A status is this one, or that there was no memory.
abbrev pub IsOrMemory : Status → Status → Type 0
IsOrMemory wanted s = (s ≡ wanted) ⊎ (s ≡ status.OutOfMemory)

-- A report over a disk of this size, whose reads give this image, ended as these two decide, but
-- for want of memory.
pub record IsDecided (size : ℕ) (image : List ℕ) (s : Status) : Type 0 where
  pub done : size ≡ JOURNAL_BYTES → (base : ℕ) (carry : Carry) (rest : List Record) →
      HasFrom image base carry rest
      → IsOrMemory status.Done s
  pub alien : size ≡ JOURNAL_BYTES → IsAlien image → IsOrMemory status.JournalLost s
  pub bad : size ≡ JOURNAL_BYTES → (index : ℕ) → IsBadAt image index →
      IsOrMemory status.JournalLost s
  pub other : size ≢ JOURNAL_BYTES → IsOrMemory status.DiskSize s

-- The last line of a report whose listing ended so, if it has one.
abbrev pub line_behind : ReportEnd → List Entry
line_behind (listing.Unread opening.Disk) = entry.DiskFault ∷ []
line_behind (listing.Unread opening.Alien) = entry.JournalAlien ∷ []
line_behind (listing.Unread (opening.BadRecord index)) = entry.JournalBad index ∷ []
line_behind how = []

-- The status of a report whose listing ended so, where its last line, if it has one, is written.
abbrev pub reported_by : ReportEnd → Status
reported_by listing.Done = status.Done
reported_by listing.Unwritten = status.WriteFault
reported_by (listing.Unread opening.Disk) = status.DiskFault
reported_by (listing.Unread opening.Alien) = status.JournalLost
reported_by (listing.Unread (opening.BadRecord index)) = status.JournalLost

-- A status of a report: none that comes of reading a script, of the words, or of want of memory.
pub record IsOfReport (s : Status) : Type 0 where
  pub read : s ≢ status.ReadFault
  pub words : s ≢ status.WordsRefused
  pub memory : s ≢ status.OutOfMemory
