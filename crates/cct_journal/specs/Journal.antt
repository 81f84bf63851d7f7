-- What contracts see of a journal.
use Rattle.std.specs.Prelude.{ℕ, ◌-◌, Bool, List, Option, Result, Ok, Err}
use Rattle.cct_model_lines.specs.declared.record.Record.{Record}
use Rattle.cct_disk.specs.declared.disk.Disk.{Ghosts}
use Rattle.cct_model_lines.specs.declared.carry.Carry.{Carry}
use Rattle.cct_journal.specs.Stands.{Reads, ReadsFrom, Stands, StandsBefore, StandsWith}
use Rattle.cct_journal.specs.declared.journal.Journal.{Journal}
use Rattle.cct_journal.specs.declared.place.Place.{Place}

-- The disk of a journal.
abbrev pub disk_of : {D : Type 0} {ghosts : Ghosts D} → Journal D ghosts → D
disk_of journal = journal.disk

-- Where a journal is on its disk.
abbrev pub place_of : {D : Type 0} {ghosts : Ghosts D} → Journal D ghosts → Place
place_of journal = journal.place

-- How many records stood before the current half.
abbrev pub base_of : {D : Type 0} {ghosts : Ghosts D} → Journal D ghosts → ℕ
base_of journal = journal.place.base

-- The carry of these.
abbrev pub carry_before : {D : Type 0} {ghosts : Ghosts D} → Journal D ghosts → Carry
carry_before journal = journal.place.carry

-- How many records a journal has.
abbrev pub used_of : {D : Type 0} {ghosts : Ghosts D} → Journal D ghosts → ℕ
used_of journal = journal.place.used

-- How many records its current half has.
abbrev pub kept_of : {D : Type 0} {ghosts : Ghosts D} → Journal D ghosts → ℕ
kept_of journal = journal.place.used - journal.place.base

-- A put of this journal failed.
abbrev pub has_failed : {D : Type 0} {ghosts : Ghosts D} → Journal D ghosts → Bool
has_failed journal = journal.failed

-- A journal represents records, where the carry of records is this one.
abbrev pub JournalStands : {D : Type 0} {ghosts : Ghosts D} → (List Record → Carry) →
    Journal D ghosts → List Record → Type 0
JournalStands {D} {ghosts} carry_of journal =
    Stands carry_of ghosts.honest ghosts.seen ghosts.may_leave (disk_of journal) (place_of journal)

-- A journal represents records, and this is their carry.
abbrev pub JournalStandsWith : {D : Type 0} {ghosts : Ghosts D} → (List Record → Carry) →
    Journal D ghosts → Carry
    → List Record → Type 0
JournalStandsWith {D} {ghosts} carry_of journal =
    StandsWith carry_of ghosts.honest ghosts.seen ghosts.may_leave (disk_of journal)
    (place_of journal)

-- A journal represents records, and where a record is to be put after them, this is their carry.
abbrev pub JournalStandsBefore : {D : Type 0} {ghosts : Ghosts D} → (List Record → Carry) →
    Journal D ghosts → Carry
    → Option Record → List Record → Type 0
JournalStandsBefore {D} {ghosts} carry_of journal =
    StandsBefore carry_of ghosts.honest ghosts.seen ghosts.may_leave (disk_of journal)
    (place_of journal)

-- What a read gives of its disk represents records, whatever a power cut may leave.
abbrev pub JournalReads : {D : Type 0} {ghosts : Ghosts D} → (List Record → Carry) →
    Journal D ghosts → List Record → Type 0
JournalReads {D} {ghosts} carry_of journal =
    Reads carry_of ghosts.seen (disk_of journal) (place_of journal)

-- What a read gives of its disk has just these records after those of the carry, whatever a power
-- cut may leave.
abbrev pub JournalReadsFrom : {D : Type 0} {ghosts : Ghosts D} → Journal D ghosts → List Record →
    Type 0
JournalReadsFrom {D} {ghosts} journal = ReadsFrom ghosts.seen (disk_of journal) (place_of journal)

-- The disk that a call gives back, whatever it answers.
abbrev pub disk_back : {D E : Type 0} → Result D (D × E) → D
disk_back (Ok disk) = disk
disk_back (Err refused) = refused.0
