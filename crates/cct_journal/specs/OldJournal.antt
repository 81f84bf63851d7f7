-- What contracts see of a journal of an older version.
use Rattle.std.specs.Prelude.{ℕ, List}
use Rattle.cct_model_lines.specs.declared.carry.Carry.{Carry}
use Rattle.cct_model_lines.specs.declared.record.Record.{Record}
use Rattle.cct_disk.specs.declared.disk.Disk.{Ghosts}
use Rattle.cct_journal.specs.OldStands.{OldCounts, OldReadsFrom, OldReadsUpTo, OldStands}
use Rattle.cct_journal.specs.declared.old_journal.OldJournal.{OldJournal}
use Rattle.cct_journal.specs.declared.old_place.OldPlace.{OldPlace}

-- The disk of a journal of an older version.
abbrev pub disk_of : {D : Type 0} {ghosts : Ghosts D} → OldJournal D ghosts → D
disk_of journal = journal.disk

-- Where it is on its disk.
abbrev pub place_of : {D : Type 0} {ghosts : Ghosts D} → OldJournal D ghosts → OldPlace
place_of journal = journal.at

-- How many records stood before its current half.
abbrev pub base_of : {D : Type 0} {ghosts : Ghosts D} → OldJournal D ghosts → ℕ
base_of journal = journal.at.place.base

-- The carry of these.
abbrev pub carry_before : {D : Type 0} {ghosts : Ghosts D} → OldJournal D ghosts → Carry
carry_before journal = journal.at.place.carry

-- How many records it has.
abbrev pub used_of : {D : Type 0} {ghosts : Ghosts D} → OldJournal D ghosts → ℕ
used_of journal = journal.at.place.used

-- It represents these records after those of its carry.
abbrev pub OldJournalStands : {D : Type 0} {ghosts : Ghosts D} → OldJournal D ghosts → List Record →
    Type 0
OldJournalStands {D} {ghosts} journal =
    OldStands ghosts.honest ghosts.seen ghosts.may_leave (disk_of journal) (place_of journal)

-- What a read gives of its disk has its half and as many open slots as it counts.
abbrev pub OldJournalCounts : {D : Type 0} {ghosts : Ghosts D} → OldJournal D ghosts → Type 0
OldJournalCounts {D} {ghosts} journal = OldCounts ghosts.seen (disk_of journal) (place_of journal)

-- What a read gives of its disk has, from the base up to an index, these records.
abbrev pub OldJournalReadsUpTo : {D : Type 0} {ghosts : Ghosts D} → OldJournal D ghosts → ℕ →
    List Record → Type 0
OldJournalReadsUpTo {D} {ghosts} journal =
    OldReadsUpTo ghosts.seen (disk_of journal) (place_of journal)

-- What a read gives of its disk has just these records after those of the carry.
abbrev pub OldJournalReadsFrom : {D : Type 0} {ghosts : Ghosts D} → OldJournal D ghosts →
    List Record → Type 0
OldJournalReadsFrom {D} {ghosts} journal =
    OldReadsFrom ghosts.seen (disk_of journal) (place_of journal)
