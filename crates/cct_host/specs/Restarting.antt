-- A host that starts again after a power cut.
use Rattle.std.specs.Prelude.{◌≡◌, ◌≢◌, ◌⊎◌, ℕ, ◌+◌, ◌<◌, ◌≤◌, List, [], ◌∷◌, ◌++◌, false, length}
use Rattle.std.specs.Prelude.{reverse, Option, Some, None, ⊤}
use Rattle.std.specs.Option.{IfSome}
use Rattle.cct_model.specs.terms.device.Setup.{Setup}
use Rattle.cct_model.specs.lines.command.CrashAt.{CrashAt}
use Rattle.cct_model.specs.lines.record.Record.{Record}
use Rattle.cct_model.specs.lines.entry.Entry.{Entry}
use Rattle.cct_model.specs.lines.entry.Entry.TheVariants as entry
use Rattle.cct_model.specs.lines.carry.Carry.{Carry}
use Rattle.cct_model.specs.Carry.{carry_of}
use Rattle.cct_edge.specs.Faults.{Caused}
use Rattle.cct_model.specs.Legal.{EntriesOfRestart}
use Rattle.cct_model.specs.Records as model_records
use Rattle.cct_disk.specs.declared.disk.Disk.{Ghosts}
use Rattle.cct_disk.specs.Disk.{IsTrusted}
use Rattle.cct_journal.specs.declared.journal.Journal.{Journal}
use Rattle.cct_journal.specs.Image.{IsAlien, IsBadAt}
use Rattle.cct_journal.specs.Journal as journals
use Rattle.cct_disk.specs.Disk.{Outlasts}
use Rattle.cct_journal.specs.Stands.{CutOnce}
use Rattle.cct_laws.specs.Restart.{RestartSuits, due_in}
use Rattle.cct_host.specs.declared.desks.Desks.{Desks}
use Rattle.cct_host.specs.declared.host.Host.{Host}
use Rattle.cct_host.specs.declared.refusal.CrashNo.{CrashNo}
use Rattle.cct_host.specs.declared.refusal.CrashNo.TheVariants.{Disk, Alien, BadRecord, Lost}
use Rattle.cct_host.specs.declared.restart.Crashed.{Crashed}
use Rattle.cct_host.specs.OnDisk.{FindsBad, FindsMany, FindsWhole, KeepsRecords, LeavesRecords}
use Rattle.cct_host.specs.OnDisk.{ReadsRecords, ReadsRest}
use Rattle.cct_host.specs.Desks as all_desks
use Rattle.cct_host.specs.Host.{StandsFor, disk_of, has_failed, journal_of, put_by, setup_of}
use Rattle.cct_host.specs.Starting.{FirstFollow, HasReplayed, HasResumed}

-- The record that is due where a power cut comes, if one is.
abbrev pub due_for : Desks → Option CrashAt → Option Record
due_for desks None = None
due_for desks (Some at) = all_desks.due_on desks at.addr

-- What may be kept of a put, after so many of its four disk calls, of the record that is due, if
-- one is: nothing before all of them are made, and the record once its gate is written.
abbrev pub KeptBy : ℕ → Option Record → Option Record → Type 0
KeptBy calls due None = (due ≡ None) ⊎ (calls < 4)
KeptBy calls due (Some r) = (due ≡ Some r) × (2 < calls)

-- So many records are found where so many were put: neither these, nor these and the one that was
-- due.
pub record IsLost (due : Option Record) (found put : ℕ) : Type 0 where
  pub others : found ≢ put
  pub unkept : (due ≡ None) ⊎ (found ≢ put + 1)

-- So many records are found where so many were put: these, or these and the one that was due, which
-- was kept.
pub record HasAll (due : Option Record) (found put : ℕ) : Type 0 where
  pub kept : Option Record
  pub kept_is : IfSome kept (λ r. due ≡ Some r)
  pub count : found ≡ put + length (put_by kept)

-- What a power cut left, as entries, newest first: the record that was kept of a put, if one was,
-- after how many records there are.
abbrev pub told_by : ℕ → Option Record → List Entry
told_by many None = entry.Crash many ∷ []
told_by many (Some r) = entry.Kept r ∷ entry.Crash many ∷ []

-- What a power cut left, as a host shows it, in entries, newest first.
abbrev pub restart_news : Crashed → List Entry
restart_news crashed = told_by crashed.records crashed.kept

module _ {D : Type 0} {g : Ghosts D} where
  -- What a read of this journal gives has as many records as it counts, where its disk shows
  -- anything.
  abbrev pub Opens : Setup → Journal D g → Type 0
  Opens setup journal =
      (image : List ℕ) → g.seen (journals.disk_of journal) ≡ Some image
      → FindsMany setup image (journals.used_of journal)

  -- Why a host with the first journal isn't started again, where the second one is left: by what a
  -- read of its disk gives, and by how many records there are and were.
  abbrev pub RefusesRestart : Journal D g → Journal D g → Option Record → Setup → CrashNo → Type 0
  RefusesRestart old new due setup Disk = ⊤
  RefusesRestart old new due setup Alien =
      (image : List ℕ) → g.seen (journals.disk_of new) ≡ Some image → IsAlien image
  RefusesRestart old new due setup (BadRecord index) =
      (image : List ℕ) → g.seen (journals.disk_of new) ≡ Some image
      → IsBadAt image index
      ⊎ (HasAll due (journals.used_of new) (journals.used_of old)
      × FindsBad setup image (journals.used_of new) index)
  RefusesRestart old new due setup (Lost found put) =
      (found ≡ journals.used_of new) × (put ≡ journals.used_of old) × IsLost due found put
      × Opens setup new

  -- The same where only the disk of the journal is given back.
  abbrev pub RefusesWith : Journal D g → Option Record → Setup → D → CrashNo → Type 0
  RefusesWith old due setup disk why =
      (new : Journal D g) × (journals.disk_of new ≡ disk) × RefusesRestart old new due setup why

  -- A journal is restarted after a power cut, by this choice, which came after so many of the four
  -- disk calls of a put, where this record was due, if one was, and this was the carry of those
  -- before it: that was kept of it, or nothing.
  pub record JournalRestarts (calls : ℕ) (due : Option Record) (so_far : Carry) (choice : ℕ)
      (old new : Journal D g)
      (kept : Option Record) : Type 0 where
    -- what it has
    pub whole : journals.has_failed new ≡ false
    pub kept_is : IfSome kept (λ r. due ≡ Some r)
    pub counts : journals.used_of new ≡ journals.used_of old + length (put_by kept)
    pub found : (image : List ℕ) → g.seen (journals.disk_of new) ≡ Some image
        → (rest : List Record) × ReadsRest g.seen (journals.disk_of new) (journals.place_of new)
        rest
    pub stands : (setup : Setup) (records : List Record)
        → KeepsRecords setup g.honest g.seen g.may_leave (journals.disk_of old)
        (journals.place_of old) records
        → so_far ≡ carry_of setup records
        → KeptBy calls due kept
        × KeepsRecords setup g.honest g.seen g.may_leave (journals.disk_of new)
        (journals.place_of new)
        (records ++ put_by kept)
    -- the disk
    pub cut : CutOnce g.size g.honest g.seen g.cuts g.cut_to choice (journals.disk_of old)
        (journals.disk_of new)
    pub outlasts : Outlasts g.size g.honest g.seen g.cuts (journals.disk_of old)
        (journals.disk_of new)
    pub later : g.faults (journals.disk_of old) ≤ g.faults (journals.disk_of new)

  -- No host starts over a journal after such a power cut, for this reason.
  pub record JournalFails (setup : Setup) (due : Option Record) (so_far : Carry) (choice : ℕ)
      (old new : Journal D g)
      (why : CrashNo) : Type 0 where
    -- why, and what the disk may then keep
    pub refused : RefusesRestart old new due setup why
    pub leaves : (records : List Record)
        → KeepsRecords setup g.honest g.seen g.may_leave (journals.disk_of old)
        (journals.place_of old) records
        → so_far ≡ carry_of setup records
        → LeavesRecords setup g.honest g.seen g.may_leave (journals.disk_of new) due records
    pub cause : Caused (g.faults (journals.disk_of old)) (g.faults (journals.disk_of new))
        (why ≡ Disk)
    -- the disk
    pub cut : why ≢ Disk
        → CutOnce g.size g.honest g.seen g.cuts g.cut_to choice (journals.disk_of old)
        (journals.disk_of new)
    pub outlasts : Outlasts g.size g.honest g.seen g.cuts (journals.disk_of old)
        (journals.disk_of new)

  -- The record that is due at a host where a power cut comes, if one is.
  abbrev pub due_of : Host D g → Option CrashAt → Option Record
  due_of host at = due_for host.desks at

  -- A power cut is reported by its entries after whatever happened, where the disk is trusted and
  -- the records follow one another, and the host that starts again represents these.
  abbrev pub TellsRestart : Host D g → Host D g → Option CrashAt → Crashed → Type 0
  TellsRestart old new at crashed =
      (past : List Entry) → StandsFor old past → RestartSuits (setup_of old) past at →
      IsTrusted g.honest g.seen (disk_of old)
      → EntriesOfRestart (setup_of old) past at (restart_news crashed)
      × StandsFor new (restart_news crashed ++ past)

  -- A host starts again after a power cut, by this choice, over what its disk then keeps.
  pub record Restarts (old : Host D g) (at : Option CrashAt) (choice : ℕ) (new : Host D g)
      (crashed : Crashed) : Type 0 where
    pub setup : setup_of new ≡ setup_of old
    pub whole : has_failed new ≡ false
    -- what it reports, and what it then represents: On a trusted disk, after any past whose records
    -- follow one another: the entries are those of the definitions, with the record that was kept,
    -- if one was. No job is left, and nothing that only jobs reserved.
    pub tells : TellsRestart old new at crashed
    -- On any disk that shows its bytes, honest or not, what a read gives has some records after the
    -- carry of the new journal's place, and the host is the one that starts over that carry and
    -- these: the carry fits the setup, and each of them follows.
    pub found : (image : List ℕ) → g.seen (disk_of new) ≡ Some image
        → (rest : List Record) × ReadsRest g.seen (disk_of new) (journals.place_of (journal_of new))
        rest
    pub has_whole : (image : List ℕ) → g.seen (disk_of new) ≡ Some image
        → FindsWhole (setup_of new) image (journals.used_of (journal_of new))
    pub resumes : (rest : List Record) → ReadsRest g.seen (disk_of new)
        (journals.place_of (journal_of new)) rest
        → HasResumed new (journals.base_of (journal_of new))
        (journals.carry_before (journal_of new)) rest
    -- And where the first ones of the records follow one another, it is the one that starts over
    -- all of them.
    pub replays : (records : List Record)
        → (reads : ReadsRecords (setup_of new) g.seen (disk_of new)
        (journals.place_of (journal_of new)) records)
        → FirstFollow (setup_of new) reads → HasReplayed new (reverse records)
    pub records : crashed.records ≡ journals.used_of (journal_of new)
    -- As many records as before, or one more if one was due.
    pub counts : crashed.records ≡ journals.used_of (journal_of old) + length (put_by crashed.kept)
    pub kept : IfSome crashed.kept (λ r. due_of old at ≡ Some r)
    pub due : (past : List Entry) → StandsFor old past → due_of old at
        ≡ due_in (setup_of old) past at
    -- the disk:
    -- Exactly one cut, by the choice given: the disk went on up to it, and was only read after it.
    pub cut : CutOnce g.size g.honest g.seen g.cuts g.cut_to choice (disk_of old) (disk_of new)
    pub outlasts : Outlasts g.size g.honest g.seen g.cuts (disk_of old) (disk_of new)
    pub later : g.faults (disk_of old) ≤ g.faults (disk_of new)

  -- A host doesn't start again after a power cut, for this reason, and this disk is left.
  pub record RestartFails (old : Host D g) (at : Option CrashAt) (choice : ℕ) (left : D)
      (why : CrashNo) : Type 0 where
    -- why, and what the disk may then keep: The first of these: the disk failed; no journal is
    -- there; a body after an open gate spells no record; the records are neither as many as were
    -- put nor one more where one was due; the carry doesn't fit the setup; one of the records after
    -- it doesn't follow.
    pub refused : RefusesWith (journal_of old) (due_of old at) (setup_of old) left why
    -- Over a trusted disk, if the records of the past follow one another, only the disk can have
    -- failed.
    pub never : (past : List Entry) → StandsFor old past → RestartSuits (setup_of old) past at
        → IsTrusted g.honest g.seen (disk_of old) → why ≡ Disk
    pub leaves : (past : List Entry) → StandsFor old past → IsTrusted g.honest g.seen (disk_of old)
        → LeavesRecords (setup_of old) g.honest g.seen g.may_leave left
        (due_in (setup_of old) past at)
        (reverse (model_records.records past))
    pub due : (past : List Entry) → StandsFor old past → due_of old at
        ≡ due_in (setup_of old) past at
    pub cause : Caused (g.faults (disk_of old)) (g.faults left) (why ≡ Disk)
    -- the disk
    pub cut : why ≢ Disk → CutOnce g.size g.honest g.seen g.cuts g.cut_to choice (disk_of old) left
    pub outlasts : Outlasts g.size g.honest g.seen g.cuts (disk_of old) left
