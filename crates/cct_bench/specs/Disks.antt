-- The disk that a run is given, and what it leaves on it.
use Rattle.std.specs.Prelude.{◌≡◌, ℕ, Bool, false, Option, Some, None, List, [], reverse, ⊤}
use Rattle.cct_model.specs.terms.device.Setup.{Setup}
use Rattle.cct_model.specs.lines.record.Record.{Record}
use Rattle.cct_model.specs.lines.entry.Entry.{Entry}
use Rattle.cct_model.specs.Records.{records}
use Rattle.cct_disk.specs.declared.disk.Disk.{Ghosts}
use Rattle.cct_disk.specs.Disk.{IsTrusted}
use Rattle.cct_journal.specs.declared.journal.Journal.{Journal}
use Rattle.cct_journal.specs.declared.format.TheConstants.{MOST_RECORDS}
use Rattle.cct_journal.specs.Image.{IsBlank}
use Rattle.cct_journal.specs.Journal as journals
use Rattle.cct_host.specs.OnDisk.{KeepsRecords, LeavesRecords}
use Rattle.cct_world.specs.Restarts.{CutAt}
use Rattle.cct_bench.specs.declared.play.TheConstants.{JOURNAL_BYTES}

-- How many records a journal on a disk of that size takes.
abbrev pub most_records : ℕ
most_records = MOST_RECORDS

-- A disk of this size, whose reads give these bytes, is one that a journal is created on.
pub record IsReady (size : ℕ) (seen : Option (List ℕ)) : Type 0 where
  pub sized : size ≡ JOURNAL_BYTES
  pub blank : (image : List ℕ) → seen ≡ Some image → IsBlank image

module _ {D : Type 0} {g : Ghosts D} where
  -- A journal was just made: it has no record, no put of it failed, and its disk has the length of
  -- one; and on a trusted disk it is the book of no record, by any setup.
  pub record IsNewJournal (journal : Journal D g) : Type 0 where
    pub unused : journals.used_of journal ≡ 0
    pub whole : journals.has_failed journal ≡ false
    pub size : g.size (journals.disk_of journal) ≡ JOURNAL_BYTES
    pub stands : (setup : Setup) → IsTrusted g.honest g.seen (journals.disk_of journal)
        → KeepsRecords setup g.honest g.seen g.may_leave (journals.disk_of journal)
        (journals.place_of journal) []

-- What is known of the disk of a run. As it was handed in: how many bytes it has, which bytes a
-- read gives, where that is known, whether it is honest and shows them, and how often its power was
-- cut. As it comes back: that each image that a power cut may leave on it is the book of records,
-- the oldest first, or, where one was due, of these or of these and that one, by a setup; which
-- bytes a read then gives, where that is known; and how often its power was cut by then. And that
-- in between its power was cut for this time, and something holds of the choice of the cut and of
-- what a read gave right after it.
pub record Disks : Type 1 where
  pub size : ℕ
  pub seen : Option (List ℕ)
  pub trusted : Type 0
  pub cuts : ℕ
  pub leaves : Setup → Option Record → List Record → Type 0
  pub seen_after : Option (List ℕ)
  pub cuts_after : ℕ
  pub cut_at : ℕ → (ℕ → Option (List ℕ) → Type 0) → Type 0

-- of a kind of disk, of which what each shows is known
module _ {D : Type 0} (size : D → ℕ) (honest : D → Bool) (seen : D → Option (List ℕ))
    (may_leave : D → List ℕ → Type 0) (cuts : D → ℕ) (cut_to : D → ℕ → D → Type 0) where
  -- A run was given one disk, and gave back another.
  abbrev pub disks : D → D → Disks
  disks given back = record {
    size = size given;
    seen = seen given;
    trusted = IsTrusted honest seen given;
    cuts = cuts given;
    leaves = λ setup. LeavesRecords setup honest seen may_leave back;
    seen_after = seen back;
    cuts_after = cuts back;
    cut_at = CutAt size honest seen cuts cut_to given back;
  }

-- Where a disk is trusted, each image that a power cut may leave on it is the book of the past.
abbrev pub Books : {D : Type 0} → Setup → (D → Bool) → (D → Option (List ℕ)) →
    (D → List ℕ → Type 0) → D → List Entry
    → Type 0
Books setup honest seen may_leave disk past =
    IsTrusted honest seen disk → LeavesRecords setup honest seen may_leave disk None
    (reverse (records past))

-- Any past may be relied on, as where no disk is used yet.
abbrev pub Always : List Entry → Type 0
Always past = ⊤
