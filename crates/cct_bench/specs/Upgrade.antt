-- What an upgrade of the bench leaves: what it took of its script, what it wrote, and what its disk
-- was, by its status.
use Rattle.std.specs.Prelude.{◌≡◌, ◌≢◌, ◌⊎◌, ℕ, ◌+◌, Bool, List, [], ◌∷◌, ◌++◌, length, Option}
use Rattle.std.specs.Prelude.{Some, None, Result, Ok, Err}
use Rattle.std.specs.Prelude.{IfErr, MatchResult}
use Rattle.cct_edge.specs.Faults.{Rose}
use Rattle.cct_edge.specs.declared.fault.Failed.{Failed}
use Rattle.cct_model.specs.terms.device.Setup.{Setup}
use Rattle.cct_model.specs.lines.carry.Carry.{Carry}
use Rattle.cct_model.specs.lines.record.Record.{Record}
use Rattle.cct_model.specs.lines.entry.Entry.{Entry}
use Rattle.cct_model.specs.lines.entry.Entry.TheVariants as entry
use Rattle.cct_model.specs.Script.{Refusal}
use Rattle.cct_model.specs.Carry.{carry_of, carry_over}
use Rattle.cct_disk.specs.Disk.{Holds, LeavesOnly, OnlyReads}
use Rattle.cct_journal.specs.OldImage.{HasOldFrom, OldStandsFor}
use Rattle.cct_journal.specs.OldStands.{IsTurned}
use Rattle.cct_host.specs.OnDisk.{LeavesRecords}
use Rattle.cct_host.specs.Upgrading.{CanUpgrade, Counts, IsBrought, OldFirstFollow, RefusesUpgrade}
use Rattle.cct_host.specs.Upgrading.{StandsBrought}
use Rattle.cct_host.specs.declared.refusal.UpgradeNo.{UpgradeNo}
use Rattle.cct_host.specs.declared.refusal.UpgradeNo.TheVariants as no
use Rattle.cct_script.specs.Source.{to_come}
use Rattle.cct_bench.specs.UpgradeScript.{IsUnfinished, upgrade_script}
use Rattle.cct_bench.specs.declared.outcome.Status.{Status}
use Rattle.cct_bench.specs.declared.outcome.Status.TheVariants as status
use Rattle.cct_bench.specs.declared.play.TheConstants.{JOURNAL_BYTES}

-- The line that shows an answer: how many records the journal has, or why it isn't brought forward.
abbrev pub told_entry : Result ℕ UpgradeNo → Entry
told_entry (Ok records) = entry.Upgraded records
told_entry (Err no.Disk) = entry.DiskFault
told_entry (Err no.Alien) = entry.JournalAlien
told_entry (Err no.Current) = entry.UpgradeCurrent
told_entry (Err (no.NoRoom used)) = entry.UpgradeRoom used
told_entry (Err (no.BadRecord index)) = entry.JournalBad index
told_entry (Err (no.EpochRuns addr)) = entry.UpgradeEpoch addr

-- And the status, where that line is written.
abbrev pub told_status : Result ℕ UpgradeNo → Status
told_status (Ok records) = status.Done
told_status (Err no.Disk) = status.DiskFault
told_status (Err no.Alien) = status.JournalLost
told_status (Err no.Current) = status.NotUpgraded
told_status (Err (no.NoRoom used)) = status.NotUpgraded
told_status (Err (no.BadRecord index)) = status.JournalLost
told_status (Err (no.EpochRuns addr)) = status.NotUpgraded

-- What an image is, by an answer for the devices of a setup, and that what can be brought forward
-- is refused only where the disk failed.
pub record ImageAnswers (setup : Setup) (image : List ℕ) (answer : Result ℕ UpgradeNo) : Type 0
  where
    pub tells : MatchResult answer (λ records. Counts setup image records)
        (λ why. RefusesUpgrade why setup image)
    pub never : (base : ℕ) (carry : Carry) (rest : List Record) →
        CanUpgrade setup image base carry rest
        → IfErr answer (λ why. why ≡ no.Disk)

-- The journal in an image can be brought forward for a setup; or nothing that an image may be
-- refuses that.
abbrev pub MayGoForward : Setup → List ℕ → Type 0
MayGoForward setup image =
    ((base : ℕ) × (carry : Carry) × (rest : List Record) × CanUpgrade setup image base carry rest)
    ⊎ ((why : UpgradeNo) → RefusesUpgrade why setup image → why ≡ no.Disk)

-- What is said of the disk that comes back, by an answer: a call of it failed, where the answer
-- shows so; and it was only read, where the journal is refused for another reason.
pub record ComesBack (failed only_read : Type 0) (answer : Result ℕ UpgradeNo) : Type 0 where
  pub cause : answer ≡ Err no.Disk → failed
  pub kept : IfErr answer (λ why. why ≢ no.Disk → only_read)

-- of a kind of disk, of which what each shows is known
module _ {D : Type 0} (honest : D → Bool) (seen : D → Option (List ℕ))
    (may_leave : D → List ℕ → Type 0)
    (moment : D → ℕ) (left_since : D → ℕ → List ℕ → Type 0) where
  -- Where an upgrade is given an honest disk that keeps just one image, that of a journal of an
  -- earlier version, each image that a power cut may leave at any moment is that of this journal
  -- with the same carry and records, or one of today with the carry of all of them. So it
  -- represents the same records as before. Where the journal can't be brought forward, there is no
  -- new image.
  pub record AtMoments (given back : D) (setup : Setup) : Type 0 where
    pub each : (image : List ℕ) (base : ℕ) (carry : Carry) (rest : List Record)
        → Holds honest seen may_leave given image → HasOldFrom image base carry rest
        → LeavesOnly moment left_since given back (IsBrought setup base carry rest)
    pub stands : (image : List ℕ) (records : List Record) → Holds honest seen may_leave given image
        → (stands : OldStandsFor (carry_of setup) image records) → OldFirstFollow setup stands
        → LeavesOnly moment left_since given back (StandsBrought setup records)
    pub alone : (image : List ℕ) → Holds honest seen may_leave given image
        → ((base : ℕ) (carry : Carry) (rest : List Record) →
        CanUpgrade setup image base carry rest → ⊥)
        → LeavesOnly moment left_since given back (λ c. c ≡ image)

  -- Once it is brought forward, there is just one image, one of today with the carry of all
  -- records, which represents them.
  pub record AtEnd (given back : D) (setup : Setup) : Type 0 where
    pub turned : (image : List ℕ) (base : ℕ) (carry : Carry) (rest : List Record)
        → Holds honest seen may_leave given image → HasOldFrom image base carry rest
        → IsTurned honest seen may_leave back (base + length rest) (carry_over setup carry rest)
    pub stands : (image : List ℕ) (records : List Record) → Holds honest seen may_leave given image
        → (stands : OldStandsFor (carry_of setup) image records) → OldFirstFollow setup stands
        → LeavesRecords setup honest seen may_leave back None records

-- What is known of the disk of an upgrade: how many bytes it has; that it comes back as it was
-- handed in, so that no call of it was made but for that number; what its image is by an answer;
-- that a call of it failed; that it was only read; and what a power cut may leave on it, at each
-- moment, and at the end where the journal was brought forward. The devices are those of a setup.
pub record OldDisk : Type 1 where
  pub size : ℕ
  pub untouched : Type 0
  pub answers : Setup → Result ℕ UpgradeNo → Type 0
  pub failed : Type 0
  pub only_read : Type 0
  pub moments : Setup → Type 0
  pub forward : Setup → Type 0

module _ {D : Type 0} (size : D → ℕ) (honest : D → Bool) (seen : D → Option (List ℕ))
    (may_leave : D → List ℕ → Type 0) (moment : D → ℕ) (left_since : D → ℕ → List ℕ → Type 0)
    (cuts faults : D → ℕ) where
  -- An upgrade was given one disk, and gave back another.
  abbrev pub old_disk : D → D → OldDisk
  old_disk given back = record {
    size = size given;
    untouched = back ≡ given;
    answers =
        λ setup answer. (image : List ℕ) → seen given ≡ Some image → ImageAnswers setup image answer;
    failed = Rose (faults given) (faults back);
    only_read = OnlyReads size honest seen may_leave moment left_since cuts given back;
    moments = AtMoments honest seen may_leave moment left_since given back;
    forward = AtEnd honest seen may_leave moment left_since given back;
  }

-- of an upgrade over a disk, with a script of these bytes, of which these were taken
module _ (disk : OldDisk) (source_failed : Type 0) (bytes taken : List ℕ) where
  -- The last line of an upgrade, which is all that it writes, and its cause: another size of the
  -- disk, before a byte of the script is taken; a line of the script that is refused, or a fault in
  -- reading it, before a call of the disk is made; or, where no line is refused, what the image is.
  abbrev pub UpgradeCloses : Status → Entry → Type 0
  UpgradeCloses status.DiskSize line =
      (disk.size ≢ JOURNAL_BYTES) × (line ≡ entry.DiskSize disk.size) × (taken ≡ [])
      × disk.untouched
  UpgradeCloses status.ScriptRefused line =
      (refusal : Refusal) × (disk.size ≡ JOURNAL_BYTES)
      × ((upgrade_script bytes).refused ≡ Some refusal)
      × (line ≡ entry.Line refusal.number refusal.why) × disk.untouched
  UpgradeCloses status.ReadFault line =
      (disk.size ≡ JOURNAL_BYTES) × IsUnfinished taken × (line ≡ entry.ReadFault) × source_failed
      × disk.untouched
  UpgradeCloses s line =
      (answer : Result ℕ UpgradeNo) × (disk.size ≡ JOURNAL_BYTES)
      × ((upgrade_script bytes).refused ≡ None)
      × disk.answers (upgrade_script bytes).setup answer
      × ComesBack disk.failed disk.only_read answer
      × (s ≡ told_status answer) × (line ≡ told_entry answer)

  -- What was written, by the status: that line; a front of it, where the sink failed; or nothing,
  -- where there was no memory, and then nothing was taken of the script and no call of the disk was
  -- made.
  abbrev pub UpgradeEnds : Status → (List Entry → Result (Unit {0}) Failed → Type 0) → Type 0
  UpgradeEnds status.WriteFault writes =
      (s : Status) × (line : Entry) × (failed : Failed) × UpgradeCloses s line
      × writes (line ∷ []) (Err failed)
  UpgradeEnds status.OutOfMemory writes = (taken ≡ []) × disk.untouched × writes [] (Ok tt)
  UpgradeEnds s writes = (line : Entry) × UpgradeCloses s line × writes (line ∷ []) (Ok tt)

-- An upgrade over a script of these bytes: what it took of them; how it ended and what it wrote;
-- and what a power cut may leave on its disk at each moment, and once it is done, by the setup of
-- the script. The bytes are those taken and those still to come; a source that shows none is taken
-- to have no more.
pub record Upgraded (disk : OldDisk) (source_failed : Type 0) (bytes : List ℕ) (s : Status)
    (left : Option (List ℕ))
    (writes : List Entry → Result (Unit {0}) Failed → Type 0) : Type 0 where
  pub taken : List ℕ
  pub took : bytes ≡ taken ++ to_come left
  pub ends : UpgradeEnds disk source_failed bytes taken s writes
  pub moments : disk.moments (upgrade_script bytes).setup
  pub forward : s ≡ status.Done → disk.forward (upgrade_script bytes).setup
