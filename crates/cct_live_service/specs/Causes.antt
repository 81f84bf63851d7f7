-- Why a service ends, and what goes on whatever it does.
use Rattle.std.specs.Prelude.{◌≡◌, ◌≢◌, ◌⊎◌, ℕ, Bool, true, false, List, Option, Some, Result, Ok}
use Rattle.std.specs.Prelude.{Err, ⊤}
use Rattle.cct_edge.specs.Faults.{Caused}
use Rattle.cct_model.specs.terms.device.Setup.{Setup}
use Rattle.cct_model.specs.lines.carry.Carry.{Carry}
use Rattle.cct_model.specs.lines.record.Record.{Record}
use Rattle.cct_disk.specs.Disk.{GoesOn, Holds, LeavesOnly, OnlyReads}
use Rattle.cct_disk.specs.declared.disk.Disk.{Ghosts}
use Rattle.cct_disk.specs.declared.file.TheConstants.{MADE_LEN}
use Rattle.cct_journal.specs.Creating.{IsCreated, RefusesCreate}
use Rattle.cct_journal.specs.Image.{IsAlien, IsBadAt, IsBlank, IsFirstByteFrom}
use Rattle.cct_journal.specs.Opening.{Finds}
use Rattle.cct_journal.specs.Stands.{Settled}
use Rattle.cct_journal.specs.declared.refusal.CreateNo.{CreateNo}
use Rattle.cct_journal.specs.declared.refusal.CreateNo.TheVariants as making
use Rattle.cct_journal.specs.declared.journal.Journal.{Journal}
use Rattle.cct_journal.specs.Journal as journals
use Rattle.cct_host.specs.OnDisk.{FindsBad}
use Rattle.cct_live_service.specs.declared.served.Served.{Served}
use Rattle.cct_live_service.specs.declared.served.Served.TheVariants as served
use Rattle.cct_live_service.specs.Ending.{IsOfDisk}

-- A disk goes on showing its bytes or not, no power was cut, and its count of faults never falls;
-- and if a call of it failed so, that count rose, or it is at its last value.
pub record DiskServes {D : Type 0} (size : D → ℕ) (honest : D → Bool) (seen : D → Option (List ℕ))
    (cuts faults : D → ℕ)
    (old new : D) (Fails : Type 0) : Type 0 where
  pub goes_on : GoesOn size honest seen cuts old new
  pub cause : Caused (faults old) (faults new) Fails

-- A service ended since the input couldn't be read.
abbrev pub IsUnread : Served → Type 0
IsUnread served.Unread = ⊤
IsUnread how = ⊥

-- A service ended since a line couldn't be written.
abbrev pub IsUnwritten : Served → Type 0
IsUnwritten served.Unwritten = ⊤
IsUnwritten how = ⊥

-- A service ended since a call of the disk failed.
abbrev pub IsDiskFault : Served → Type 0
IsDiskFault served.Disk = ⊤
IsDiskFault how = ⊥

-- An answer is such an end.
abbrev pub EndsBy : {T : Type 0} → (Served → Type 0) → Result T Served → Type 0
EndsBy Is (Ok done) = ⊥
EndsBy Is (Err how) = Is how

-- An image is no journal, and isn't blank.
pub record IsForeign (image : List ℕ) : Type 0 where
  pub alien : IsAlien image
  pub at : ℕ
  pub first : IsFirstByteFrom 0 image at

-- An image has a record of this index that can't be read; or that doesn't follow those before it by
-- the setup, or whose carry doesn't fit it.
abbrev pub IsBadBy : Setup → List ℕ → ℕ → Type 0
IsBadBy setup image index = IsBadAt image index ⊎ ((many : ℕ) × FindsBad setup image many index)

-- of a kind of disk, and of one as it was given and as it came back
module _ {D : Type 0} (size : D → ℕ) (honest : D → Bool) (seen : D → Option (List ℕ))
    (may_leave : D → List ℕ → Type 0)
    (moment : D → ℕ) (left_since : D → ℕ → List ℕ → Type 0) (cuts : D → ℕ) (given back : D) where
  -- What the disk is for a service that ends so: of another length, or of the right one with what
  -- is no journal, or with a bad record. Then it was only read.
  abbrev pub SuitsDisk : Setup → Served → Type 0
  SuitsDisk setup (served.OtherSize len) =
      (size given ≢ MADE_LEN) × (len ≡ size given)
      × OnlyReads size honest seen may_leave moment left_since cuts given back
  SuitsDisk setup served.Alien =
      (size given ≡ MADE_LEN) × ((image : List ℕ) → seen given ≡ Some image → IsForeign image)
      × OnlyReads size honest seen may_leave moment left_since cuts given back
  SuitsDisk setup (served.BadRecord index) =
      (size given ≡ MADE_LEN) × ((image : List ℕ) → seen given ≡ Some image →
      IsBadBy setup image index)
      × OnlyReads size honest seen may_leave moment left_since cuts given back
  SuitsDisk setup how = ⊤

-- of a kind of disk that counts its faults
module _ {D : Type 0} (size : D → ℕ) (honest : D → Bool) (seen : D → Option (List ℕ))
    (may_leave : D → List ℕ → Type 0)
    (moment : D → ℕ) (left_since : D → ℕ → List ℕ → Type 0) (cuts faults : D → ℕ) (given back : D)
  where
    -- No host is started over a disk, which then is of this kind.
    pub record Refuses (setup : Setup) (how : Served) : Type 0 where
      pub of_disk : IsOfDisk how
      pub suits : SuitsDisk size honest seen may_leave moment left_since cuts given back setup how
      pub other : size given ≢ MADE_LEN → how ≡ served.OtherSize (size given)
      pub serves : DiskServes size honest seen cuts faults given back (IsDiskFault how)

    -- No journal is made on a disk: it is too short for one, or isn't blank, and was only read; or a
    -- call of it failed.
    pub record RefusesMaking (why : CreateNo) : Type 0 where
      pub reason : RefusesCreate (size given) (seen given) why
      pub reads : why ≢ making.Disk → OnlyReads size honest seen may_leave moment left_since cuts
          given back
      pub serves : DiskServes size honest seen cuts faults given back (why ≡ making.Disk)

module _ {D : Type 0} {g : Ghosts D} where
  -- A journal is on a disk, which was only read, and has just what the disk keeps; or it was made
  -- there, where no byte but 0 was, and has no record. Then each power cut might have left what
  -- stood there, no journal, or this one.
  abbrev pub WasOpened : D → Journal D g → Bool → Type 0
  WasOpened disk journal true =
      Finds g.seen disk (journals.disk_of journal) (journals.place_of journal)
      × OnlyReads g.size g.honest g.seen g.may_leave g.moment g.left_since g.cuts disk
      (journals.disk_of journal)
      × ((of : List Record → Carry) (rs : List Record) →
      Settled of g.honest g.seen g.may_leave disk rs
      → journals.JournalStands of journal rs)
  WasOpened disk journal false =
      (journals.used_of journal ≡ 0) × ((image : List ℕ) → g.seen disk ≡ Some image → IsBlank image)
      × ((image : List ℕ) → Holds g.honest g.seen g.may_leave disk image
      → LeavesOnly g.moment g.left_since disk (journals.disk_of journal) (IsCreated image))
