-- A journal of an older version is brought forward, with the carry of all its records.
use Rattle.std.specs.Prelude.{◌≡◌, ◌⊎◌, ℕ, ◌+◌, ◌≤◌, Bool, true, false, List, [], length, take}
use Rattle.std.specs.Prelude.{reverse, Some, Result, Ok, Err, ⊤}
use Rattle.std.specs.Prelude.{slice_get}
use Rattle.cct_model.specs.terms.device.Setup.{Setup}
use Rattle.cct_model.specs.lines.carry.Carry.{Carry}
use Rattle.cct_model.specs.lines.record.Record.{Record}
use Rattle.cct_model.specs.Carry.{Fits, all_follow_carry, carry_of, carry_over, epoch_held}
use Rattle.cct_model.specs.Carry.{follows_carry}
use Rattle.cct_model.specs.Following.{all_follow}
use Rattle.cct_record.specs.OldBody.{IsRefusedOld, OldSpells}
use Rattle.cct_disk.specs.declared.disk.Disk.{Ghosts}
use Rattle.cct_journal.specs.Image.{HasFrom, StandsFor}
use Rattle.cct_journal.specs.Journal as journals
use Rattle.cct_journal.specs.OldImage.{AreSpelt, HasOldFrom, IsOldHeaded, OldStandsFor, old_bodies}
use Rattle.cct_journal.specs.OldStands.{HasFreeHalf, RefusesOld}
use Rattle.cct_journal.specs.declared.journal.Journal.{Journal}
use Rattle.cct_journal.specs.declared.old_place.OldVersion.{OldVersion}
use Rattle.cct_journal.specs.declared.refusal.OldNo.{OldNo}
use Rattle.cct_journal.specs.declared.refusal.OldNo.TheVariants as opening
use Rattle.cct_journal.specs.declared.refusal.ReadNo.{ReadNo}
use Rattle.cct_journal.specs.declared.refusal.ReadNo.TheVariants as reading
use Rattle.cct_jobs.specs.Jobs.{IsRunning}
use Rattle.cct_host.specs.declared.refusal.UpgradeNo.{UpgradeNo}
use Rattle.cct_host.specs.declared.refusal.UpgradeNo.TheVariants.{Disk, Alien, Current, NoRoom}
use Rattle.cct_host.specs.declared.refusal.UpgradeNo.TheVariants.{BadRecord, EpochRuns}

-- An image has, as a journal of an older version whose second half is free for a turn, so many
-- records, of which this is the carry, and these bodies of records after them.
pub record HasOldBodies (image : List ℕ) (base : ℕ) (carry : Carry) (bodies : List (List ℕ)) : Type
    0 where
  pub version : OldVersion
  pub second : Bool
  pub generation : ℕ
  pub headed : IsOldHeaded image version second generation base carry
  pub bodies_are : bodies ≡ old_bodies version image second base
  pub free : HasFreeHalf version (length image) (base + length bodies)

-- A body can't be read as one of an older version, or the record that it spells doesn't follow
-- those of a carry.
abbrev pub IsBadAfter : Setup → Carry → List ℕ → Type 0
IsBadAfter setup c body =
    IsRefusedOld body ⊎ ((r : Record) × OldSpells r body × (follows_carry setup c r ≡ false))

-- The body of this index is the first of these bodies that is bad after a carry of so many records
-- and the records that the bodies before it spell.
pub record IsFirstBadBody (setup : Setup) (base : ℕ) (carry : Carry) (bodies : List (List ℕ))
    (index : ℕ) : Type 0 where
  pub first : List Record
  pub body : List ℕ
  pub many : index ≡ base + length first
  pub spelt : AreSpelt first (take (length first) bodies)
  pub follow : all_follow_carry setup carry first ≡ true
  pub there : slice_get bodies (length first) ≡ Some body
  pub bad : IsBadAfter setup (carry_over setup carry first) body

-- The index of the first bad record: that of the first one after a carry that doesn't fit the
-- setup, or else that of the first bad body.
abbrev pub IsBadFrom : Setup → ℕ → Carry → List (List ℕ) → ℕ → Type 0
IsBadFrom setup base carry bodies index =
    ((Fits setup carry → ⊥) × (index ≡ base))
    ⊎ (Fits setup carry × IsFirstBadBody setup base carry bodies index)

-- A journal of an older version in an image has a bad record of this index.
pub record HasBadRecord (setup : Setup) (image : List ℕ) (index : ℕ) : Type 0 where
  pub base : ℕ
  pub carry : Carry
  pub bodies : List (List ℕ)
  pub has : HasOldBodies image base carry bodies
  pub bad : IsBadFrom setup base carry bodies index

-- The same with these records: they are spelt by its bodies.
pub record HasOldRecords (image : List ℕ) (base : ℕ) (carry : Carry) (rest : List Record) : Type 0
  where
    pub bodies : List (List ℕ)
    pub has : HasOldBodies image base carry bodies
    pub spelt : AreSpelt rest bodies

-- Records follow a carry that fits a setup.
pub record AreCarried (setup : Setup) (carry : Carry) (rest : List Record) : Type 0 where
  pub fits : Fits setup carry
  pub follow : all_follow_carry setup carry rest ≡ true

-- An epoch runs at an address by a carry.
abbrev pub RunsAt : Carry → ℕ → Type 0
RunsAt c addr = IsRunning (epoch_held addr c)

-- No epoch runs by a carry.
abbrev pub NoneRuns : Carry → Type 0
NoneRuns c = (addr : ℕ) → RunsAt c addr → ⊥

-- This is the least address at which an epoch runs by a carry.
pub record IsLeastRunning (c : Carry) (addr : ℕ) : Type 0 where
  pub runs : RunsAt c addr
  pub least : (other : ℕ) → RunsAt c other → addr ≤ other

-- Records follow a carry that fits a setup, and after them no epoch runs.
pub record CanTurn (setup : Setup) (carry : Carry) (rest : List Record) : Type 0 where
  pub carried : AreCarried setup carry rest
  pub idle : NoneRuns (carry_over setup carry rest)

-- Records follow a carry that fits a setup, and after them this is the least address at which an
-- epoch runs.
pub record RunsAfter (setup : Setup) (carry : Carry) (rest : List Record) (addr : ℕ) : Type 0 where
  pub carried : AreCarried setup carry rest
  pub runs : IsLeastRunning (carry_over setup carry rest) addr

-- A journal of an older version can be brought forward.
pub record CanUpgrade (setup : Setup) (image : List ℕ) (base : ℕ) (carry : Carry)
    (rest : List Record) : Type 0 where
  pub has : HasOldRecords image base carry rest
  pub can : CanTurn setup carry rest

-- An epoch runs after all records of a journal of an older version, and this is the least such
-- address.
pub record HasRunning (setup : Setup) (image : List ℕ) (addr : ℕ) : Type 0 where
  pub base : ℕ
  pub carry : Carry
  pub rest : List Record
  pub has : HasOldRecords image base carry rest
  pub runs : RunsAfter setup carry rest addr

-- Why a journal isn't brought forward that isn't opened.
abbrev pub opened_no : OldNo → UpgradeNo
opened_no opening.Disk = Disk
opened_no opening.Alien = Alien
opened_no opening.Current = Current
opened_no (opening.NoRoom used) = NoRoom used

-- Or whose records aren't all read, or don't follow.
abbrev pub read_no : ReadNo → UpgradeNo
read_no reading.Disk = Disk
read_no (reading.BadRecord index) = BadRecord index

-- Why a journal isn't brought forward.
abbrev pub RefusesUpgrade : UpgradeNo → Setup → List ℕ → Type 0
RefusesUpgrade Disk setup image = ⊤
RefusesUpgrade Alien setup image = RefusesOld opening.Alien image
RefusesUpgrade Current setup image = RefusesOld opening.Current image
RefusesUpgrade (NoRoom used) setup image = RefusesOld (opening.NoRoom used) image
RefusesUpgrade (BadRecord index) setup image = HasBadRecord setup image index
RefusesUpgrade (EpochRuns addr) setup image = HasRunning setup image addr

-- A journal that can be brought forward stood in an image, with so many records in all.
pub record Counts (setup : Setup) (image : List ℕ) (many : ℕ) : Type 0 where
  pub base : ℕ
  pub carry : Carry
  pub rest : List Record
  pub can : CanUpgrade setup image base carry rest
  pub count : many ≡ base + length rest

-- What may stand on a disk while a journal of an older version is brought forward: that journal,
-- with the same carry and records; or, where these can be turned, one of today with the carry of
-- all records, and none after it.
abbrev pub IsBrought : Setup → ℕ → Carry → List Record → List ℕ → Type 0
IsBrought setup base carry rest image =
    HasOldFrom image base carry rest
    ⊎ (CanTurn setup carry rest × HasFrom image (base + length rest) (carry_over setup carry rest)
    [])

-- The first ones of the records of an old journal, those before its current half, follow one
-- another.
abbrev pub OldFirstFollow : {image : List ℕ} {records : List Record} → (setup : Setup)
    → OldStandsFor (carry_of setup) image records → Type 0
OldFirstFollow setup stands = all_follow setup (reverse stands.continues.first) ≡ true

-- The same of whole lists of records: it represents these, as a journal of an older version or as
-- one of today.
abbrev pub StandsBrought : Setup → List Record → List ℕ → Type 0
StandsBrought setup records image =
    OldStandsFor (carry_of setup) image records ⊎ StandsFor (carry_of setup) image records

-- The disk that a call gives back, whatever it answers.
abbrev pub disk_after : {D : Type 0} {g : Ghosts D} → Result (Journal D g × ℕ) (D × UpgradeNo) → D
disk_after (Ok brought) = journals.disk_of brought.0
disk_after (Err refused) = refused.0
