-- A tally goes over the records of a journal of an older version, which is then brought forward.
use Rattle.std.specs.Prelude.{◌≡◌, ◌⊎◌, ℕ, List, [], ⊤}
use Rattle.cct_model.specs.terms.device.Setup.{Setup}
use Rattle.cct_model.specs.lines.carry.Carry.{Carry}
use Rattle.cct_model.specs.lines.record.Record.{Record}
use Rattle.cct_model.specs.Carry.{carry_over}
use Rattle.cct_edge.specs.Faults.{Caused}
use Rattle.cct_disk.specs.declared.disk.Disk.{Ghosts}
use Rattle.cct_disk.specs.Disk.{OnlyReads}
use Rattle.cct_journal.specs.Image.{HasFrom}
use Rattle.cct_journal.specs.OldImage.{AreSpelt, HasOldPlace}
use Rattle.cct_journal.specs.OldJournal as olds
use Rattle.cct_journal.specs.OldStands.{OldReadsFrom, OldReadsUpTo}
use Rattle.cct_journal.specs.declared.old_journal.OldJournal.{OldJournal}
use Rattle.cct_journal.specs.declared.old_place.OldPlace.{OldPlace}
use Rattle.cct_journal.specs.declared.refusal.ReadNo.{ReadNo}
use Rattle.cct_journal.specs.declared.refusal.ReadNo.TheVariants as reading
use Rattle.cct_host.specs.declared.refusal.UpgradeNo.{UpgradeNo}
use Rattle.cct_host.specs.declared.refusal.UpgradeNo.TheVariants.{Disk, BadRecord, EpochRuns}
use Rattle.cct_host.specs.Starting.{TalliesOver}
use Rattle.cct_host.specs.Upgrading.{CanTurn, IsBadFrom, RunsAfter}

-- Why no tally goes over all bodies after a carry of so many records.
abbrev pub RefusesBodies : ReadNo → Setup → ℕ → Carry → List (List ℕ) → Type 0
RefusesBodies reading.Disk setup base carry bodies = ⊤
RefusesBodies (reading.BadRecord index) setup base carry bodies =
    IsBadFrom setup base carry bodies index

-- Bodies spell records after which this is the least address at which an epoch runs.
pub record SpellRunning (setup : Setup) (carry : Carry) (bodies : List (List ℕ)) (addr : ℕ) : Type 0
  where
    pub rest : List Record
    pub spelt : AreSpelt rest bodies
    pub runs : RunsAfter setup carry rest addr

-- Why an open journal of an older version isn't brought forward that has these bodies after a carry
-- of so many records.
abbrev pub RefusesOpened : UpgradeNo → Setup → ℕ → Carry → List (List ℕ) → Type 0
RefusesOpened Disk setup base carry bodies = ⊤
RefusesOpened (BadRecord index) setup base carry bodies = IsBadFrom setup base carry bodies index
RefusesOpened (EpochRuns addr) setup base carry bodies = SpellRunning setup carry bodies addr
RefusesOpened why setup base carry bodies = ⊥

-- What may stand on a disk while a journal of an older version at this place is brought forward:
-- that journal with its records; or, where these can be turned, one of today with the carry of all
-- of them, and none after it.
abbrev pub TurnsBy : Setup → OldPlace → List Record → List ℕ → Type 0
TurnsBy setup old rest image =
    HasOldPlace image old rest
    ⊎ (CanTurn setup old.place.carry rest
    × HasFrom image old.place.used (carry_over setup old.place.carry rest) [])

module _ {D : Type 0} {g : Ghosts D} where
  -- A tally went over a carry that fits its setup, and over the records that the bodies after it
  -- spell, up to an index.
  pub record TalliesUpTo (setup : Setup) (old : OldJournal D g) (index : ℕ) (now : Carry) : Type 0
    where
      pub before : List Record
      pub reads : OldReadsUpTo g.seen (olds.disk_of old) (olds.place_of old) index before
      pub over : TalliesOver setup (olds.carry_before old) before now

  -- A journal stays as it is, and its disk was only read; a call of it failed, where one so failed.
  pub record OnlyReadOld (old new : OldJournal D g) (Fails : Type 0) : Type 0 where
    pub place : olds.place_of new ≡ olds.place_of old
    pub disk : OnlyReads g.size g.honest g.seen g.may_leave g.moment g.left_since g.cuts
        (olds.disk_of old)
        (olds.disk_of new)
    pub stands : (rest : List Record) → olds.OldJournalStands old rest →
        olds.OldJournalStands new rest
    pub cause : Caused (g.faults (olds.disk_of old)) (g.faults (olds.disk_of new)) Fails

  -- All records of a journal of an older version can be turned, and with those before them there
  -- are so many.
  pub record CountsAll (setup : Setup) (old : OldJournal D g) (many : ℕ) : Type 0 where
    pub rest : List Record
    pub reads : OldReadsFrom g.seen (olds.disk_of old) (olds.place_of old) rest
    pub can : CanTurn setup (olds.carry_before old) rest
    pub count : many ≡ olds.used_of old
