-- The records over which a service begins.
use Rattle.std.specs.Prelude.{◌≡◌, ◌⊎◌, Bool, true, false, ℕ, List, [], Option, Some, reverse}
use Rattle.cct_model.specs.terms.device.Setup.{Setup}
use Rattle.cct_model.specs.lines.record.Record.{Record}
use Rattle.cct_model.specs.lines.carry.Carry.{Carry}
use Rattle.cct_model.specs.Carry.{carry_of}
use Rattle.cct_model.specs.Following.{all_follow}
use Rattle.cct_disk.specs.declared.disk.Disk.{Ghosts}
use Rattle.cct_disk.specs.Disk.{IsTrusted}
use Rattle.cct_journal.specs.Image.{Continues, StandsFor}
use Rattle.cct_journal.specs.Stands.{Settled}
use Rattle.cct_journal.specs.declared.journal.Journal.{Journal}
use Rattle.cct_journal.specs.Journal as journals
use Rattle.cct_host.specs.OnDisk.{KeepsRecords, ReadsRecords}
use Rattle.cct_host.specs.Starting.{FirstFollow}

-- A disk shows records, newest first: what a read gives represents them by a setup, and each
-- follows those before it. If it is trusted, it keeps just that.
pub record Tells {D : Type 0} (honest : D → Bool) (seen : D → Option (List ℕ))
    (may_leave : D → List ℕ → Type 0) (disk : D)
    (setup : Setup) (found : List Record) : Type 0 where
  pub image : List ℕ
  pub seen_is : seen disk ≡ Some image
  pub stands : StandsFor (carry_of setup) image (reverse found)
  pub follow : all_follow setup found ≡ true
  pub settled : IsTrusted honest seen disk →
      Settled (carry_of setup) honest seen may_leave disk (reverse found)

-- A service made a journal, or it found one: a carry of so many records, and the rest after them,
-- oldest first.
pub data Begun : Type 0 where
  made_new : Begun
  found_there : (base : ℕ) (c : Carry) (rest : List Record) → Begun

-- Whether the journal was there.
abbrev pub was_found : Begun → Bool
was_found made_new = false
was_found (found_there base c rest) = true

-- How many records stood before the current half of the journal that was there.
abbrev pub base_found : Begun → ℕ
base_found made_new = 0
base_found (found_there base c rest) = base

-- Records, newest first, end in those that were found: the carry is that of the first ones, which
-- follow one another, and the rest are the others. If the disk is trusted, it keeps just them.
pub record EndsIn {D : Type 0} (honest : D → Bool) (seen : D → Option (List ℕ))
    (may_leave : D → List ℕ → Type 0) (disk : D)
    (setup : Setup) (base : ℕ) (c : Carry) (rest found : List Record) : Type 0 where
  pub continues : Continues (carry_of setup) base c rest (reverse found)
  pub follow : all_follow setup (reverse continues.first) ≡ true
  pub settled : IsTrusted honest seen disk →
      Settled (carry_of setup) honest seen may_leave disk (reverse found)

-- The records that a host finds, newest first, where its journal was there: those that the disk
-- shows; and, also on a disk that shows nothing, any that end in those that were found. None are
-- found where the journal was made.
abbrev pub FoundOn : {D : Type 0} → (D → Bool) → (D → Option (List ℕ)) → (D → List ℕ → Type 0) → D →
    Setup → Begun
    → List Record → Type 0
FoundOn honest seen may_leave disk setup made_new found = found ≡ []
FoundOn honest seen may_leave disk setup (found_there base c rest) found =
    Tells honest seen may_leave disk setup found
    ⊎ EndsIn honest seen may_leave disk setup base c rest found

-- The records that a journal has on a disk, newest first: those that the disk shows, where it was
-- there; none where it was made.
abbrev pub ToldOn : {D : Type 0} → (D → Bool) → (D → Option (List ℕ)) → (D → List ℕ → Type 0) → D →
    Setup → Bool
    → List Record → Type 0
ToldOn honest seen may_leave disk setup true found = Tells honest seen may_leave disk setup found
ToldOn honest seen may_leave disk setup false found = found ≡ []

module _ {D : Type 0} {g : Ghosts D} where
  -- A journal that was there is read as these records, or it was made and has none. Where its disk
  -- is trusted, it keeps just them.
  abbrev pub Opens : Journal D g → Setup → Bool → List Record → Type 0
  Opens journal setup true found =
      ((reads : ReadsRecords setup g.seen (journals.disk_of journal) (journals.place_of journal)
      (reverse found))
      × FirstFollow setup reads)
      × (IsTrusted g.honest g.seen (journals.disk_of journal)
      → KeepsRecords setup g.honest g.seen g.may_leave (journals.disk_of journal)
      (journals.place_of journal)
      (reverse found))
  Opens journal setup false found =
      (found ≡ []) × (journals.used_of journal ≡ 0)
      × (IsTrusted g.honest g.seen (journals.disk_of journal)
      → KeepsRecords setup g.honest g.seen g.may_leave (journals.disk_of journal)
      (journals.place_of journal) [])
