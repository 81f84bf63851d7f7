-- What an image is to a journal that is opened on it.
use Rattle.std.specs.Prelude.{◌≡◌, ℕ, ◌+◌, ◌-◌, ◌*◌, Bool, Option, Some, List, ◌++◌, length, drop}
use Rattle.std.specs.Prelude.{map, reverse, All, ⊤}
use Rattle.std.specs.Prelude.{slice_get}
use Rattle.cct_model_lines.specs.declared.carry.Carry.{Carry}
use Rattle.cct_model_lines.specs.declared.record.Record.{Record}
use Rattle.cct_record.specs.Body.{Encodable, InRange, IsRefused, Spells, body_of}
use Rattle.cct_journal.specs.Half.{half}
use Rattle.cct_journal.specs.Image.{IsAlien, IsBadAt, IsRefusedIn, StandsFor, bodies, bodies_in}
use Rattle.cct_journal.specs.Image.{room_of}
use Rattle.cct_journal.specs.Stands.{Reads, ReadsFrom, body_in}
use Rattle.cct_journal.specs.declared.format.TheConstants.{FIRST_SLOT}
use Rattle.cct_journal.specs.declared.place.Place.{Place}
use Rattle.cct_journal.specs.declared.refusal.OpenNo.{OpenNo}
use Rattle.cct_journal.specs.declared.refusal.OpenNo.TheVariants.{Disk, Alien, BadRecord}
use Rattle.cct_journal.specs.declared.refusal.ReadNo.{ReadNo}
use Rattle.cct_journal.specs.declared.refusal.ReadNo.TheVariants as reading

-- The bodies of a half, after so many records before it, are those of these records.
pub record CountsIn (image : List ℕ) (second : Bool) (base : ℕ) (records : List Record) : Type 0
  where
    pub bodies_are : bodies_in image second base ≡ map body_of records
    pub in_range : All InRange records

-- The first bodies of a half are those of these records, of which there are so many, and the others
-- stand in the slots after them.
pub record Walked (image : List ℕ) (second : Bool) (base many : ℕ) (records : List Record) : Type 0
  where
    pub bodies_are : bodies_in image second base ≡ map body_of records
        ++ bodies (room_of (length image) base - many)
        (drop (32 * (FIRST_SLOT + many)) (half image second))
    pub in_range : All InRange records
    pub count : many ≡ length records

-- From one value to another the records after those of a carry were replayed, up to an index, and
-- of these, oldest first, a fact holds.
pub record Replayed {R : Type 0} (replayed : R → ℕ → Carry → List Record → R → Type 0) (base : ℕ)
    (carry : Carry)
    (old new : R) (index : ℕ) (holds : List Record → Type 0) : Type 0 where
  pub before : List Record
  pub count : index ≡ base + length before
  pub over : replayed old base carry before new
  pub fact : holds (reverse before)

-- Why the records of a half can't be counted.
abbrev pub StopsCount : OpenNo → List ℕ → Bool → ℕ → Type 0
StopsCount Disk image second base = ⊤
StopsCount Alien image second base = ⊥
StopsCount (BadRecord index) image second base = IsRefusedIn image second base index

-- Why no journal is opened on an image.
abbrev pub RefusesOpen : OpenNo → List ℕ → Type 0
RefusesOpen Disk image = ⊤
RefusesOpen Alien image = IsAlien image
RefusesOpen (BadRecord index) image = IsBadAt image index

-- Why the record of an index isn't read, whose body this is.
abbrev pub RefusesRead : ℕ → List ℕ → ReadNo → Type 0
RefusesRead index body reading.Disk = ⊤
RefusesRead index body (reading.BadRecord told) = (told ≡ index) × IsRefused body

-- A place that was found on a disk: what a read gives has its half, with as many records as it has,
-- and just those for which that stands.
pub record Finds {D : Type 0} (seen : D → Option (List ℕ)) (old new : D) (place : Place) : Type 0
  where
    pub found : (image : List ℕ) → seen old ≡ Some image → (rest : List Record)
        × ReadsFrom seen new place rest
    -- Whatever a power cut may leave: what a read gives counts.
    pub every : (carry_of : List Record → Carry) (image : List ℕ) (records : List Record) → seen old
        ≡ Some image
        → StandsFor carry_of image records → Reads carry_of seen new place records

-- All records of a place that aren't in its carry were replayed after it, oldest first: as many as
-- it has, and just those that a read gives.
pub record ReplaysAll {D R : Type 0} (seen : D → Option (List ℕ))
    (replayed : R → ℕ → Carry → List Record → R → Type 0)
    (disk : D) (place : Place) (old new : R) : Type 0 where
  pub each : (before : List Record) × (place.used ≡ place.base + length before)
      × replayed old place.base place.carry before new
  pub told : (rest : List Record) → ReadsFrom seen disk place rest
      → replayed old place.base place.carry (reverse rest) new

-- A record that was read is the one of an index.
pub record GivesRecord {D : Type 0} (seen : D → Option (List ℕ)) (disk : D) (place : Place)
    (index : ℕ) (entry : Record)
    : Type 0 where
  -- It has this index less the base among the records after those of the carry, and this one among
  -- all.
  pub after : (rest : List Record) → ReadsFrom seen disk place rest →
      slice_get rest (index - place.base) ≡ Some entry
  pub given : (carry_of : List Record → Carry) (records : List Record) →
      Reads carry_of seen disk place records
      → slice_get records index ≡ Some entry
  pub spelt : (image : List ℕ) → seen disk ≡ Some image → Spells entry (body_in place index image)
  pub fits : Encodable entry

-- Why the record of an index isn't read, and that what represents records refuses none but where
-- the disk failed.
pub record RefusesRecord {D : Type 0} (seen : D → Option (List ℕ)) (disk : D) (place : Place)
    (index : ℕ) (why : ReadNo)
    : Type 0 where
  pub reason : (image : List ℕ) → seen disk ≡ Some image →
      RefusesRead index (body_in place index image) why
  -- A record that a read of the disk gives is refused only if the disk failed.
  pub never : (rest : List Record) → ReadsFrom seen disk place rest → why ≡ reading.Disk

-- Why no journal is read through, one of whose records wasn't read.
abbrev pub open_no : ReadNo → OpenNo
open_no reading.Disk = Disk
open_no (reading.BadRecord index) = BadRecord index
