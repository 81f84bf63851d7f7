-- What the bytes of a disk represent as a journal of an older version, 1 or 2.
use Rattle.std.specs.Prelude.{◌≡◌, ◌⊎◌, ℕ, ◌+◌, ◌-◌, ◌*◌, ◌/◌, ◌<◌, ◌≤◌, min, Bool, false, List, []}
use Rattle.std.specs.Prelude.{◌∷◌, ◌++◌, length}
use Rattle.std.specs.Prelude.{take, drop, replicate, slice_index, ⊤}
use Rattle.cct_model_lines.specs.Carried.{IsRightly, empty_carry}
use Rattle.cct_model_lines.specs.declared.carry.Carry.{Carry}
use Rattle.cct_model_lines.specs.declared.record.Record.{Record}
use Rattle.cct_record.specs.OldBody.{OldSpells}
use Rattle.cct_record.specs.OldCarryBody.{OldSpellsCarry}
use Rattle.cct_journal.specs.Half.{IsCurrent, half, start_at, title_of}
use Rattle.cct_journal.specs.Start.{HasParity, start_with}
use Rattle.cct_journal.specs.Image.{Continues, HasFrom, bodies, bodies_in, least_size, room_of}
use Rattle.cct_journal.specs.declared.format.TheConstants.{FIRST_SLOT, MOST_RECORDS, START}
use Rattle.cct_journal.specs.declared.old_place.OldPlace.{OldPlace}
use Rattle.cct_journal.specs.declared.old_place.OldVersion.{OldVersion}
use Rattle.cct_journal.specs.declared.old_place.OldVersion.TheVariants.{One, Two}

-- The number of a version.
abbrev pub number_of : OldVersion → ℕ
number_of One = 1
number_of Two = 2

-- How many records a journal of an older version takes on so many bytes, after so many before its
-- half. Those of version 1 run through the whole disk.
abbrev pub old_room : OldVersion → ℕ → ℕ → ℕ
old_room One size base = min (size / 32 - 1) (MOST_RECORDS - base)
old_room Two size base = room_of size base

-- The bodies of its records: those of version 1 stand after one slot, whatever half that is, and
-- those of version 2 as they do today.
abbrev pub old_bodies : OldVersion → List ℕ → Bool → ℕ → List (List ℕ)
old_bodies One image second base = bodies (old_room One (length image) base) (drop 32 image)
old_bodies Two image second base = bodies_in image second base

-- Where the slot of the record of an index begins.
abbrev pub old_slot : OldVersion → ℕ → Bool → ℕ → ℕ → ℕ
old_slot One size second base index = 32 * (1 + (index - base))
old_slot Two size second base index = start_at size second + 32 * (FIRST_SLOT + (index - base))

-- Records are spelt by bodies, one by one.
abbrev pub AreSpelt : List Record → List (List ℕ) → Type 0
AreSpelt [] [] = ⊤
AreSpelt (r ∷ rs) (body ∷ bodies) = OldSpells r body × AreSpelt rs bodies
AreSpelt rs bodies = ⊥

-- A half of version 2 may begin with this generation, after so many records.
pub record MayBeginOld (second : Bool) (generation base : ℕ) (carry : Carry) : Type 0 where
  pub parity : HasParity second generation
  pub turned : generation ≤ base
  pub base_fits : base < MOST_RECORDS
  pub rightly : IsRightly base carry

-- The header of version 1: the title and the version, and 16 bytes 0.
abbrev pub first_header : List ℕ
first_header = title_of 1 ++ replicate 16 0

-- What a journal of version 1 begins with. It counts as the first half, as one that never turned.
pub record BeginsFirst (second : Bool) (generation base : ℕ) (carry : Carry) (bytes : List ℕ) : Type
    0 where
  pub first : second ≡ false
  pub none_turned : generation ≡ 0
  pub none_before : base ≡ 0
  pub none_carried : carry ≡ empty_carry
  pub starts : take 32 bytes ≡ first_header

-- What a half of version 2 begins with: as one of today does, but for the bodies of its carry.
pub record BeginsSecond (second : Bool) (generation base : ℕ) (carry : Carry) (bytes : List ℕ)
    : Type 0 where
  pub may : MayBeginOld second generation base carry
  pub carried : List (List ℕ)
  pub spelt : OldSpellsCarry base carry carried
  pub starts : take START bytes ≡ start_with 2 generation base carried

-- A half of an older version begins with them.
abbrev pub OldBegins : OldVersion → Bool → ℕ → ℕ → Carry → List ℕ → Type 0
OldBegins One = BeginsFirst
OldBegins Two = BeginsSecond

-- The current half of an image is of an older version, and begins with this generation, this base
-- and this carry.
pub record IsOldHeaded (image : List ℕ) (version : OldVersion) (second : Bool) (generation base : ℕ)
    (carry : Carry)
    : Type 0 where
  pub long : least_size ≤ length image
  pub current : IsCurrent second image
  pub begins : OldBegins version second generation base carry (half image second)

-- The current half of an image is of an older version, begins so, and has just these records.
pub record HasOldHalf (image : List ℕ) (version : OldVersion) (second : Bool) (generation base : ℕ)
    (carry : Carry)
    (rest : List Record) : Type 0 where
  pub headed : IsOldHeaded image version second generation base carry
  pub records_are : AreSpelt rest (old_bodies version image second base)

-- An image is that of a journal of an older version: it has so many records, of which this is the
-- carry, and just these after them.
pub record HasOldFrom (image : List ℕ) (base : ℕ) (carry : Carry) (rest : List Record) : Type 0
  where
    pub version : OldVersion
    pub second : Bool
    pub generation : ℕ
    pub current : HasOldHalf image version second generation base carry rest

-- An image of a journal of an older version represents records, where the carry of records is this
-- one: it has the carry of the first ones, and just the others after it.
pub record OldStandsFor (carry_of : List Record → Carry) (image : List ℕ) (records : List Record)
    : Type 0 where
  pub base : ℕ
  pub carry : Carry
  pub rest : List Record
  pub has : HasOldFrom image base carry rest
  pub continues : Continues carry_of base carry rest records

-- The current half of an image is of no older version, or begins with no header and carry of it, or
-- the image is too short.
abbrev pub HasNoOld : List ℕ → Type 0
HasNoOld image = (version : OldVersion) (second : Bool) (generation base : ℕ) (carry : Carry)
    → IsOldHeaded image version second generation base carry → ⊥

-- The current half of an image is the one of a place of an older version, and begins so.
abbrev pub IsOldAt : List ℕ → OldPlace → Type 0
IsOldAt image old =
    IsOldHeaded image old.version old.place.second old.place.generation old.place.base
    old.place.carry

-- And it has just these records.
abbrev pub HasOldPlace : List ℕ → OldPlace → List Record → Type 0
HasOldPlace image old rest =
    HasOldHalf image old.version old.place.second old.place.generation old.place.base
    old.place.carry rest

-- The bodies of the records of a place of an older version.
abbrev pub bodies_at : OldPlace → List ℕ → List (List ℕ)
bodies_at old image = old_bodies old.version image old.place.second old.place.base

-- The gate of the record of an index.
abbrev pub old_gate_in : OldPlace → ℕ → List ℕ → ℕ
old_gate_in old index image =
    slice_index image (old_slot old.version (length image) old.place.second old.place.base index)

-- The body of the record of an index.
abbrev pub old_body_in : OldPlace → ℕ → List ℕ → List ℕ
old_body_in old index image =
    take 31 (drop (old_slot old.version (length image) old.place.second old.place.base index + 1)
    image)

-- What may stand on a disk while a journal of an older version is brought forward with this carry:
-- that journal with its records, or one of today with that carry of as many records, and none after
-- it.
abbrev pub IsTurning : OldPlace → Carry → List Record → List ℕ → Type 0
IsTurning old carry rest image = HasOldPlace image old rest ⊎ HasFrom image old.place.used carry []
