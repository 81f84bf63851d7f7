-- What a disk and the place on it are for a journal of an older version.
use Rattle.std.specs.Prelude.{◌≡◌, ℕ, ◌+◌, ◌-◌, ◌<◌, ◌≤◌, Bool, false, not, Option, Some, List, []}
use Rattle.std.specs.Prelude.{◌∷◌, ◌++◌, length, take, ⊤}
use Rattle.std.specs.Prelude.{slice_get}
use Rattle.std.proofs.Props.{props}
use Rattle.cct_model_lines.specs.Carried.{IsRightly-prop, empty_carry}
use Rattle.cct_model_lines.specs.declared.carry.Carry.{Carry}
use Rattle.cct_model_lines.specs.declared.record.Record.{Record}
use Rattle.cct_record.specs.Body.{Encodable}
use Rattle.cct_record.specs.OldBody.{IsRefusedOld, OldSpells}
use Rattle.cct_disk.specs.Disk.{Holds}
use Rattle.cct_journal.specs.Half.{half, has_open_gate, slots_in}
use Rattle.cct_journal.specs.Start.{HasParity-prop}
use Rattle.cct_journal.specs.Image.{HasFrom, IsAlien, IsHeaded, least_size}
use Rattle.cct_journal.specs.Stands.{HasPlace}
use Rattle.cct_journal.specs.declared.place.Place.{Place}
use Rattle.cct_journal.specs.OldImage.{AreSpelt, HasNoOld, HasOldPlace, IsOldAt, IsOldHeaded}
use Rattle.cct_journal.specs.OldImage.{MayBeginOld, bodies_at, old_bodies, old_body_in, old_room}
use Rattle.cct_journal.specs.Fronts.{IsCurrentHalf}
use Rattle.cct_journal.specs.declared.opening.Current.{Current}
use Rattle.cct_journal.specs.declared.old_place.OldPlace.{OldPlace}
use Rattle.cct_journal.specs.declared.old_place.OldVersion.{OldVersion}
use Rattle.cct_journal.specs.declared.old_place.OldVersion.TheVariants.{One, Two}
use Rattle.cct_journal.specs.declared.refusal.OldNo.{OldNo}
use Rattle.cct_journal.specs.declared.refusal.OldNo.TheVariants as opening
use Rattle.cct_journal.specs.declared.refusal.ReadNo.{ReadNo}
use Rattle.cct_journal.specs.declared.refusal.ReadNo.TheVariants as reading

-- The second half is free for a turn: records of version 1, which run through the whole disk, end
-- before the last slot of the first one.
abbrev pub HasFreeHalf : OldVersion → ℕ → ℕ → Type 0
HasFreeHalf One size used = used + 2 ≤ slots_in size
HasFreeHalf Two size used = ⊤

-- A place is one of a journal of an older version, on a disk of that size, that may be brought
-- forward.
pub record IsOldPlaced (size : ℕ) (old : OldPlace) : Type 0 where
  pub long : least_size ≤ size
  pub begins : MayBeginOld old.place.second old.place.generation old.place.base old.place.carry
  pub later : old.place.base ≤ old.place.used
  pub fits : old.place.used ≤ old.place.base + old_room old.version size old.place.base
  pub free : HasFreeHalf old.version size old.place.used

-- A place before the first record is one of a journal of an older version, on a disk of that size.
pub record MayBeCounted (size : ℕ) (old : OldPlace) : Type 0 where
  pub long : least_size ≤ size
  pub begins : MayBeginOld old.place.second old.place.generation old.place.base old.place.carry

-- The current half of an image is of an older version, begins as a place says, and the gate of the
-- other half is as it says.
pub record OldBeginsAt (image : List ℕ) (old : OldPlace) : Type 0 where
  pub headed : IsOldAt image old
  pub other_gate : has_open_gate (half image (not old.place.second)) ≡ old.place.other_open

-- What a read gives has the half of a place, and as many slots with an open gate as are counted,
-- whatever their bodies are.
pub record OldCounts {D : Type 0} (seen : D → Option (List ℕ)) (disk : D) (old : OldPlace) : Type 0
  where
    pub image : List ℕ
    pub tells : seen disk ≡ Some image
    pub headed : IsOldAt image old
    pub count : old.place.used ≡ old.place.base + length (bodies_at old image)
    pub free : HasFreeHalf old.version (length image) old.place.used

-- The first bodies of it, up to an index, are those of these records.
pub record OldReadsUpTo {D : Type 0} (seen : D → Option (List ℕ)) (disk : D) (old : OldPlace)
    (index : ℕ)
    (before : List Record) : Type 0 where
  pub counts : OldCounts seen disk old
  pub count : index ≡ old.place.base + length before
  pub spelt : AreSpelt before (take (length before) (bodies_at old counts.image))

-- All of them are: what a read gives has just these records after those of the carry.
pub record OldReadsFrom {D : Type 0} (seen : D → Option (List ℕ)) (disk : D) (old : OldPlace)
    (rest : List Record)
    : Type 0 where
  pub image : List ℕ
  pub tells : seen disk ≡ Some image
  pub has : HasOldPlace image old rest
  pub count : old.place.used ≡ old.place.base + length rest

-- A journal of an older version represents these records after those of its carry: its disk is
-- honest and keeps just one image, which has them at its place; and it knows whether the gate of
-- the other half is open.
pub record OldStands {D : Type 0} (honest : D → Bool) (seen : D → Option (List ℕ))
    (may_leave : D → List ℕ → Type 0)
    (disk : D) (old : OldPlace) (rest : List Record) : Type 0 where
  pub image : List ℕ
  pub held : Holds honest seen may_leave disk image
  pub has : HasOldPlace image old rest
  pub count : old.place.used ≡ old.place.base + length rest
  pub other_gate : has_open_gate (half image (not old.place.second)) ≡ old.place.other_open

-- The current half of an image is of today's version, and begins with a header and carry.
pub record IsOfToday (image : List ℕ) : Type 0 where
  pub second : Bool
  pub generation : ℕ
  pub base : ℕ
  pub carry : Carry
  pub headed : IsHeaded image second generation base carry

-- An image is that of a journal of version 1 with so many open slots that the second half isn't
-- free.
pub record HasNoRoom (image : List ℕ) (used : ℕ) : Type 0 where
  pub headed : IsOldHeaded image One false 0 0 empty_carry
  pub count : used ≡ length (old_bodies One image false 0)
  pub full : slots_in (length image) < used + 2

-- Why no journal of an older version is opened on an image.
abbrev pub RefusesOld : OldNo → List ℕ → Type 0
RefusesOld opening.Disk image = ⊤
RefusesOld opening.Alien image = IsAlien image × HasNoOld image
RefusesOld opening.Current image = IsOfToday image
RefusesOld (opening.NoRoom used) image = HasNoRoom image used

-- It does so where the current half is this one, and has this version.
abbrev pub OldBeginsWhere : ℕ → Current → List ℕ → OldPlace → Type 0
OldBeginsWhere version current image old =
    current.version ≡ version → IsCurrentHalf image current → OldBeginsAt image old

-- Or none does, for this reason.
abbrev pub RefusesWhere : ℕ → Current → OldNo → List ℕ → Type 0
RefusesWhere version current why image =
    current.version ≡ version → IsCurrentHalf image current → RefusesOld why image

-- Why the record of an index isn't read, whose body this is.
abbrev pub RefusesOldRead : ℕ → List ℕ → ReadNo → Type 0
RefusesOldRead index body reading.Disk = ⊤
RefusesOldRead index body (reading.BadRecord told) = (told ≡ index) × IsRefusedOld body

-- A record that was read is the one of an index.
pub record GivesOld {D : Type 0} (seen : D → Option (List ℕ)) (disk : D) (old : OldPlace)
    (index : ℕ) (entry : Record)
    : Type 0 where
  pub after : (rest : List Record) → OldReadsFrom seen disk old rest →
      slice_get rest (index - old.place.base) ≡ Some entry
  pub spelt : (image : List ℕ) → seen disk ≡ Some image →
      OldSpells entry (old_body_in old index image)
  -- It goes on a run of reads from the base on.
  pub one_more : (before : List Record) → OldReadsUpTo seen disk old index before
      → OldReadsUpTo seen disk old (index + 1) (before ++ entry ∷ [])
  pub fits : Encodable entry

-- Why the record of an index isn't read, and that what represents records refuses none but where
-- the disk failed.
pub record RefusesOldRecord {D : Type 0} (seen : D → Option (List ℕ)) (disk : D) (old : OldPlace)
    (index : ℕ) (why : ReadNo)
    : Type 0 where
  pub reason : (image : List ℕ) → seen disk ≡ Some image →
      RefusesOldRead index (old_body_in old index image) why
  pub never : (rest : List Record) → OldReadsFrom seen disk old rest → why ≡ reading.Disk

-- An honest disk keeps just one image, whose current half is that of a place and has no record yet.
pub record BeginsEmpty {D : Type 0} (honest : D → Bool) (seen : D → Option (List ℕ))
    (may_leave : D → List ℕ → Type 0)
    (disk : D) (place : Place) : Type 0 where
  pub image : List ℕ
  pub held : Holds honest seen may_leave disk image
  pub has : HasPlace image place []
  pub other_gate : has_open_gate (half image (not place.second)) ≡ place.other_open

-- A journal of an older version was brought forward: an honest disk keeps just one image, of a
-- journal of today with this carry of so many records and none after it.
pub record IsTurned {D : Type 0} (honest : D → Bool) (seen : D → Option (List ℕ))
    (may_leave : D → List ℕ → Type 0)
    (disk : D) (used : ℕ) (carry : Carry) : Type 0 where
  pub image : List ℕ
  pub held : Holds honest seen may_leave disk image
  pub has : HasFrom image used carry []

-- The place of a journal of version 1 before its first record.
abbrev pub first_at : Bool → OldPlace
first_at other_open = record {
  version = One;
  place = record {
    used = 0;
    second = false;
    generation = 0;
    base = 0;
    carry = empty_carry;
    other_open = other_open;
  };
}

-- A place with so many records.
abbrev pub with_used : OldPlace → ℕ → OldPlace
with_used old used = record {
  version = old.version;
  place = record {
    used = used;
    second = old.place.second;
    generation = old.place.generation;
    base = old.place.base;
    carry = old.place.carry;
    other_open = old.place.other_open;
  };
}

-- A place that was found on a disk: what a read gives has its half, with as many open slots as it
-- counts, and the other half's gate is as it says.
pub record OldFinds {D : Type 0} (seen : D → Option (List ℕ)) (disk : D) (old : OldPlace) : Type 0
  where
    pub counts : (image : List ℕ) → seen disk ≡ Some image → OldCounts seen disk old
    pub other_gate : (image : List ℕ) → seen disk ≡ Some image
        → has_open_gate (half image (not old.place.second)) ≡ old.place.other_open

-- That a place is one has one proof at most, so that a journal can keep it.

HasFreeHalf-prop : (version : OldVersion) (size used : ℕ) → IsProp (HasFreeHalf version size used)
HasFreeHalf-prop One size used = hlevel props
HasFreeHalf-prop Two size used = hlevel props

MayBeginOld-prop : (second : Bool) (generation base : ℕ) (carry : Carry) →
    IsProp (MayBeginOld second generation base carry)
MayBeginOld-prop second generation base carry = hlevel (props, HasParity-prop, IsRightly-prop)

pub IsOldPlaced-prop : (size : ℕ) (old : OldPlace) → IsProp (IsOldPlaced size old)
IsOldPlaced-prop size old = hlevel (props, MayBeginOld-prop, HasFreeHalf-prop)
