-- What a disk and the place on it are for a journal.
use Rattle.std.specs.Prelude.{◌≡◌, ℕ, ◌+◌, ◌-◌, ◌≤◌, Bool, true, not, Option, Some, IfSome, is_some}
use Rattle.std.specs.Prelude.{List, length}
use Rattle.std.proofs.Props.{props}
use Rattle.cct_edge.specs.Faults.{next_count}
use Rattle.cct_model_lines.specs.declared.carry.Carry.{Carry}
use Rattle.cct_model_lines.specs.declared.record.Record.{Record}
use Rattle.cct_disk.specs.Disk.{GoesOn, Holds, LeavesOnly}
use Rattle.cct_journal.specs.Half.{half, has_open_gate}
use Rattle.cct_journal.specs.Start.{MayBegin, MayBegin-prop}
use Rattle.cct_journal.specs.Image.{Continues, HasHalf, StandsFor, StandsForOneOf, body_at}
use Rattle.cct_journal.specs.Image.{least_size, room_of}
use Rattle.cct_journal.specs.declared.format.TheConstants.{FIRST_SLOT}
use Rattle.cct_journal.specs.declared.place.Place.{Place}

-- A place is one of a disk of that size.
pub record IsPlaced (size : ℕ) (place : Place) : Type 0 where
  pub long : least_size ≤ size
  pub begins : MayBegin place.second place.generation place.base place.carry
  pub later : place.base ≤ place.used
  pub fits : place.used ≤ place.base + room_of size place.base

pub IsPlaced-prop : (size : ℕ) (place : Place) → IsProp (IsPlaced size place)
IsPlaced-prop size place = hlevel (props, MayBegin-prop)

-- The slot of the record of an index, for a journal with this place.
abbrev pub slot_of : Place → ℕ → ℕ
slot_of place index = FIRST_SLOT + (index - place.base)

-- The body of the record of an index, in an image on which a journal has this place.
abbrev pub body_in : Place → ℕ → List ℕ → List ℕ
body_in place index image = body_at (half image place.second) (slot_of place index)

-- The current half of an image is the one of a place, and has just these records.
abbrev pub HasPlace : List ℕ → Place → List Record → Type 0
HasPlace image place rest = HasHalf image place.second place.generation place.base place.carry rest

-- An honest disk keeps just one image, which represents records.
pub record Settled (carry_of : List Record → Carry) {D : Type 0} (honest : D → Bool)
    (seen : D → Option (List ℕ))
    (may_leave : D → List ℕ → Type 0) (disk : D) (records : List Record) : Type 0 where
  pub image : List ℕ
  pub held : Holds honest seen may_leave disk image
  pub stands : StandsFor carry_of image records

-- A journal represents records, where the carry of records is this one: its disk is honest and
-- keeps just one image, whose current half is that of its place and has the records that aren't in
-- its carry; so many does the journal count, and it knows whether the gate of the other half is
-- open.
pub record Stands (carry_of : List Record → Carry) {D : Type 0} (honest : D → Bool)
    (seen : D → Option (List ℕ))
    (may_leave : D → List ℕ → Type 0) (disk : D) (place : Place) (records : List Record) : Type 0
  where
    pub image : List ℕ
    pub held : Holds honest seen may_leave disk image
    pub rest : List Record
    pub has : HasPlace image place rest
    pub continues : Continues carry_of place.base place.carry rest records
    pub count : place.used ≡ length records
    pub other_gate : has_open_gate (half image (not place.second)) ≡ place.other_open

-- A journal represents records, and this is their carry.
pub record StandsWith (carry_of : List Record → Carry) {D : Type 0} (honest : D → Bool)
    (seen : D → Option (List ℕ))
    (may_leave : D → List ℕ → Type 0) (disk : D) (place : Place) (carry : Carry)
    (records : List Record) : Type 0 where
  pub stands : Stands carry_of honest seen may_leave disk place records
  pub carry_is : carry ≡ carry_of records

-- A journal represents records, and where a record is to be put after them, this is their carry.
pub record StandsBefore (carry_of : List Record → Carry) {D : Type 0} (honest : D → Bool)
    (seen : D → Option (List ℕ))
    (may_leave : D → List ℕ → Type 0) (disk : D) (place : Place) (carry : Carry)
    (put : Option Record)
    (records : List Record) : Type 0 where
  pub stands : Stands carry_of honest seen may_leave disk place records
  pub carry_is : IfSome put (λ r. carry ≡ carry_of records)

-- What a read gives has just these records after those of the carry of a place, whatever a power
-- cut may leave, and so many does the journal count.
pub record ReadsFrom {D : Type 0} (seen : D → Option (List ℕ)) (disk : D) (place : Place)
    (rest : List Record)
    : Type 0 where
  pub image : List ℕ
  pub tells : seen disk ≡ Some image
  pub has : HasPlace image place rest
  pub count : place.used ≡ place.base + length rest

-- What a read gives represents records, whatever a power cut may leave, and so many does the
-- journal count.
pub record Reads (carry_of : List Record → Carry) {D : Type 0} (seen : D → Option (List ℕ))
    (disk : D) (place : Place)
    (records : List Record) : Type 0 where
  pub rest : List Record
  pub reads : ReadsFrom seen disk place rest
  pub continues : Continues carry_of place.base place.carry rest records

-- Each image that a power cut may leave on this honest disk represents records.
pub record Leaves (carry_of : List Record → Carry) {D : Type 0} (honest : D → Bool)
    (seen : D → Option (List ℕ))
    (may_leave : D → List ℕ → Type 0) (disk : D) (records : List Record) : Type 0 where
  pub keeps_synced : honest disk ≡ true
  pub tells : is_some (seen disk) ≡ true
  pub each : (c : List ℕ) → may_leave disk c → StandsFor carry_of c records

-- Each image that a power cut may leave on this honest disk stands for records, or for these and
-- one more.
pub record LeavesOneOf (carry_of : List Record → Carry) {D : Type 0} (honest : D → Bool)
    (seen : D → Option (List ℕ))
    (may_leave : D → List ℕ → Type 0) (disk : D) (records : List Record) (entry : Record) : Type 0
  where
    pub keeps_synced : honest disk ≡ true
    pub tells : is_some (seen disk) ≡ true
    pub each : (c : List ℕ) → may_leave disk c → StandsForOneOf carry_of records entry c

-- The power of a disk was cut just once, by this choice: it went on up to the cut, and was only
-- read after it.
pub record CutOnce {D : Type 0} (size : D → ℕ) (honest : D → Bool) (seen : D → Option (List ℕ))
    (cuts : D → ℕ)
    (cut_to : D → ℕ → D → Type 0) (choice : ℕ) (old new : D) : Type 0 where
  pub before : D
  pub behind : D
  pub goes_on : GoesOn size honest seen cuts old before
  pub is_cut : cut_to before choice behind
  pub lasts : GoesOn size honest seen cuts behind new
  pub same_seen : seen new ≡ seen behind
  pub count : cuts new ≡ next_count (cuts old)

-- From one disk to another the first calls of a put were made, after a turn where the half was
-- full, with this carry of the records before it: each image that a power cut might have left
-- stands for the records before it, or for these and the new one; and up to the second call for the
-- former alone.
pub record Puts {D : Type 0} (honest : D → Bool) (seen : D → Option (List ℕ))
    (may_leave : D → List ℕ → Type 0)
    (moment : D → ℕ) (left_since : D → ℕ → List ℕ → Type 0) (place : Place) (carry : Carry)
    (entry : Record) (calls : ℕ)
    (old new : D) : Type 0 where
  pub each : (carry_of : List Record → Carry) (records : List Record)
      → StandsWith carry_of honest seen may_leave old place carry records
      → LeavesOnly moment left_since old new (StandsForOneOf carry_of records entry)
  -- Up to two calls the records before alone.
  pub early : calls ≤ 2 → (carry_of : List Record → Carry) (records : List Record)
      → StandsWith carry_of honest seen may_leave old place carry records
      → LeavesOnly moment left_since old new (λ c. StandsFor carry_of c records)
