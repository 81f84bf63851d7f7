-- What the bytes of a disk represent as a journal.
use Rattle.std.specs.Prelude.{◌≡◌, ◌≢◌, ◌⊎◌, ℕ, zero, suc, ◌+◌, ◌-◌, ◌*◌, ◌<◌, ◌≤◌, ◌==◌, min, Bool}
use Rattle.std.specs.Prelude.{if◌then◌else◌, List, []}
use Rattle.std.specs.Prelude.{◌∷◌, ◌++◌, length, take, drop, map, All, slice_index}
use Rattle.cct_model_lines.specs.declared.carry.Carry.{Carry}
use Rattle.cct_model_lines.specs.declared.record.Record.{Record}
use Rattle.cct_record.specs.Body.{InRange, IsRefused, body_of}
use Rattle.cct_journal.specs.Half.{IsCurrent, half, open_gate, slots_in}
use Rattle.cct_journal.specs.Start.{Begins}
use Rattle.cct_journal.specs.declared.format.TheConstants.{FIRST_SLOT, MOST_RECORDS, START}

-- The least number of bytes on which a journal stands: two halves with one record each.
abbrev pub least_size : ℕ
least_size = 2368

-- How many records a half takes on so many bytes, after so many before it.
abbrev pub room_of : ℕ → ℕ → ℕ
room_of size base = min (slots_in size - FIRST_SLOT) (MOST_RECORDS - base)

-- How many records a half takes on so many bytes, where the journal has room for them all.
abbrev pub half_room : ℕ → ℕ
half_room size = slots_in size - FIRST_SLOT

-- How many records the half has to which one more is put, where the current one has so many: none
-- where that is full, since the other one is begun then.
abbrev pub kept_before : ℕ → ℕ → ℕ
kept_before room kept = if kept == room then 0 else kept

-- How many records the current half has after so many puts, where it had so many before.
abbrev pub kept_after : ℕ → ℕ → ℕ → ℕ
kept_after room kept zero = kept
kept_after room kept (suc puts) = suc (kept_before room (kept_after room kept puts))

-- The bodies of the slots that these bytes are, up to the first shut gate, and so many at most.
abbrev pub bodies : ℕ → List ℕ → List (List ℕ)
bodies (suc most) (gate ∷ rest) =
    if gate == open_gate then take 31 rest ∷ bodies most (drop 31 rest) else []
bodies most bytes = []

-- The bodies of the records of a half, after so many before it.
abbrev pub bodies_in : List ℕ → Bool → ℕ → List (List ℕ)
bodies_in image second base = bodies (room_of (length image) base) (drop START (half image second))

-- The current half of an image begins with this generation, this base and this carry.
pub record IsHeaded (image : List ℕ) (second : Bool) (generation base : ℕ) (carry : Carry) : Type 0
  where
    pub long : least_size ≤ length image
    pub current : IsCurrent second image
    pub begins : Begins second generation base carry (half image second)

-- The current half of an image begins so, and has just the bodies of these records.
pub record HasHalf (image : List ℕ) (second : Bool) (generation base : ℕ) (carry : Carry)
    (rest : List Record)
    : Type 0 where
  pub headed : IsHeaded image second generation base carry
  pub records_are : bodies_in image second base ≡ map body_of rest
  pub in_range : All InRange rest

-- An image has so many records, of which this is the carry, and just these after them.
pub record HasFrom (image : List ℕ) (base : ℕ) (carry : Carry) (rest : List Record) : Type 0 where
  pub second : Bool
  pub generation : ℕ
  pub current : HasHalf image second generation base carry rest

-- This is the carry of the first ones of these records, so many, and the rest of them.
pub record Continues (carry_of : List Record → Carry) (base : ℕ) (carry : Carry)
    (rest records : List Record) : Type 0 where
  pub first : List Record
  pub all : records ≡ first ++ rest
  pub many : base ≡ length first
  pub carry_is : carry ≡ carry_of first

-- An image represents records, where the carry of records is this one: it has the carry of the
-- first ones, and just the others after it.
pub record StandsFor (carry_of : List Record → Carry) (image : List ℕ) (records : List Record)
    : Type 0 where
  pub base : ℕ
  pub carry : Carry
  pub rest : List Record
  pub has : HasFrom image base carry rest
  pub continues : Continues carry_of base carry rest records

-- An image stands for records, or for these and one more.
abbrev pub StandsForOneOf : (List Record → Carry) → List Record → Record → List ℕ → Type 0
StandsForOneOf carry_of records entry image =
    StandsFor carry_of image records ⊎ StandsFor carry_of image (records ++ entry ∷ [])

-- An image has so many records.
pub record HasMany (image : List ℕ) (many : ℕ) : Type 0 where
  pub base : ℕ
  pub carry : Carry
  pub rest : List Record
  pub has : HasFrom image base carry rest
  pub count : many ≡ base + length rest

-- An image is that of no journal: no half of it is open, or the current one begins with no header
-- and carry, or it is too short for two halves.
abbrev pub IsAlien : List ℕ → Type 0
IsAlien image = (second : Bool) (generation base : ℕ) (carry : Carry) →
    IsHeaded image second generation base carry → ⊥

-- After so many records of a half stands a body that spells none.
pub record IsRefusedIn (image : List ℕ) (second : Bool) (base index : ℕ) : Type 0 where
  pub before : List Record
  pub body : List ℕ
  pub later : List (List ℕ)
  pub bodies_are : bodies_in image second base ≡ map body_of before ++ body ∷ later
  pub in_range : All InRange before
  pub count : index ≡ base + length before
  pub refused : IsRefused body

-- An image has a current half, and after so many records, with those before it, a body that spells
-- none.
pub record IsBadAt (image : List ℕ) (index : ℕ) : Type 0 where
  pub second : Bool
  pub generation : ℕ
  pub base : ℕ
  pub carry : Carry
  pub headed : IsHeaded image second generation base carry
  pub refused : IsRefusedIn image second base index

-- The gate in a slot of a half.
abbrev pub gate_at : List ℕ → ℕ → ℕ
gate_at bytes slot = slice_index bytes (32 * slot)

-- The body in a slot of a half.
abbrev pub body_at : List ℕ → ℕ → List ℕ
body_at bytes slot = take 31 (drop (32 * slot + 1) bytes)

-- Every byte from one place up to another is 0.
abbrev pub IsBlankBetween : ℕ → ℕ → List ℕ → Type 0
IsBlankBetween from to image = (p : ℕ) → from ≤ p → p < to → slice_index image p ≡ 0

-- Every byte is 0.
abbrev pub IsBlank : List ℕ → Type 0
IsBlank image = IsBlankBetween 0 (length image) image

-- The first byte from a place on that isn't 0.
pub record IsFirstByteFrom (from : ℕ) (image : List ℕ) (at : ℕ) : Type 0 where
  pub behind : from ≤ at
  pub is_there : at < length image
  pub blank_before : IsBlankBetween from at image
  pub not_zero : slice_index image at ≢ 0
