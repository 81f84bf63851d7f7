-- The records that the journal of a host has on its disk: what is there, what a power cut may leave
-- of it, and what is found in an image.
use Rattle.std.specs.Prelude.{◌≡◌, ◌⊎◌, ℕ, ◌+◌, Bool, true, false, Option, Some, None, List, ◌∷◌}
use Rattle.std.specs.Prelude.{◌++◌, length}
use Rattle.cct_model.specs.terms.device.Setup.{Setup}
use Rattle.cct_model.specs.lines.carry.Carry.{Carry}
use Rattle.cct_model.specs.lines.record.Record.{Record}
use Rattle.cct_model.specs.Carry.{Fits, all_follow_carry, carry_of, carry_over, follows_carry}
use Rattle.cct_journal.specs.declared.place.Place.{Place}
use Rattle.cct_journal.specs.Image.{HasFrom, HasMany, StandsFor, StandsForOneOf}
use Rattle.cct_journal.specs.PowerCuts.{LeavesWith}
use Rattle.cct_journal.specs.Stands.{Reads, ReadsFrom, Stands}

-- A journal keeps these records, oldest first: its disk is honest and keeps just one image, which
-- represents them, and so many does the journal count.
abbrev pub KeepsRecords : {D : Type 0} → Setup → (D → Bool) → (D → Option (List ℕ)) →
    (D → List ℕ → Type 0) → D → Place
    → List Record → Type 0
KeepsRecords setup honest seen may_leave disk place records =
    Stands (carry_of setup) honest seen may_leave disk place records

-- Each image that a power cut may leave on this honest disk stands for these records, or, where one
-- was due, for these, or for these and that one.
abbrev pub LeavesRecords : {D : Type 0} → Setup → (D → Bool) → (D → Option (List ℕ)) →
    (D → List ℕ → Type 0) → D
    → Option Record → List Record → Type 0
LeavesRecords setup honest seen may_leave disk due records =
    LeavesWith (carry_of setup) honest seen may_leave disk due records

-- An image stands for these records, or, where one was due, for these or for these and that one.
abbrev pub StandsUpTo : Setup → Option Record → List Record → List ℕ → Type 0
StandsUpTo setup None records image = StandsFor (carry_of setup) image records
StandsUpTo setup (Some r) records image = StandsForOneOf (carry_of setup) records r image

-- What a read gives represents these records, whatever a power cut may leave, and so many does the
-- journal count.
abbrev pub ReadsRecords : {D : Type 0} → Setup → (D → Option (List ℕ)) → D → Place → List Record →
    Type 0
ReadsRecords setup seen disk place records = Reads (carry_of setup) seen disk place records

-- What a read gives has just these records after those of the carry of a place, whatever a power
-- cut may leave, and so many does the journal count.
abbrev pub ReadsRest : {D : Type 0} → (D → Option (List ℕ)) → D → Place → List Record → Type 0
ReadsRest seen disk place rest = ReadsFrom seen disk place rest

-- The record of this index is the first that doesn't follow a carry of so many records and those of
-- the rest before it.
pub record IsFirstBad (setup : Setup) (base : ℕ) (carry : Carry) (rest : List Record) (index : ℕ)
    : Type 0 where
  pub first : List Record
  pub bad : Record
  pub later : List Record
  pub all : rest ≡ first ++ bad ∷ later
  pub many : index ≡ base + length first
  pub follow : all_follow_carry setup carry first ≡ true
  pub refused : follows_carry setup (carry_over setup carry first) bad ≡ false

-- A host that starts over a carry of so many records and the rest after them stops at this index:
-- the carry doesn't fit the setup, and it is that of the first record after it; or this is the
-- first record that doesn't follow.
abbrev pub StopsAt : Setup → ℕ → Carry → List Record → ℕ → Type 0
StopsAt setup base carry rest index =
    ((Fits setup carry → ⊥) × (index ≡ base))
    ⊎ (Fits setup carry × IsFirstBad setup base carry rest index)

-- An image has so many records.
abbrev pub FindsMany : Setup → List ℕ → ℕ → Type 0
FindsMany setup image many = HasMany image many

-- An image has so many records: its carry fits the setup, and each record after it follows.
pub record FindsWhole (setup : Setup) (image : List ℕ) (many : ℕ) : Type 0 where
  pub base : ℕ
  pub carry : Carry
  pub rest : List Record
  pub has : HasFrom image base carry rest
  pub count : many ≡ base + length rest
  pub fits : Fits setup carry
  pub follow : all_follow_carry setup carry rest ≡ true

-- An image has so many records, and a host that starts over them stops at this index.
pub record FindsBad (setup : Setup) (image : List ℕ) (many index : ℕ) : Type 0 where
  pub base : ℕ
  pub carry : Carry
  pub rest : List Record
  pub has : HasFrom image base carry rest
  pub count : many ≡ base + length rest
  pub stops : StopsAt setup base carry rest index
