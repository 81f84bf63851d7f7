-- What a journal has after a power cut that came within a put, or in none.
use Rattle.std.specs.Prelude.{◌≡◌, ◌⊎◌, ℕ, ◌<◌, Bool, true, Option, None, Some, is_some, List, []}
use Rattle.std.specs.Prelude.{◌∷◌, ◌++◌}
use Rattle.cct_model_lines.specs.declared.carry.Carry.{Carry}
use Rattle.cct_model_lines.specs.declared.record.Record.{Record}
use Rattle.cct_journal.specs.Image.{StandsFor, StandsForOneOf}
use Rattle.cct_journal.specs.Stands.{Leaves, LeavesOneOf}

-- The records that are left after a power cut: those that stood before, or these and the one of the
-- put that it interrupted, by how many of the four disk calls were made.
abbrev pub LeftBy : ℕ → Option Record → List Record → List Record → Type 0
LeftBy calls None records left = left ≡ records
LeftBy calls (Some r) records left =
    ((calls < 4) × (left ≡ records)) ⊎ ((2 < calls) × (left ≡ records ++ r ∷ []))

-- An image stands for records, or, where one is being put, for these and that one.
abbrev pub StandsForWith : (List Record → Carry) → Option Record → List Record → List ℕ → Type 0
StandsForWith carry_of None records image = StandsFor carry_of image records
StandsForWith carry_of (Some r) records image = StandsForOneOf carry_of records r image

-- Each image that a power cut may leave on this honest disk stands for records, or, where one is
-- being put, for these and that one.
abbrev pub LeavesWith : (List Record → Carry) → {D : Type 0} → (D → Bool) → (D → Option (List ℕ)) →
    (D → List ℕ → Type 0)
    → D → Option Record → List Record → Type 0
LeavesWith carry_of honest seen may_leave disk None records =
    Leaves carry_of honest seen may_leave disk records
LeavesWith carry_of honest seen may_leave disk (Some r) records =
    LeavesOneOf carry_of honest seen may_leave disk records r

-- Each image that a power cut may leave on this honest disk represents what is left after so many
-- calls of a put, or of none.
pub record LeavesBy (carry_of : List Record → Carry) {D : Type 0} (honest : D → Bool)
    (seen : D → Option (List ℕ))
    (may_leave : D → List ℕ → Type 0) (disk : D) (calls : ℕ) (put : Option Record)
    (records : List Record)
    : Type 0 where
  pub keeps_synced : honest disk ≡ true
  pub tells : is_some (seen disk) ≡ true
  pub each : (c : List ℕ) → may_leave disk c
      → (left : List Record) × LeftBy calls put records left × StandsFor carry_of c left
