-- What a half begins with: its header and its carry.
use Rattle.std.specs.Prelude.{◌≡◌, ℕ, ◌+◌, ◌-◌, ◌*◌, ◌%◌, ◌^◌, ◌<◌, ◌≤◌, Bool, true, false, List}
use Rattle.std.specs.Prelude.{◌∷◌, ◌++◌, length, take}
use Rattle.std.specs.Prelude.{flat_map, replicate}
use Rattle.std.specs.Int.{w32, to_le_bytes}
use Rattle.std.proofs.Props.{props}
use Rattle.cct_model_lines.specs.Carried.{IsRightly, IsRightly-prop}
use Rattle.cct_model_lines.specs.declared.carry.Carry.{Carry}
use Rattle.cct_record.specs.CarryBody.{bodies_of}
use Rattle.cct_journal.specs.Half.{title_of, version_now}
use Rattle.cct_journal.specs.declared.format.TheConstants.{MOST_RECORDS, START}

-- The generations of the first half are even, and those of the second one odd.
abbrev pub HasParity : Bool → ℕ → Type 0
HasParity false generation = generation % 2 ≡ 0
HasParity true generation = generation % 2 ≡ 1

-- The header of a half: the gate, the title and the version; then the generation, the base and how
-- many bodies its carry has, and 7 bytes 0.
abbrev pub header_with : ℕ → ℕ → ℕ → ℕ → List ℕ
header_with version generation base many =
    title_of version ++ to_le_bytes w32 generation ++ to_le_bytes w32 base ++ many ∷ replicate 7 0

-- A slot of a carry: a byte 0 and a body.
abbrev pub carry_slot : List ℕ → List ℕ
carry_slot body = 0 ∷ body

-- The 35 slots of a carry of these bodies, of which those that aren't used are 0.
abbrev pub area_with : List (List ℕ) → List ℕ
area_with bodies = flat_map carry_slot bodies ++ replicate (1120 - 32 * length bodies) 0

-- The bytes of a half before its records, in a version whose carry has these bodies.
unfoldable pub start_with : ℕ → ℕ → ℕ → List (List ℕ) → List ℕ
start_with version generation base bodies =
    header_with version generation base (length bodies) ++ area_with bodies

-- Those of a half that is begun today.
abbrev pub start_of : ℕ → ℕ → Carry → List ℕ
start_of generation base carry = start_with version_now generation base (bodies_of carry)

-- A half may begin with this generation, with this base, which is how many records stood before it,
-- and with this carry.
pub record MayBegin (second : Bool) (generation base : ℕ) (carry : Carry) : Type 0 where
  pub parity : HasParity second generation
  -- A journal of an older version may be brought forward before it has a record, which is one turn
  -- more than there are records.
  pub turned : generation ≤ base + 1
  pub generation_fits : generation < 2 ^ 32
  pub base_fits : base ≤ MOST_RECORDS
  pub rightly : IsRightly base carry

-- That it may has one proof at most, so that a journal can keep it.

pub HasParity-prop : (second : Bool) (generation : ℕ) → IsProp (HasParity second generation)
HasParity-prop false generation = hlevel props
HasParity-prop true generation = hlevel props

pub MayBegin-prop : (second : Bool) (generation base : ℕ) (carry : Carry) →
    IsProp (MayBegin second generation base carry)
MayBegin-prop second generation base carry = hlevel (props, HasParity-prop, IsRightly-prop)

-- A half begins with them.
pub record Begins (second : Bool) (generation base : ℕ) (carry : Carry) (bytes : List ℕ) : Type 0
  where
    pub may : MayBegin second generation base carry
    pub starts : take START bytes ≡ start_of generation base carry
