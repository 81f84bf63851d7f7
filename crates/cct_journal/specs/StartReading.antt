-- What is at the places of the fields of a header and of its carry, whether or not a half begins
-- so.
use Rattle.std.specs.Prelude.{◌≡◌, ℕ, zero, suc, ◌+◌, ◌*◌, List, [], ◌∷◌, ◌++◌, slice_index}
use Rattle.std.specs.Int.{w32, from_le_bytes}
use Rattle.cct_model_lines.specs.declared.carry.Carry.{Carry}
use Rattle.cct_record.specs.CarryBody.{SpellsCarry}
use Rattle.cct_journal.specs.Half.{turns_in, window}

-- The base in a header.
abbrev pub base_in : List ℕ → ℕ
base_in bytes = from_le_bytes w32 (window 20 4 bytes)

-- How many bodies its carry has.
abbrev pub count_in : List ℕ → ℕ
count_in bytes = slice_index bytes 24

-- The bodies of so many slots after the header.
abbrev pub bodies_in : ℕ → List ℕ → List (List ℕ)
bodies_in zero bytes = []
bodies_in (suc count) bytes = bodies_in count bytes ++ window (33 + 32 * count) 31 bytes ∷ []

-- These numbers and this carry stand there.
pub record TellsStart (generation base : ℕ) (carry : Carry) (bytes : List ℕ) : Type 0 where
  pub generation_stands : turns_in bytes ≡ generation
  pub base_stands : base_in bytes ≡ base
  pub carry_stands : SpellsCarry base carry (bodies_in (count_in bytes) bytes)
