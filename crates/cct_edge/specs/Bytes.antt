-- What a call does to the bytes that an object shows, beside the words of std.
use Rattle.std.specs.Prelude.{◌≡◌, ℕ, Option, List, ◌++◌, ◌≤◌, is_some}
use Rattle.std.specs.Io.KnownBytes.{Appends}
use Rattle.cct_edge.specs.Faults.{Rose}

-- an object goes on to show its bytes, or goes on not to show them
abbrev pub TellsAsBefore : Option (List ℕ) → Option (List ℕ) → Type 0
TellsAsBefore old new = is_some new ≡ is_some old

-- the bytes that are reported grow by a front of bs, which may be none or all of it
abbrev pub AppendsFront : Option (List ℕ) → Option (List ℕ) → List ℕ → Type 0
AppendsFront old new bs =
    (front : List ℕ) × (rest : List ℕ) × (bs ≡ front ++ rest) × Appends old new front

-- A source or a sink goes on to show its bytes, or goes on not to show them; its count of faults
-- never falls; and if a call failed so, the count rose, or it is at its last value.
pub record Serves {T : Type 0} (told : T → Option (List ℕ)) (faults : T → ℕ) (old new : T)
    (Fails : Type 0) : Type 0 where
  pub tells : TellsAsBefore (told old) (told new)
  pub later : faults old ≤ faults new
  pub rose : Fails → Rose (faults old) (faults new)
