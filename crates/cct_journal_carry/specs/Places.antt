-- How one of a key is taken out of a list in rising order of key, and where another one is then put
-- in.
use Rattle.std.specs.Prelude.{◌≡◌, ℕ, ◌+◌, ◌≤◌, ◌==◌, Bool, false, List, length, Option, Some, None}
use Rattle.std.specs.Prelude.{insert}
use Rattle.cct_model.specs.Carried.{set_with}

-- It is some that has this key.
abbrev pub has_key : {X : Type 0} → (X → ℕ) → ℕ → Option X → Bool
has_key key wanted None = false
has_key key wanted (Some x) = key x == wanted

-- What had a key is taken out of a list, and one that is put in at this index is in its place.
pub record TakesOut {X : Type 0} (key : X → ℕ) (wanted : ℕ) (old : List X) (index : ℕ)
    (left : List X) : Type 0 where
  pub taken : left ≡ set_with key wanted None old
  pub within : index ≤ length left
  pub longer : (x : X) → length (set_with key wanted (Some x) old) ≡ length left + 1
  pub inserted : (x : X) → insert left index x ≡ set_with key wanted (Some x) old
