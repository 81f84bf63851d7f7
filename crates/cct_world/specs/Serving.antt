-- What is left of the disk that steps were played over.
use Rattle.std.specs.Prelude.{ℕ, ◌≤◌, Bool, List, Option}
use Rattle.cct_edge.specs.Faults.{Rose}
use Rattle.cct_disk.specs.Disk.{Outlasts}

-- A disk outlasts the steps that were played over it. Its count of faults never falls, and if a
-- call of it failed so, that count rose; and if its journal was lost so, the count of its power
-- cuts did. A count may also stand at its last value.
pub record DiskServes {D : Type 0} (size : D → ℕ) (honest : D → Bool) (seen : D → Option (List ℕ))
    (cuts faults : D → ℕ)
    (old new : D) (Fails Loses : Type 0) : Type 0 where
  pub outlasts : Outlasts size honest seen cuts old new
  pub later : faults old ≤ faults new
  pub rose : Fails → Rose (faults old) (faults new)
  pub lost : Loses → Rose (cuts old) (cuts new)
