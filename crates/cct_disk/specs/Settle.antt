-- A disk after its caller made all the calls that it noted: a read gives the same, and a power cut
-- leaves no more.
use Rattle.std.specs.Prelude.{◌≡◌, ℕ, Bool, Option, List}
use Rattle.cct_disk.specs.Disk.{IsWithin}

pub record Settles {D : Type 0} (size : D → ℕ) (honest : D → Bool) (seen : D → Option (List ℕ))
    (may_leave : D → List ℕ → Type 0) (cuts faults : D → ℕ) (old new : D) : Type 0 where
  pub same_size : size new ≡ size old
  pub same_honest : honest new ≡ honest old
  pub same_seen : seen new ≡ seen old
  pub images : IsWithin (may_leave old) (may_leave new)
  pub same_cuts : cuts new ≡ cuts old
  pub same_faults : faults new ≡ faults old
