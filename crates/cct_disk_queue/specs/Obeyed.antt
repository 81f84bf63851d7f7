-- A part on which a caller has made calls, newest first, since it had a base.
use Rattle.std.specs.Prelude.{◌≡◌, ℕ, Bool, true, Option, Some, List}
use Rattle.cct_disk.specs.Disk.{IsWithin}
use Rattle.cct_disk_queue.specs.Calls.{Act, Leaves, after}

-- It is honest, a read gives the bytes after them, and a power cut leaves no more than it may after
-- them.
pub record HasMade {D : Type 0} (honest : D → Bool) (seen : D → Option (List ℕ))
    (may_leave : D → List ℕ → Type 0)
    (part : D) (base : List ℕ) (calls : List Act) : Type 0 where
  pub keeps_synced : honest part ≡ true
  pub tells : seen part ≡ Some (after base calls)
  pub images : IsWithin (Leaves base calls) (may_leave part)
