-- The two halves of a disk, and which of them counts.
use Rattle.std.specs.Prelude.{◌≡◌, ◌⊎◌, ℕ, ◌*◌, ◌/◌, ◌<◌, ◌≤◌, ◌==◌, Bool, true, false, not}
use Rattle.std.specs.Prelude.{if◌then◌else◌, List, [], ◌∷◌}
use Rattle.std.specs.Prelude.{◌++◌, length}
use Rattle.std.specs.Prelude.{take, drop, codes, slice_index}
use Rattle.std.specs.Int.{w32, from_le_bytes}

-- The gate of a slot or of a half that counts. Any other gate is shut.
abbrev pub open_gate : ℕ
open_gate = 165

-- The first bytes of an open half: an open gate and the title.
abbrev pub title : List ℕ
title = open_gate ∷ codes "CCTALK JOURNAL"

-- And these with the version after them.
abbrev pub title_of : ℕ → List ℕ
title_of version = open_gate ∷ codes "CCTALK JOURNAL" ++ version ∷ []

-- The version of the journals that are written today.
abbrev pub version_now : ℕ
version_now = 3

-- How many slots of 32 bytes each half has, on so many bytes.
abbrev pub slots_in : ℕ → ℕ
slots_in size = size / 64

-- Where a half begins, on so many bytes.
abbrev pub start_at : ℕ → Bool → ℕ
start_at size second = if second then 32 * slots_in size else 0

-- So many bytes from a place on.
abbrev pub window : ℕ → ℕ → List ℕ → List ℕ
window at many bytes = take many (drop at bytes)

-- The first or the second half of an image.
abbrev pub half : List ℕ → Bool → List ℕ
half image second = window (start_at (length image) second) (32 * slots_in (length image)) image

-- The gate of a half is open.
abbrev pub has_open_gate : List ℕ → Bool
has_open_gate bytes = slice_index bytes 0 == open_gate

-- The version of a half.
abbrev pub version_in : List ℕ → ℕ
version_in bytes = slice_index bytes 15

-- The versions that a half may have. A journal of version 1 had no halves: its header is where the
-- first one begins.
abbrev pub IsVersionOf : Bool → ℕ → Type 0
IsVersionOf second version = ((version ≡ 1) × (second ≡ false)) ⊎ ((version ≡ 2) ⊎ (version ≡ 3))

-- The first or the second half is open: it begins with an open gate and the title, and has a
-- version that it may have.
pub record IsOpen (second : Bool) (bytes : List ℕ) : Type 0 where
  pub titled : take 15 bytes ≡ title
  pub version_is : IsVersionOf second (version_in bytes)

-- The number at the place of the generation in the header of a half.
abbrev pub turns_in : List ℕ → ℕ
turns_in bytes = from_le_bytes w32 (window 16 4 bytes)

-- The generation of a half, which is 0 in version 1, whatever is there.
abbrev pub generation_in : List ℕ → ℕ
generation_in bytes = if version_in bytes == 1 then 0 else turns_in bytes

-- A half counts beside the other one, if both are open: its generation is greater, or it is the
-- first half, and its generation isn't less.
abbrev pub Wins : Bool → List ℕ → List ℕ → Type 0
Wins false mine other = IsOpen true other → generation_in other ≤ generation_in mine
Wins true mine other = IsOpen false other → generation_in other < generation_in mine

-- A half of an image is the current one: it is open, and counts beside the other one.
pub record IsCurrent (second : Bool) (image : List ℕ) : Type 0 where
  pub is_open : IsOpen second (half image second)
  pub wins : Wins second (half image second) (half image (not second))
