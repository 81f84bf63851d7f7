-- What two writes leave, of which the second opens the gate before what the first wrote.
use Rattle.std.specs.Prelude.{◌⊎◌, ℕ, ◌+◌, List, [], ◌∷◌, length}
use Rattle.cct_disk.specs.Disk.{put_at, SameOutside}
use Rattle.cct_journal.specs.Half.{open_gate}

-- An image on which bytes are written after a gate.
abbrev pub behind_gate : ℕ → List ℕ → List ℕ → List ℕ
behind_gate at bytes image = put_at image (at + 1) bytes

-- An image on which bytes are written after a gate, and the gate is open.
abbrev pub behind_open_gate : ℕ → List ℕ → List ℕ → List ℕ
behind_open_gate at bytes image = put_at (behind_gate at bytes image) at (open_gate ∷ [])

-- What may stand on the disk at a moment of the two writes: any bytes after the gate, or those that
-- are written there and any gate.
abbrev pub IsBegun : ℕ → List ℕ → List ℕ → List ℕ → Type 0
IsBegun at bytes old new =
    SameOutside (at + 1) (length bytes) old new ⊎ SameOutside at 1 (behind_gate at bytes old) new
