-- What the writes of a turn make of an image, whatever is on it.
use Rattle.std.specs.Prelude.{◌⊎◌, ℕ, ◌+◌, not, if◌then◌else◌, List, [], ◌∷◌, length}
use Rattle.cct_model_lines.specs.declared.carry.Carry.{Carry}
use Rattle.cct_disk.specs.Disk.{SameOutside, put_at}
use Rattle.cct_journal.specs.Half.{start_at}
use Rattle.cct_journal.specs.Gated.{IsBegun, behind_open_gate}
use Rattle.cct_journal.specs.Places.{behind_start}
use Rattle.cct_journal.specs.declared.format.TheConstants.{START}
use Rattle.cct_journal.specs.declared.place.Place.{Place}

-- Where the half begins that isn't the current one.
abbrev pub other_start : Place → List ℕ → ℕ
other_start place image = start_at (length image) (not place.second)

-- Where the first write goes: to the gate of that half, if it is open, and else to the place after
-- it.
abbrev pub closing_at : Place → List ℕ → ℕ
closing_at place image =
    if place.other_open then other_start place image else other_start place image + 1

-- What the first write may leave, while the disk hasn't kept it.
abbrev pub IsClosing : Place → List ℕ → List ℕ → Type 0
IsClosing place image c = SameOutside (closing_at place image) 1 image c

-- What it leaves then.
abbrev pub closed_by : Place → List ℕ → List ℕ
closed_by place image = put_at image (closing_at place image) (0 ∷ [])

-- What the two writes that begin the other half may leave.
abbrev pub IsBeginning : Place → Carry → List ℕ → List ℕ → Type 0
IsBeginning place carry image c =
    IsBegun (other_start place image) (behind_start (place.generation + 1) place.used carry) image c

-- What they leave at the end.
abbrev pub begun_by : Place → Carry → List ℕ → List ℕ
begun_by place carry image =
    behind_open_gate (other_start place image)
    (behind_start (place.generation + 1) place.used carry) image

-- What may stand on the disk at a moment of a turn.
abbrev pub IsTurnedBy : Place → Carry → List ℕ → List ℕ → Type 0
IsTurnedBy place carry image c =
    IsClosing place image c ⊎ IsBeginning place carry (closed_by place image) c

-- What is there at its end.
abbrev pub turned_by : Place → Carry → List ℕ → List ℕ
turned_by place carry image = begun_by place carry (closed_by place image)

-- How many writes and syncs a put makes at most, those of a turn before it with them, and of how
-- many bytes.
abbrev pub put_calls : ℕ
put_calls = 10

abbrev pub put_bytes : ℕ
put_bytes = START + 35
