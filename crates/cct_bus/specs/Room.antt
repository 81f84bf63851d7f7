-- How much the devices can say in one exchange.
use Rattle.std.specs.Prelude.{ℕ, ◌+◌, ◌==◌, List, [], ◌∷◌, if◌then◌else◌, slice_index}
use Rattle.cct_model.specs.terms.wire.TheConstants.{BROADCAST, MOST_SENT}
use Rattle.cct_model.specs.terms.device.DeviceSetup.{DeviceSetup}

-- The most bytes with which a device at an address answers a piece: a message where the piece is
-- for it, its address where the piece is for all, and none where it is for another.
abbrev pub most_said : ℕ → List ℕ → ℕ
most_said addr piece = if slice_index piece 0 == addr then MOST_SENT else if slice_index piece 0
    == BROADCAST then 1 else 0

-- The most bytes with which devices together answer a piece.
abbrev pub most_answered : List ℕ → List DeviceSetup → ℕ
most_answered piece [] = 0
most_answered piece (d ∷ ds) = most_said d.addr piece + most_answered piece ds
