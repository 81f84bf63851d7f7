-- What a transcript shows of the bills that a bill acceptor holds.
use Rattle.std.specs.Prelude.{ℕ, ◌==◌, List, [], ◌∷◌, if◌then◌else◌}
use Rattle.cct_model.specs.terms.device.DeviceSetup.{DeviceSetup}
use Rattle.cct_model.specs.lines.entry.Entry.{Entry}
use Rattle.cct_model.specs.lines.entry.Entry.TheVariants as entry

-- The places of the bills that are reported as held at a device's address, newest first.
abbrev pub held_told : DeviceSetup → List Entry → List ℕ
held_told d [] = []
held_told d (entry.Held addr place ∷ past) =
    if addr == d.addr then place ∷ held_told d past else held_told d past
held_told d (e ∷ past) = held_told d past
