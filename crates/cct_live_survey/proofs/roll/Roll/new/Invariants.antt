-- The devices so far have their first turns.
use Rattle.std.proofs.Common.{◌≡◌, ◌*◌, length, map, take}
use Rattle.std.specs.List.{sum_by}
use Rattle.cct_live_survey.specs.Roll.{first_turn, most_found}
use Rattle.cct_live_survey.proofs.roll.Roll.new.Given as goal

abbrev pub invariant-loop-device : goal.invariant-loop-device
invariant-loop-device l =
    (l.left.items ≡ map first_turn (take l.device-index l.devices)) × (length l.left.items ≡ l.device-index)
    × (sum_by most_found l.left.items ≡ 19 * l.device-index)
