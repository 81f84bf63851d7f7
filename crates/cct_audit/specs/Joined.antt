-- What came of a capture: its devices and its taps.
use Rattle.std.specs.Prelude.{List, [], ◌∷◌}
use Rattle.cct_audit_taps.specs.Taps.{Tap}
use Rattle.cct_monitor.specs.Watches.{Came, Watch, made_tap, made_watch}

-- The devices among what came, newest first.
abbrev pub watches_in : List Came → List Watch
watches_in [] = []
watches_in (made_watch w ∷ past) = w ∷ watches_in past
watches_in (made_tap t ∷ past) = watches_in past

-- The taps among what came, newest first.
abbrev pub taps_among : List Came → List Tap
taps_among [] = []
taps_among (made_watch w ∷ past) = taps_among past
taps_among (made_tap t ∷ past) = t ∷ taps_among past
