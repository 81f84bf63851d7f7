-- A machine with any host: what may come to its devices, and exchanges in which any host sends any
-- bytes.
use Rattle.std.specs.Prelude.{◌≡◌, ℕ, suc, ◌==◌, List, [], ◌∷◌, ◌++◌, length, if◌then◌else◌, ⊤}
use Rattle.cct_model.specs.terms.device.Setup.{Setup}
use Rattle.cct_model.specs.lines.command.Step.{Step}
use Rattle.cct_model.specs.lines.command.Step.TheVariants as step
use Rattle.cct_model.specs.lines.entry.Entry.{Entry}
use Rattle.cct_model.specs.lines.entry.Entry.TheVariants as entry
use Rattle.cct_model.specs.Legal.{Entries}
use Rattle.cct_model.specs.Script.{IsInRange}
use Rattle.cct_model.specs.Transcript.{heard_after}
use Rattle.cct_audit_taps.specs.Taps.{Tap, tap_of}

-- A step of a run of any host: something outside the host, as a step of a script plays it, or an
-- exchange of any host.
pub data WildStep : Type 0 where
  outside : (played : Step) → WildStep
  exchange : (sent : List ℕ) → WildStep

-- What comes from outside the host: coins, bills and other pieces, falls, jams, resets, and faults
-- of the wire.
abbrev pub IsOutside : Step → Type 0
IsOutside (step.Coin addr place) = ⊤
IsOutside (step.Alien addr) = ⊤
IsOutside (step.Bill addr place) = ⊤
IsOutside (step.Fall addr) = ⊤
IsOutside (step.Jam addr) = ⊤
IsOutside (step.Reset addr) = ⊤
IsOutside (step.Fault f) = ⊤
IsOutside s = ⊥

-- The entries of a step of any host after all that came before: those of a step of a script; or the
-- exchange, with what the host then hears. An exchange may stand at any address, since no job makes
-- it.
abbrev pub WildEntries : Setup → List Entry → WildStep → List Entry → Type 0
WildEntries setup past (outside s) news = IsOutside s × IsInRange s × Entries 0 setup past s news
WildEntries setup past (exchange sent) news =
    (addr : ℕ) × (news ≡ entry.Wire addr sent (heard_after setup past sent) ∷ [])

-- A past goes on by the entries of these steps of any host, and ends as this one.
abbrev pub WildFrom : Setup → List Entry → List WildStep → List Entry → Type 0
WildFrom setup past [] end = end ≡ past
WildFrom setup past (s ∷ steps) end =
    (news : List Entry) × WildEntries setup past s news × WildFrom setup (news ++ past) steps end

-- The exchanges of a past as a logger of the wire sees them, newest first.
abbrev pub taps : List Entry → List Tap
taps [] = []
taps (entry.Wire addr sent piece ∷ past) = tap_of sent piece ∷ taps past
taps (e ∷ past) = taps past

-- All that came before the exchange of a number; exchanges are numbered from 1.
abbrev pub before_tap : ℕ → List Entry → List Entry
before_tap n [] = []
before_tap n (entry.Wire addr sent piece ∷ past) =
    if suc (length (taps past)) == n then past else before_tap n past
before_tap n (e ∷ past) = before_tap n past
