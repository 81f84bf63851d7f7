-- What becomes of what happens to a device.
use Rattle.std.specs.Prelude.{ℕ, ◌==◌, Bool, true, false, not, List, if◌then◌else◌}
use Rattle.cct_model.specs.terms.family.Happening.{Happening}
use Rattle.cct_model.specs.terms.family.Happening.TheVariants.{Coin, Alien, Bill, Fall, Jam, Reset}
use Rattle.cct_model.specs.Bill.{holds}
use Rattle.cct_model.specs.History.{Met}
use Rattle.cct_model.specs.Hopper.{remaining}
use Rattle.cct_acceptor.specs.declared.acceptor.Inserted.{Inserted}
use Rattle.cct_acceptor.specs.declared.acceptor.Inserted.TheVariants as taken
use Rattle.cct_acceptor.specs.Acceptor.{inserted}
use Rattle.cct_bus.specs.declared.outcome.Outcome.{Outcome}
use Rattle.cct_bus.specs.declared.outcome.Outcome.TheVariants.{Accepted, Done, Nothing}

-- What became of a coin that fell in.
abbrev pub of_inserted : Inserted → Outcome
of_inserted (taken.Accepted c) = Accepted c
of_inserted taken.Inhibited = Nothing

-- The same, back.
abbrev pub inserted_of : Outcome → Inserted
inserted_of (Accepted c) = taken.Accepted c
inserted_of Done = taken.Inhibited
inserted_of Nothing = taken.Inhibited

-- What became of a bill that was put in, by whether it is held; or of a coin that fell out of a
-- hopper or got stuck there, by whether that was paying.
abbrev pub of_effect : Bool → Outcome
of_effect had_effect = if had_effect then Done else Nothing

-- The same, back.
abbrev pub is_done : Outcome → Bool
is_done (Accepted c) = false
is_done Done = true
is_done Nothing = false

-- What becomes of what happens to a device with a serial number that met all this.
abbrev pub becomes : Happening → ℕ → List Met → Outcome
becomes (Coin place) serial past = of_inserted (inserted past place)
becomes Alien serial past = Nothing
becomes (Bill place) serial past = of_effect (holds past place)
becomes Fall serial past = of_effect (not (remaining serial past == 0))
becomes Jam serial past = of_effect (not (remaining serial past == 0))
becomes Reset serial past = Done
