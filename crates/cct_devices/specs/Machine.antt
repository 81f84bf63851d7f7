-- The devices on a line, and what they heard of a message that isn't whole yet.
use Rattle.std.specs.Prelude.{◌≡◌, ℕ, List, [], ◌∷◌, drop, length}
use Rattle.cct_model.specs.terms.device.Setup.{Setup}
use Rattle.cct_model.specs.lines.entry.Entry.{Entry}
use Rattle.cct_model.specs.lines.entry.Entry.TheVariants as entry
use Rattle.cct_model.specs.Transcript.{heard_after}
use Rattle.cct_bus.specs.Bus as buses
use Rattle.cct_devices.specs.declared.machine.Machine.{Machine}

-- The setup of the devices on a line.
abbrev pub setup_of : Machine → Setup
setup_of machine = buses.setup_of machine.bus

-- Devices on a line represent a transcript, newest entry first, and the bytes of a message that
-- isn't whole yet.
pub record StandsFor (machine : Machine) (past : List Entry) (bytes : List ℕ) : Type 0 where
  pub bus : buses.StandsFor machine.bus past
  pub held : machine.heard.items ≡ bytes

-- What devices answer to bytes, without their echo: byte for byte what the definitions make of all
-- that happened.
abbrev pub answered_to : Setup → List Entry → List ℕ → List ℕ
answered_to setup past bytes = drop (length bytes) (heard_after setup past bytes)

-- The past goes on by an exchange of these bytes, of which none is left.
abbrev pub HasActed : Setup → List Entry → List ℕ → Machine → Type 0
HasActed setup past bytes machine =
    StandsFor machine (entry.Wire 0 bytes (heard_after setup past bytes) ∷ past) []
