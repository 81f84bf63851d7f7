-- What the listener of a device heard since the last gap.
use Rattle.std.specs.Prelude.{◌≡◌, ℕ, ◌==◌, ◌||◌, not, Bool, false, List, [], ◌∷◌, if◌then◌else◌}
use Rattle.cct_model_wire.specs.declared.wire.TheConstants.{BROADCAST}
use Rattle.cct_model_wire.specs.declared.wire.CheckKind.{CheckKind}
use Rattle.cct_wire.specs.Framer.{Since}
use Rattle.cct_device_core.specs.declared.hearing.Listener.{Listener}

-- The first byte of a message shows a device that the message is for it, or for all devices.
abbrev pub is_for : ℕ → ℕ → Bool
is_for addr to = (to == addr) || (to == BROADCAST)

-- Bytes are of a message for another device.
abbrev pub is_elsewhere : ℕ → List ℕ → Bool
is_elsewhere addr [] = false
is_elsewhere addr (to ∷ rest) = not (is_for addr to)

-- The check that a listener goes by.
abbrev pub kind_of : Listener → CheckKind
kind_of listener = listener.framer.kind

-- The device at an address heard these bytes since the last gap: its listener knows whether they
-- are of a message for another, and took them in where they aren't.
pub record HeardSince (listener : Listener) (addr : ℕ) (bytes : List ℕ) : Type 0 where
  pub elsewhere : listener.elsewhere ≡ is_elsewhere addr bytes
  pub since : Since listener.framer (if is_elsewhere addr bytes then [] else bytes)
