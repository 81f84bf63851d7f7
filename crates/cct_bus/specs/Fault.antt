-- The fault that is set for the next exchange.
use Rattle.std.specs.Prelude.{◌≤◌, length, ⊤}
use Rattle.cct_model.specs.terms.wire.TheConstants.{MOST_SENT}
use Rattle.cct_model.specs.lines.command.WireFault.{WireFault}
use Rattle.cct_model.specs.lines.command.WireFault.TheVariants as fault

-- A fault that may be set: a piece that the devices hear, or the host after its echo, is no longer
-- than what is sent.
abbrev pub IsShort : WireFault → Type 0
IsShort fault.Clear = ⊤
IsShort (fault.DevicesHear piece) = length piece ≤ MOST_SENT
IsShort (fault.HostHears piece) = length piece ≤ MOST_SENT
IsShort (fault.WholeHeard piece) = ⊤
