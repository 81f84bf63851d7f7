-- Which damage of the wire is honest, said by what messages there are, with no test.
use Rattle.std.specs.Prelude.{◌≡◌, ℕ, List, ◌++◌, None, ⊤}
use Rattle.cct_model.specs.terms.wire.CheckKind.{CheckKind}
use Rattle.cct_model.specs.terms.wire.CheckKind.TheVariants.{Simple, Crc}
use Rattle.cct_model.specs.terms.request.Request.TheVariants.{AddressPoll}
use Rattle.cct_model.specs.lines.command.WireFault.{WireFault}
use Rattle.cct_model.specs.lines.command.WireFault.TheVariants as fault
use Rattle.cct_model.specs.Message.{message}
use Rattle.cct_model.specs.Exchange.{ask}

-- Bytes are no message, under either check.
abbrev pub IsNoMessage : List ℕ → Type 0
IsNoMessage piece = (message Simple piece ≡ None) × (message Crc piece ≡ None)

-- Bytes are the address poll by which a scan asks all devices, under one of the checks.
abbrev pub IsAddressPoll : List ℕ → Type 0
IsAddressPoll sent = (kind : CheckKind) × (sent ≡ ask kind 0 AddressPoll)

-- The bytes that the devices hear are no message. Where no address poll is sent, the bytes that the
-- host hears are none, nor are those after the host's own echo.
abbrev pub DamagesHonestly : WireFault → List ℕ → Type 0
DamagesHonestly fault.Clear sent = ⊤
DamagesHonestly (fault.DevicesHear piece) sent = IsNoMessage piece
DamagesHonestly (fault.HostHears piece) sent = (IsAddressPoll sent → ⊥) → IsNoMessage piece
DamagesHonestly (fault.WholeHeard piece) sent =
    (IsAddressPoll sent → ⊥) → IsNoMessage piece
    × ((rest : List ℕ) → piece ≡ sent ++ rest → IsNoMessage rest)
