-- The wire's faults as far as the laws allow for them: damaged bytes fail their check.
use Rattle.std.specs.Prelude.{◌≡◌, ◌&&◌, ◌||◌, not, ℕ, Bool, true, false, List, [], ◌∷◌, ◌++◌}
use Rattle.std.specs.Prelude.{if◌then◌else◌, Option, None, Some, is_none, bytes_eq, ⊤}
use Rattle.std.specs.List.{All}
use Rattle.cct_model.specs.terms.wire.CheckKind.TheVariants.{Simple, Crc}
use Rattle.cct_model.specs.terms.request.Request.TheVariants.{AddressPoll}
use Rattle.cct_model.specs.lines.command.WireFault.{WireFault}
use Rattle.cct_model.specs.lines.command.WireFault.TheVariants as fault
use Rattle.cct_model.specs.lines.entry.Entry.{Entry}
use Rattle.cct_model.specs.lines.entry.Entry.TheVariants as entry
use Rattle.cct_model.specs.Message.{message}
use Rattle.cct_model.specs.Exchange.{after_echo, ask}
use Rattle.cct_model.specs.Transcript.{pending, onto}

-- Whether bytes are no message, under either check.
abbrev pub is_no_message : List ℕ → Bool
is_no_message piece = is_none (message Simple piece) && is_none (message Crc piece)

-- Whether bytes are the address poll by which a scan asks all devices, under one of the checks.
abbrev pub is_address_poll : List ℕ → Bool
is_address_poll sent =
    bytes_eq sent (ask Simple 0 AddressPoll) || bytes_eq sent (ask Crc 0 AddressPoll)

-- Whether what follows the host's own echo is no message, or there is no whole echo.
abbrev pub has_no_message : Option (List ℕ) → Bool
has_no_message None = true
has_no_message (Some rest) = is_no_message rest

-- Whether a fault does an honest damage to an exchange: the bytes that the devices hear are no
-- message. Where no address poll is sent, the bytes that the host hears are none, nor are those
-- after the host's own echo.
abbrev pub is_honest : WireFault → List ℕ → Bool
is_honest fault.Clear sent = true
is_honest (fault.DevicesHear piece) sent = is_no_message piece
is_honest (fault.HostHears piece) sent = is_address_poll sent || is_no_message piece
is_honest (fault.WholeHeard piece) sent =
    is_address_poll sent || (is_no_message piece && has_no_message (after_echo sent piece))

-- A fault does an honest damage to an exchange.
abbrev pub IsHonestFault : WireFault → List ℕ → Type 0
IsHonestFault f sent = is_honest f sent ≡ true

-- An entry shows an honest wire: where it is an exchange, the fault that was set for it is an
-- honest one.
abbrev pub IsHonestAt : List Entry → Entry → Type 0
IsHonestAt past (entry.Wire addr sent piece) = IsHonestFault (pending past) sent
IsHonestAt past e = ⊤

-- All entries of a past show an honest wire.
abbrev pub HonestPast : List Entry → Type 0
HonestPast [] = ⊤
HonestPast (e ∷ past) = IsHonestAt past e × HonestPast past

-- A transcript, oldest entry first, shows an honest wire: all bytes that a fault damages fail their
-- check.
abbrev pub Honest : List Entry → Type 0
Honest transcript = HonestPast (onto [] transcript)

-- Whether the last exchange was forged: the fault that was set for it did another damage than an
-- honest one. Before the first exchange none was.
abbrev pub was_forged : List Entry → Bool
was_forged [] = false
was_forged (entry.Wire addr sent piece ∷ past) = not (is_honest (pending past) sent)
was_forged (e ∷ past) = was_forged past

-- The entry that says that an exchange at an address was forged, after this past, or none where it
-- wasn't.
abbrev pub forged_line : List Entry → ℕ → List ℕ → List Entry
forged_line past addr sent = if is_honest (pending past) sent then [] else entry.Forged addr ∷ []

-- What is reported after the entries of a step, newest first: that their exchange was forged, where
-- there is one that was.
abbrev pub forged_after : List Entry → List Entry → List Entry
forged_after past [] = []
forged_after past (entry.Wire addr sent piece ∷ earlier) = forged_line (earlier ++ past) addr sent
forged_after past (e ∷ earlier) = forged_after past earlier

-- The entries of a step, newest first, without the one that reports a forged exchange.
abbrev pub without_forged : List Entry → List Entry
without_forged (entry.Forged addr ∷ news) = news
without_forged news = news

-- An entry reports no forged exchange.
abbrev pub IsUnforged : Entry → Type 0
IsUnforged (entry.Forged addr) = ⊥
IsUnforged e = ⊤

-- No entry of a transcript reports a forged exchange.
abbrev pub IsAllUnforged : List Entry → Type 0
IsAllUnforged transcript = All IsUnforged transcript
