-- How long a line was silent before a message was sent: what the word *prompt* rests on. A late
-- reply that comes within the longest answer time is heard in that silence, and dropped.
use Rattle.std.specs.Prelude.{◌≡◌, ⊤, ◌⊎◌, ℕ, ◌+◌, Bool, true, false, Option, Some, List, []}
use Rattle.std.specs.Prelude.{Result}
use mathlib.Core.Logic.{inl, inr}
use Rattle.cct_edge.specs.declared.fault.Failed.{Failed}
use Rattle.cct_live_port.specs.declared.port.Port.{Port}
use Rattle.cct_live_port.specs.Calls.{FailsAt, FailsToSend, sending, unheard, unsent, waiting}
use Rattle.cct_live_port.specs.Port.{GivesUp, Gives, Hears, line_of, options_of, settled, silent_of}

module _ {L : Type 0} (reads : L → Option (List ℕ) → L → Type 0)
    (writes : L → List ℕ → Result (Unit {0}) Failed → L → Type 0) where
  -- The last calls on a line, at least so many, were reads that brought no byte.
  pub data HasBeenSilent : ℕ → L → Type 0 where
    unknown : (line : L) → HasBeenSilent 0 line
    silent_read : (count : ℕ) (line next : L) → HasBeenSilent count line → reads line (Some []) next
        → HasBeenSilent (count + 1) next

  -- What is done with a port from the first on: exchanges, and calls that change how it is used and
  -- leave its line alone.
  pub data Uses (first : Port L) : Port L → Type 0 where
    as_made : silent_of first ≡ 0 → Uses first first
    exchanged : (port next : Port L) (sent heard : List ℕ) → Uses first port
        → Gives reads writes port sent heard next → Uses first next
    set_anew : (port next : Port L) → Uses first port → line_of next ≡ line_of port → silent_of next
        ≡ silent_of port
        → Uses first next

  -- Calls that failed wrote nothing, or just before they wrote the line was silent for so many
  -- reads in a row.
  abbrev pub wrote_after : {already wanted : ℕ} {sent : List ℕ} {first last : L} → ℕ
      → FailsToSend reads writes already wanted sent first last → Type 0
  wrote_after count (waiting last unquiet) = ⊤
  wrote_after count (sending quiet last why waits wrote) = HasBeenSilent count quiet

  -- So it is of an exchange that failed.
  abbrev pub failed_after : {already wanted patience : ℕ} {sent before : List ℕ} {first last : L}
      {is_sent : Bool} → ℕ
      → FailsAt reads writes already wanted patience sent before first is_sent last → Type 0
  failed_after count (unsent last fails) = wrote_after count fails
  failed_after count (unheard asked last sends breaks) = HasBeenSilent count sends.quiet

  -- So it is of any exchange.
  abbrev pub went_after : {old new : Port L} {sent heard : List ℕ} → ℕ
      → Hears reads writes old sent heard new ⊎ GivesUp reads writes old sent heard new → Type 0
  went_after count (inl hears) = HasBeenSilent count hears.calls.sends.quiet
  went_after count (inr gives_up) = failed_after count gives_up.calls

  -- Whatever was done with a port: just before the next exchange writes, the line is silent for the
  -- longest answer time, or for the gap if the last exchange was answered. Silence ends with each
  -- byte that comes, each write, and each failure.
  abbrev pub EachSendFollowsSilence : Type 0
  EachSendFollowsSilence = (first port next : Port L) (sent heard : List ℕ) → Uses first port
      → (given : Gives reads writes port sent heard next)
      → (settled port ≡ false → went_after (options_of port).longest given.goes)
      × (settled port ≡ true → went_after (options_of port).gap given.goes)
