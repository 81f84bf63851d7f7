-- The job of a scan, read off its lines since its command, newest first: which bytes it noted,
-- which addresses it polled, and which devices it lists.
use Rattle.std.specs.Prelude.{ℕ, suc, ◌==◌, ◌&&◌, ◌||◌, not, nat_le, Bool, true, false, List, []}
use Rattle.std.specs.Prelude.{◌∷◌, ◌++◌, map, find, if◌then◌else◌, Option, Some, None, is_some}
use Rattle.std.specs.Prelude.{option_and_then}
use Rattle.std.specs.List.{list_any}
use Rattle.cct_model.specs.terms.wire.TheConstants.{BROADCAST}
use Rattle.cct_model.specs.terms.wire.CheckKind.{CheckKind}
use Rattle.cct_model.specs.terms.wire.CheckKind.TheVariants.{Simple, Crc}
use Rattle.cct_model.specs.terms.request.Request.{Request}
use Rattle.cct_model.specs.terms.request.Request.TheVariants.{SimplePoll, AddressPoll}
use Rattle.cct_model.specs.terms.request.ReplyForm.TheVariants as form
use Rattle.cct_model.specs.lines.device_set.DeviceSet.{DeviceSet}
use Rattle.cct_model.specs.lines.entry.Listed.{Listed}
use Rattle.cct_model.specs.lines.entry.End.{End}
use Rattle.cct_model.specs.lines.entry.End.TheVariants as end_of
use Rattle.cct_model.specs.Message.{message}
use Rattle.cct_model.specs.DeviceSet.{all_addresses}
use Rattle.cct_model.specs.Exchange.{reply_from}
use Rattle.cct_model.specs.Line.{Line, scanned}

-- Two checks are the same.
abbrev pub same_check : CheckKind → CheckKind → Bool
same_check Simple Simple = true
same_check Crc Crc = true
same_check one other = false

-- A line polled an address under a check, and had a good echo.
abbrev pub echoes : CheckKind → ℕ → Line → Bool
echoes check addr (scanned other polled (Some rest)) = same_check check other && (polled == addr)
echoes check addr line = false

-- A line polled an address under the simple check, whatever was heard.
abbrev pub polls : ℕ → Line → Bool
polls addr (scanned Simple polled rest) = polled == addr
polls addr line = false

-- What followed the echo of a poll is the polled device's acknowledgement.
abbrev pub is_acknowledged : CheckKind → ℕ → Option (List ℕ) → Bool
is_acknowledged check addr rest = is_some
    (option_and_then (λ piece. option_and_then (reply_from form.Ack addr) (message check piece))
    rest)

-- A line polled an address under a check, and its device acknowledged that.
abbrev pub answers : CheckKind → ℕ → Line → Bool
answers check addr (scanned other polled rest) =
    same_check check other && (polled == addr) && is_acknowledged check addr rest
answers check addr line = false

-- The bytes that a line notes: those that follow the echo of an address poll.
abbrev pub noted_by : Line → List ℕ
noted_by (scanned check addr (Some rest)) = if addr == BROADCAST then rest else []
noted_by line = []

-- All bytes noted.
abbrev pub noted : List Line → List ℕ
noted [] = []
noted (line ∷ since) = noted_by line ++ noted since

-- An address of a device that is noted and isn't polled yet.
abbrev pub is_due : List Line → ℕ → Bool
is_due since addr = nat_le 2 addr && list_any (λ byte. byte == addr) (noted since)
    && not (list_any (polls addr) since)

-- The least such address, or none.
unfoldable pub next_due : List Line → Option ℕ
next_due since = find (is_due since) all_addresses

-- What a scan sends next: a poll of an address under a check; nothing where all is polled.
abbrev pub poll_due : Option ℕ → Option (CheckKind × ℕ)
poll_due None = None
poll_due (Some addr) = Some (Simple, addr)

-- After a poll under the simple check that wasn't acknowledged, the same address is polled under
-- the CRC; else the next due one under the simple check.
abbrev pub poll_after : List Line → Option (CheckKind × ℕ)
poll_after (scanned Simple addr rest ∷ since) =
    if not (addr == BROADCAST) && not (is_acknowledged Simple addr rest) then Some (Crc, addr) else
    poll_due (next_due (scanned Simple addr rest ∷ since))
poll_after since = poll_due (next_due since)

-- What a scan sends: the address poll under each check until its echo is good, then the polls of
-- the noted addresses.
unfoldable pub scan_row : List Line → Option (CheckKind × ℕ)
scan_row since =
    if not (list_any (echoes Simple 0) since) then Some (Simple, 0)
    else if not (list_any (echoes Crc 0) since) then Some (Crc, 0)
    else poll_after since

-- The request by which a scan polls an address: all devices at address 0, else one.
abbrev pub poll_of : ℕ → Request
poll_of addr = if addr == BROADCAST then AddressPoll else SimplePoll

-- One failed try more, where an address poll under a check had no good echo; any other line ends
-- what is counted.
abbrev pub scan_tries : CheckKind → List Line → ℕ
scan_tries check (scanned other addr None ∷ since) =
    if same_check check other && (addr == BROADCAST) then suc (scan_tries check since) else 0
scan_tries check since = 0

-- The set of the addresses that pass a test.
abbrev pub set_of : (ℕ → Bool) → DeviceSet
set_of test = record { members = map test all_addresses }

-- A device, at an address from 2, acknowledged a poll under a check.
abbrev pub found : CheckKind → List Line → ℕ → Bool
found check since addr = nat_le 2 addr && list_any (answers check addr) since

-- The devices that acknowledged a poll, by the check under which they did.
unfoldable pub listed_in : List Line → Listed
listed_in since = record { simple = set_of (found Simple since); crc = set_of (found Crc since) }

-- A scan without a row to send ends with its list.
abbrev pub end_by_row : List Line → Option (CheckKind × ℕ) → Option End
end_by_row since (Some poll) = None
end_by_row since None = Some (end_of.Listed (listed_in since))

-- The end of a scan after its newest line: the third failed try of an address poll in succession,
-- or the list where nothing is left to poll.
unfoldable pub end_of_scan : List Line → Option End
end_of_scan since =
    if (scan_tries Simple since == 3) || (scan_tries Crc since == 3) then Some end_of.NoAnswer else
    end_by_row since (scan_row since)
