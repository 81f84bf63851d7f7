-- What a capture says: the devices that are watched, the taps, and the first line that is refused
-- (docs/AUDIT.md).
use Rattle.std.specs.Prelude.{ℕ, ◌+◌, ◌-◌, ◌==◌, ◌||◌, nat_le, Bool, true, false, List, [], ◌∷◌}
use Rattle.std.specs.Prelude.{length, take, drop, if◌then◌else◌, Option, Some, None, Result, Ok}
use Rattle.std.specs.Prelude.{Err, codes, bytes_eq}
use Rattle.std.specs.List.{list_any, slice_split}
use Rattle.std.specs.Option.{option_map}
use Rattle.cct_model.specs.terms.wire.CheckKind.{CheckKind}
use Rattle.cct_model.specs.terms.wire.CheckKind.TheVariants.{Simple, Crc}
use Rattle.cct_model.specs.lines.entry.LineKind.{LineKind}
use Rattle.cct_model.specs.lines.entry.LineKind.TheVariants as kind
use Rattle.cct_model.specs.Grammar.{ranged}
use Rattle.cct_model.specs.Script.{Refusal, is_line_feed, refusal_at}
use Rattle.cct_script.specs.declared.capture.CaptureLine.{CaptureLine}
use Rattle.cct_script.specs.declared.capture.CaptureLine.TheVariants as says
use Rattle.cct_script.specs.Capture.{capture_line}
use Rattle.cct_script.specs.Scripts.{Kind, tested, unfinished_by}
use Rattle.cct_audit_taps.specs.declared.money.Money.{Money}
use Rattle.cct_audit_taps.specs.declared.money.Money.TheVariants.{Coins, Bills}
use Rattle.cct_monitor.specs.declared.watched.Family.{Family}
use Rattle.cct_monitor.specs.declared.watched.Family.TheVariants as family
use Rattle.cct_monitor.specs.declared.places.TheConstants.{WATCHED}
use Rattle.cct_audit_taps.specs.Taps.{tap_of}
use Rattle.cct_monitor.specs.Watches.{Came, made_tap, made_watch}
use Rattle.cct_audit.specs.declared.opening.Manner.{Manner}
use Rattle.cct_audit.specs.declared.opening.Manner.TheVariants as manner
use Rattle.cct_audit.specs.declared.opening.WatchLine.{WatchLine}
use Rattle.cct_audit.specs.declared.opening.WatchLine.TheVariants as opens_by

-- Which line a capture wants next: one that watches a device, after those that came, newest first;
-- a tap; or none.
pub data Stage : Type 0 where
  watching : (past : List Came) → Stage
  tapping : Stage
  over : Stage

-- The capture has ended.
abbrev pub is_over : Stage → Bool
is_over over = true
is_over stage = false

-- What a line is to a capture: something comes, it goes on, or it is refused.
pub data Read : Type 0 where
  comes : (c : Came) (next : Stage) → Read
  opens : (next : Stage) → Read
  refuses : (why : LineKind) → Read

-- The addresses of the devices that are watched.
abbrev pub addresses_in : List Came → List ℕ
addresses_in [] = []
addresses_in (made_watch w ∷ past) = w.addr ∷ addresses_in past
addresses_in (made_tap t ∷ past) = addresses_in past

-- A device can't be watched: its address is one of these, or they are as many as there may be.
abbrev pub is_refused : List ℕ → ℕ → Bool
is_refused addrs addr = list_any (λ a. a == addr) addrs || nat_le WATCHED (length addrs)

-- `watch A CHECK KIND` or `begin`.
abbrev pub plain_line : Result CaptureLine LineKind → Result WatchLine LineKind
plain_line (Err why) = Err why
plain_line (Ok (says.Watch addr check acceptor)) =
    Ok (opens_by.Watch addr check (if acceptor then family.Acceptor else family.Hopper))
plain_line (Ok says.Begin) = Ok opens_by.Begin
plain_line (Ok line) = Err kind.Word

-- The family of an acceptor of this money that is watched in a manner.
abbrev pub family_in : Manner → Money → Family
family_in manner.Quiet money = family.QuietAcceptor money
family_in manner.Premises money = family.Premises money

-- `watch A CHECK hopper`, where a word for a manner follows: a hopper is watched for premises
-- alone.
abbrev pub hopper_form : Manner → ℕ → CheckKind → Result WatchLine LineKind
hopper_form manner.Quiet addr check = Err kind.Form
hopper_form manner.Premises addr check = Ok (opens_by.Watch addr check family.HopperPremises)

-- The same or `watch A CHECK acceptor`, where such a word follows.
abbrev pub mannered_form : Manner → Result CaptureLine LineKind → Result WatchLine LineKind
mannered_form m (Err why) = Err why
mannered_form m (Ok (says.Watch addr check true)) =
    Ok (opens_by.Watch addr check (family_in m Coins))
mannered_form m (Ok (says.Watch addr check false)) = hopper_form m addr check
mannered_form m (Ok line) = Err kind.Form

-- `watch A CHECK bills`, where such a word follows, by `watch A` and the check.
abbrev pub bills_at : Manner → CheckKind → List ℕ → Option WatchLine
bills_at m check named =
    if bytes_eq (take 6 named) (codes "watch ")
    then option_map (λ addr. opens_by.Watch addr check (family_in m Bills))
    (ranged 2 255 (drop 6 named))
    else None

-- By what is before the word `bills`.
abbrev pub bills_under : Manner → List ℕ → Option WatchLine
bills_under m checked =
    if bytes_eq (drop (length checked - 7) checked) (codes " simple") then bills_at m Simple (take (length checked - 7) checked)
    else if bytes_eq (drop (length checked - 4) checked) (codes " crc") then bills_at m Crc (take (length checked - 4) checked)
    else None

-- By what is before the word for the manner.
abbrev pub bills_line : Manner → List ℕ → Option WatchLine
bills_line m front =
    if bytes_eq (drop (length front - 6) front) (codes " bills") then bills_under m (take (length front - 6) front) else None

-- What was found, or else this.
abbrev pub found_or : Option WatchLine → Result WatchLine LineKind → Result WatchLine LineKind
found_or None other = other
found_or (Some found) other = Ok found

-- A line whose last word is for a manner, by what is before that.
abbrev pub mannered_watch : Manner → List ℕ → Result WatchLine LineKind
mannered_watch m front = found_or (bills_line m front) (mannered_form m (capture_line false front))

-- What a line says before `begin`; its last word may be `quiet` or `premises`.
abbrev pub watch_line : List ℕ → Result WatchLine LineKind
watch_line line =
    if bytes_eq (drop (length line - 6) line) (codes " quiet")
    then mannered_watch manner.Quiet (take (length line - 6) line)
    else if bytes_eq (drop (length line - 9) line) (codes " premises")
    then mannered_watch manner.Premises (take (length line - 9) line)
    else plain_line (capture_line false line)

-- What a line is before `begin`: a device is watched, where it can be; or the taps begin.
abbrev pub watch_read : List Came → Result WatchLine LineKind → Read
watch_read past (Err why) = refuses why
watch_read past (Ok (opens_by.Watch addr check fam)) =
    if is_refused (addresses_in past) addr then refuses kind.Device
    else comes (made_watch (record { addr = addr; kind = check; family = fam }))
    (watching (made_watch (record { addr = addr; kind = check; family = fam }) ∷ past))
watch_read past (Ok opens_by.Begin) = opens tapping

-- What a line is after `begin`: a tap, or the end.
abbrev pub tap_read : Result CaptureLine LineKind → Read
tap_read (Err why) = refuses why
tap_read (Ok (says.Tap sent heard)) = comes (made_tap (tap_of sent heard)) tapping
tap_read (Ok says.End) = opens over
tap_read (Ok line) = refuses kind.Word

-- A whole line, by its word and its form.
unfoldable pub capture_form : Stage → List ℕ → Read
capture_form (watching past) line = watch_read past (watch_line line)
capture_form tapping line = tap_read (capture_line true line)
capture_form over line = refuses kind.Trailing

-- A whole line with its number.
abbrev pub capture_read : ℕ → Stage → List ℕ → Read
capture_read number stage line =
    tested refuses (is_over stage) number line (capture_form stage line)

-- The stage after a line.
abbrev pub stage_after : Stage → Read → Stage
stage_after stage (comes c next) = next
stage_after stage (opens next) = next
stage_after stage (refuses why) = stage

-- What a capture says: all that comes of it, oldest first, up to its end or its first refused line;
-- and that line if there is one.
pub record Capture : Type 0 where
  pub came : List Came
  pub refused : Option Refusal

-- A capture that says no more: its end was read, or a line is refused.
abbrev pub closed_capture : ℕ → Option LineKind → Capture
closed_capture number why = record { came = []; refused = refusal_at number why }

-- A line, and what the lines after it say.
abbrev pub goes_on : ℕ → Stage → Read → Capture → Capture
goes_on number stage (comes c next) rest = record { came = c ∷ rest.came; refused = rest.refused }
goes_on number stage (opens next) rest = rest
goes_on number stage (refuses why) rest = closed_capture number (Some why)

-- What the lines from this number on say: whole lines, and last the bytes after the last line feed.
abbrev pub capture_from : ℕ → Stage → List (List ℕ) → Capture
capture_from number stage [] = closed_capture number (unfinished_by (is_over stage) number [])
capture_from number stage (rest ∷ []) =
    closed_capture number (unfinished_by (is_over stage) number rest)
capture_from number stage (line ∷ next ∷ parts) =
    goes_on number stage (capture_read number stage line)
    (capture_from (number + 1) (stage_after stage (capture_read number stage line)) (next ∷ parts))

-- Captures, as a kind of script.
abbrev pub of_capture : Kind Stage Read Capture
of_capture = record {
  says = capture_from;
  is_over = is_over;
  refuses = refuses;
  after = stage_after;
  goes_on = goes_on;
  closed = λ number stage why. closed_capture number why;
}

-- What the bytes of a capture say.
unfoldable pub capture : List ℕ → Capture
capture bytes = capture_from 1 (watching []) (slice_split is_line_feed bytes)
