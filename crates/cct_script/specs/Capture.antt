-- What a line of a capture says: the devices that a monitor is to watch, and what a logger of the
-- wire heard.
use Rattle.std.specs.Prelude.{◌≤◌, ℕ, Bool, true, false, List, [], ◌∷◌, length, if◌then◌else◌}
use Rattle.std.specs.Prelude.{Option, Some, None, Result, Ok, Err, codes, bytes_eq, ⊤}
use Rattle.std.specs.Option.{ok_or}
use Rattle.std.specs.List.{slice_split}
use Rattle.cct_model_lines.specs.terms.wire.TheConstants.{MOST_HEARD, MOST_SENT}
use Rattle.cct_model_lines.specs.declared.entry.LineKind.{LineKind}
use Rattle.cct_model_lines.specs.declared.entry.LineKind.TheVariants as kind
use Rattle.cct_model_lines.specs.Grammar.{◌>>=◌, alone, check_in, is_space, piece_in, ranged}
use Rattle.cct_script.specs.declared.capture.CaptureLine.{CaptureLine}
use Rattle.cct_script.specs.declared.capture.CaptureLine.TheVariants as says

-- The family that a field names: whether it is that of the acceptors.
abbrev pub acceptor_in : List ℕ → Option Bool
acceptor_in field =
    if bytes_eq field (codes "acceptor") then Some true
    else if bytes_eq field (codes "hopper") then Some false
    else None

-- Bytes that are some.
abbrev pub some_bytes : List ℕ → Option (List ℕ)
some_bytes [] = None
some_bytes (byte ∷ bytes) = Some (byte ∷ bytes)

-- What was sent, as a field spells it in hexadecimal: 1 to 260 bytes, so a hyphen spells none.
abbrev pub sent_in : List ℕ → Option (List ℕ)
sent_in field = piece_in MOST_SENT field >>= some_bytes

-- `watch A CHECK KIND`
abbrev pub watch_form : List (List ℕ) → Option CaptureLine
watch_form (a ∷ c ∷ k ∷ []) = do
  addr ← ranged 2 255 a
  check ← check_in c
  acceptor ← acceptor_in k
  Some (says.Watch addr check acceptor)
watch_form fields = None

-- `tap SENT HEARD`
abbrev pub tap_form : List (List ℕ) → Option CaptureLine
tap_form (s ∷ h ∷ []) = do
  sent ← sent_in s
  heard ← piece_in MOST_HEARD h
  Some (says.Tap sent heard)
tap_form fields = None

-- A line before `begin` of this word and these fields after it.
abbrev pub watch_word : List ℕ → List (List ℕ) → Result CaptureLine LineKind
watch_word word fields =
    if bytes_eq word (codes "watch") then ok_or (watch_form fields) kind.Form
    else if bytes_eq word (codes "begin") then ok_or (alone says.Begin fields) kind.Form
    else Err kind.Word

-- A line after `begin` of this word and these fields after it.
abbrev pub tap_word : List ℕ → List (List ℕ) → Result CaptureLine LineKind
tap_word word fields =
    if bytes_eq word (codes "tap") then ok_or (tap_form fields) kind.Form
    else if bytes_eq word (codes "end") then ok_or (alone says.End fields) kind.Form
    else Err kind.Word

-- Its fields, the first one its word.
abbrev pub capture_fields : Bool → List (List ℕ) → Result CaptureLine LineKind
capture_fields begun [] = Err kind.Word
capture_fields begun (word ∷ fields) =
    if begun then tap_word word fields else watch_word word fields

-- What a line says, without its line feed, before or after `begin`; or why it is refused.
unfoldable pub capture_line : Bool → List ℕ → Result CaptureLine LineKind
capture_line begun line = capture_fields begun (slice_split is_space line)

-- The numbers of a line are in their ranges.
abbrev pub IsCaptureLine : CaptureLine → Type 0
IsCaptureLine (says.Watch addr check acceptor) = 2 ≤ addr
IsCaptureLine (says.Tap sent heard) =
    (1 ≤ length sent) × (length sent ≤ MOST_SENT) × (length heard ≤ MOST_HEARD)
IsCaptureLine line = ⊤
