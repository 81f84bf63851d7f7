-- What an input says, line by line.
use Rattle.std.specs.Prelude.{◌≡◌, ◌≤◌, ◌<◌, ◌+◌, ◌-◌, ◌^◌, ◌⊎◌, ℕ, suc, List, [], ◌∷◌, ◌++◌}
use Rattle.std.specs.Prelude.{length, Option, Some, Result, Ok, Err, ⊤}
use Rattle.cct_model.specs.lines.command.TheConstants.{GREATEST_AMOUNT}
use Rattle.cct_model.specs.lines.entry.LineKind.{LineKind}
use Rattle.cct_model.specs.lines.entry.LineKind.TheVariants as kind
use Rattle.cct_model.specs.Script.{IsCommand, most_bytes}
use Rattle.cct_script.specs.declared.endless.TheConstants.{MOST_PASSED}
use Rattle.cct_script.specs.declared.lines.LinesNo.{LinesNo}
use Rattle.cct_script.specs.declared.lines.LinesNo.TheVariants as no
use Rattle.cct_script.specs.declared.live.LiveLine.TheVariants as says
use Rattle.cct_script.specs.Endless.{IsOneLine}
use Rattle.cct_live_service.specs.Input.{input_line}
use Rattle.cct_live_service.specs.declared.input.InputLine.{InputLine}
use Rattle.cct_live_service.specs.declared.input.InputLine.TheVariants as input
use Rattle.cct_live_service.specs.declared.served.Served.{Served}
use Rattle.cct_live_service.specs.declared.served.Served.TheVariants as served

-- What a line says, or why it says nothing.
abbrev pub Said : Type 0
Said = Result InputLine LineKind

-- A line without its line feed says this; a longer one than a line may be says nothing.
abbrev pub SaysText : List ℕ → Said → Type 0
SaysText line said =
    ((length line ≤ most_bytes) × (said ≡ input_line line))
    ⊎ ((most_bytes < length line) × (said ≡ Err kind.Long))

-- The next line of these bytes says this, and these come after it; or they end without a line feed,
-- and say nothing.
abbrev pub SaysNext : List ℕ → Said → List ℕ → Type 0
SaysNext bytes said rest =
    ((line : List ℕ) × IsOneLine line × (bytes ≡ line ++ 10 ∷ rest) × SaysText line said)
    ⊎ (IsOneLine bytes × (1 ≤ length bytes) × (said ≡ Err kind.Cut) × (rest ≡ []))

-- The lines of these bytes say this, newest first, and these come after them.
abbrev pub SaysLines : List ℕ → List Said → List ℕ → Type 0
SaysLines bytes [] rest = rest ≡ bytes
SaysLines bytes (said ∷ before) rest =
    (from : List ℕ) × SaysLines bytes before from × SaysNext from said rest

-- A line goes on for so long that it isn't passed over.
abbrev pub IsTooLong : List ℕ → Type 0
IsTooLong bytes =
    (line : List ℕ) × (rest : List ℕ) × (bytes ≡ line ++ rest) × IsOneLine line
    × (most_bytes + MOST_PASSED < length line)

-- An input ends so after this many lines, with these bytes still to come: none, or a line `end`; a
-- line that isn't passed over; or after 4,294,967,294 lines. What else ends a service isn't what
-- the input says.
abbrev pub EndsInput : Served → ℕ → List ℕ → Type 0
EndsInput served.Done many bytes =
    (bytes ≡ []) ⊎ ((rest : List ℕ) × SaysNext bytes (Ok (input.Host says.End)) rest)
EndsInput (served.Refused number why) many bytes =
    ((why ≡ kind.Long) × IsTooLong bytes) ⊎ ((why ≡ kind.Lines) × (many ≡ 2 ^ 32 - 2))
EndsInput how many bytes = ⊤

-- A line that can't be passed over is reported by its number.
abbrev pub IsNumbered : Served → ℕ → Type 0
IsNumbered (served.Refused number why) many = number ≡ suc many
IsNumbered how many = ⊤

-- What an input says before a service ends so: these lines, newest first, if it shows its bytes.
pub record Says (left : Option (List ℕ)) (lines : List Said) (how : Served) : Type 0 where
  pub numbered : IsNumbered how (length lines)
  pub all : (bytes : List ℕ) → left ≡ Some bytes
      → (rest : List ℕ) × SaysLines bytes lines rest × EndsInput how (length lines) rest

-- An input that shows its bytes said these lines, newest first; these bytes of it are held, and the
-- others are left.
abbrev pub HasSaid : Option (List ℕ) → List Said → List ℕ → Option (List ℕ) → Type 0
HasSaid left lines held now =
    (bytes : List ℕ) → left ≡ Some bytes → (rest : List ℕ) × (now ≡ Some rest)
    × SaysLines bytes lines (held ++ rest)

-- What comes next of an input that shows its bytes, from those held and left to those held and left
-- then: a line, or the end after so many lines.
abbrev pub ComesNext : ℕ → Result Said Served → List ℕ → Option (List ℕ) → List ℕ →
    Option (List ℕ) → Type 0
ComesNext number (Ok said) held left kept now =
    (bytes : List ℕ) → left ≡ Some bytes
    → (rest : List ℕ) × (now ≡ Some rest) × SaysNext (held ++ bytes) said (kept ++ rest)
ComesNext number (Err how) held left kept now =
    (many : ℕ) → suc many ≡ number
    → IsNumbered how many × ((bytes : List ℕ) → left ≡ Some bytes →
    EndsInput how many (held ++ bytes))

-- What a line says can be done: its numbers are in their ranges, and it doesn't end the service.
abbrev pub IsSayable : Said → Type 0
IsSayable (Ok (input.Host (says.Command c))) = IsCommand c
IsSayable (Ok (input.Host (says.Change first amount))) = (1 ≤ first) × (amount ≤ GREATEST_AMOUNT)
IsSayable (Ok (input.Host says.End)) = ⊥
IsSayable said = ⊤

-- What a line says, unless it ends the service.
abbrev pub unless_end : Said → Result Said Served
unless_end (Ok (input.Host says.End)) = Err served.Done
unless_end said = Ok said

-- How a service ends where no line is read any more.
abbrev pub stopped_by : ℕ → LinesNo → Served
stopped_by number no.Read = served.Unread
stopped_by number why = served.Refused number kind.Long

-- An end that the input brings.
abbrev pub IsOfInput : Served → Type 0
IsOfInput served.Done = ⊤
IsOfInput (served.Refused number why) = ⊤
IsOfInput served.Unread = ⊤
IsOfInput how = ⊥
