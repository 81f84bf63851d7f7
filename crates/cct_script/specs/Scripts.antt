-- How a script of any kind is read, line by line: the numbers and lengths of its lines, and its
-- end, which all kinds have in common.
use Rattle.std.specs.Prelude.{◌≡◌, ◌≤◌, ℕ, ◌+◌, ◌&&◌, nat_lt, Bool, List, [], ◌∷◌, ◌++◌, length}
use Rattle.std.specs.Prelude.{if◌then◌else◌, Option, Some, None, Result, Ok, Err}
use Rattle.std.specs.Borrow.{Bor}
use Rattle.std.specs.List.{slice_split, position}
use Rattle.std.specs.Io.KnownBytes.{Consumes}
use Rattle.cct_model_lines.specs.declared.entry.LineKind.{LineKind}
use Rattle.cct_model_lines.specs.declared.entry.LineKind.TheVariants as kind
use Rattle.cct_model_lines.specs.Script.{is_line_feed, most_bytes, most_lines}
use Rattle.cct_script.specs.declared.lines.LinesNo.{LinesNo}
use Rattle.cct_script.specs.declared.lines.LinesNo.TheVariants as no
use Rattle.cct_script.specs.declared.stops.ScriptStop.{ScriptStop}
use Rattle.cct_script.specs.declared.stops.ScriptStop.TheVariants as stop
use Rattle.cct_script.specs.Giving.{Standing}
use Rattle.cct_script.specs.Source.{to_come}

-- The next line has this number, one more than the lines given, and those are no more than a script
-- may have.
abbrev pub IsNext : ℕ → Standing → Type 0
IsNext number standing = (number ≡ standing.given + 1) × (number ≤ 1048577)

-- What an answer is to a script that hasn't ended: the line that is read next, or why it is read no
-- further.
abbrev pub before_end : Result (Option (List ℕ)) LinesNo → Result (List ℕ) ScriptStop
before_end (Ok (Some line)) = Ok line
before_end (Ok None) = Err (stop.Refused kind.Cut)
before_end (Err no.Cut) = Err (stop.Refused kind.Cut)
before_end (Err no.Long) = Err (stop.Refused kind.Long)
before_end (Err no.TooMany) = Err (stop.Refused kind.Lines)
before_end (Err no.Read) = Err stop.Unread

-- What an answer is after the line `end`, where nothing may follow.
abbrev pub behind_end : Result (Option (List ℕ)) LinesNo → Result (Unit {0}) ScriptStop
behind_end (Ok None) = Ok tt
behind_end (Err no.Read) = Err stop.Unread
behind_end answer = Err (stop.Refused kind.Trailing)

-- The bytes of a line that is read.
abbrev pub read_of : Result (Bor (List ℕ)) ScriptStop → Result (List ℕ) ScriptStop
read_of (Ok line) = Ok line.now
read_of (Err why) = Err why

-- A whole line with its number, where one that is neither past the end, nor one too many, nor too
-- long is this by its form.
abbrev pub tested : {Read : Type 0} → (LineKind → Read) → Bool → ℕ → List ℕ → Read → Read
tested refuses over number line form =
    if over then refuses kind.Trailing
    else if nat_lt most_lines number then refuses kind.Lines
    else if nat_lt most_bytes (length line) then refuses kind.Long
    else form

-- Why an unfinished line is refused, if it is, where the script is over or isn't.
abbrev pub unfinished_by : Bool → ℕ → List ℕ → Option LineKind
unfinished_by over number rest =
    if over then (if nat_lt 0 (length rest) then Some kind.Trailing else None)
    else if nat_lt most_lines number && nat_lt 0 (length rest) then Some kind.Lines
    else if nat_lt most_bytes (length rest) then Some kind.Long
    else Some kind.Cut

-- A kind of script: what its lines from a number on say, at a stage; whether a stage is over; what
-- a line is that is refused; the stage after a line; how the script goes on with a line; and what
-- it says where it says no more, with the kind of the line that is refused, if one is.
pub record Kind (Stage Read Script : Type 0) : Type 0 where
  pub says : ℕ → Stage → List (List ℕ) → Script
  pub is_over : Stage → Bool
  pub refuses : LineKind → Read
  pub after : Stage → Read → Stage
  pub goes_on : ℕ → Stage → Read → Script → Script
  pub closed : ℕ → Stage → Option LineKind → Script

-- of scripts of a kind
module _ {Stage Read Script : Type 0} (k : Kind Stage Read Script) where
  -- The first line of these bytes is this to the script, and the bytes after it are the rest,
  -- whatever follows.
  abbrev pub GoesOnIn : ℕ → Stage → List ℕ → Read → List ℕ → Type 0
  GoesOnIn number stage held read rest =
      (more : List ℕ) → k.says number stage (slice_split is_line_feed (held ++ more))
      ≡ k.goes_on number stage read
      (k.says (number + 1) (k.after stage read) (slice_split is_line_feed (rest ++ more)))

  -- The script says no more from here on, with these bytes and those to come: it has ended, or a
  -- line is refused.
  abbrev pub IsClosedIn : ℕ → Stage → Option LineKind → Option (List ℕ) → List ℕ → Type 0
  IsClosedIn number stage why left held =
      k.says number stage (slice_split is_line_feed (held ++ to_come left))
      ≡ k.closed number stage why

  -- Why these bytes are read no further: no line is whole yet, or the first line is refused.
  abbrev pub StopsIn : ℕ → Stage → ScriptStop → Option (List ℕ) → List ℕ → Type 0
  StopsIn number stage stop.Unread left held = position is_line_feed held ≡ None
  StopsIn number stage (stop.Refused why) left held = IsClosedIn number stage (Some why) left held

-- More bytes came from the source after those held, and then this holds of all of them.
abbrev pub WithMoreTaken : List ℕ → Option (List ℕ) → Option (List ℕ) → (List ℕ → Type 0) → Type 0
WithMoreTaken held left_before left P =
    (came : List ℕ) × Consumes left_before left came × P (held ++ came)
