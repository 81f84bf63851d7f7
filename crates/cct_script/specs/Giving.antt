-- What a reader of lines gives.
use Rattle.std.specs.Prelude.{◌≡◌, ℕ, ◌+◌, suc, ◌<◌, ◌≤◌, List, [], ◌∷◌, ◌++◌, length, Option, Some}
use Rattle.std.specs.Prelude.{None, Result}
use Rattle.std.specs.Prelude.{take, drop, Ok, Err}
use Rattle.std.specs.List.{position}
use Rattle.std.specs.Io.KnownBytes.{IsAtEnd}
use Rattle.cct_model_lines.specs.declared.entry.TheConstants.{MOST_LINE}
use Rattle.cct_model_lines.specs.Script.{is_line_feed, most_lines, most_bytes}
use Rattle.cct_script.specs.declared.lines.Line.{Line}
use Rattle.cct_script.specs.declared.lines.Line.TheVariants.{Text, End}
use Rattle.cct_script.specs.declared.lines.LinesNo.{LinesNo}
use Rattle.cct_script.specs.declared.lines.Lines.{Lines}
use Rattle.cct_script.specs.declared.lines.LinesNo.TheVariants as no
use Rattle.cct_script.specs.Window.{Fills}

-- What was taken and not yet given, and how many lines were given.
pub record Standing : Type 0 where
  pub held : List ℕ
  pub given : ℕ

-- No byte was taken, and no line was given.
abbrev pub none_given : Standing
none_given = record { held = []; given = 0 }

-- No line was given, and bytes came after those held.
abbrev pub Waits : Standing → Standing → Option (List ℕ) → Option (List ℕ) → Type 0
Waits old new left_before left = (new.given ≡ old.given) × Fills old.held new.held left_before left

-- The next line, none at the end of the input, or why there is no line to give.
abbrev pub Gives : Standing → Standing → Option (List ℕ) → Option (List ℕ) →
    Result (Option (List ℕ)) LinesNo → Type 0
Gives old new left_before left (Ok (Some line)) =
    (old.given < most_lines) × (new.given ≡ suc old.given) × (length line ≤ most_bytes)
    × (position is_line_feed line ≡ None) × Fills old.held (line ++ 10 ∷ new.held) left_before left
Gives old new left_before left (Ok None) =
    Waits old new left_before left × (new.held ≡ []) × IsAtEnd left
Gives old new left_before left (Err no.TooMany) =
    Waits old new left_before left × (most_lines ≤ old.given) × (1 ≤ length new.held)
Gives old new left_before left (Err no.Long) =
    Waits old new left_before left × (old.given < most_lines)
    × (position is_line_feed new.held ≡ None)
    × (length new.held ≡ MOST_LINE + 1)
Gives old new left_before left (Err no.Cut) =
    Waits old new left_before left × (old.given < most_lines)
    × (position is_line_feed new.held ≡ None)
    × (1 ≤ length new.held) × (length new.held < MOST_LINE + 1) × IsAtEnd left
Gives old new left_before left (Err no.Read) =
    Waits old new left_before left × (position is_line_feed new.held ≡ None)
    × (most_lines ≤ old.given → new.held ≡ [])

-- The bytes that an answer gives.
abbrev pub line_given : Result Line LinesNo → Result (Option (List ℕ)) LinesNo
line_given (Ok (Text line)) = Ok (Some line.now)
line_given (Ok End) = Ok None
line_given (Err why) = Err why

-- The line of so many bytes at the front of these.
abbrev pub line_in : List ℕ → Result (Option ℕ) LinesNo → Result (Option (List ℕ)) LinesNo
line_in bytes (Ok (Some len)) = Ok (Some (take len bytes))
line_in bytes (Ok None) = Ok None
line_in bytes (Err why) = Err why

-- How a reader of lines stands: the bytes of the last line are held no more.
abbrev pub standing_of : Lines → Standing
standing_of lines = record { held = drop lines.spent lines.buffer; given = lines.given }
