-- What a reader of endless lines gives.
use Rattle.std.specs.Prelude.{◌≡◌, ℕ, ◌+◌, ◌<◌, ◌≤◌, Bool, true, false, List, [], ◌∷◌, ◌++◌, length}
use Rattle.std.specs.Prelude.{Option, Result, Ok, Err, take, drop, ⊤}
use Rattle.std.specs.List.{All}
use Rattle.std.specs.Io.KnownBytes.{IsAtEnd}
use Rattle.cct_model_lines.specs.Script.{is_line_feed, most_bytes}
use Rattle.cct_script.specs.declared.endless.EndlessLines.{EndlessLines}
use Rattle.cct_script.specs.declared.endless.Found.{Found}
use Rattle.cct_script.specs.declared.endless.Found.TheVariants as found
use Rattle.cct_script.specs.declared.endless.NextLine.{NextLine}
use Rattle.cct_script.specs.declared.endless.NextLine.TheVariants as next
use Rattle.cct_script.specs.declared.endless.TheConstants.{MOST_PASSED}
use Rattle.cct_script.specs.declared.lines.LinesNo.{LinesNo}
use Rattle.cct_script.specs.declared.lines.LinesNo.TheVariants as no
use Rattle.cct_script.specs.Window.{Fills}

-- What comes next in an input: a line that isn't too long, one that is, the end within a line, or
-- the end.
pub data Given : Type 0 where
  text : (line : List ℕ) → Given
  long : Given
  cut : Given
  ended : Given

-- Bytes without a line feed.
abbrev pub IsOneLine : List ℕ → Type 0
IsOneLine line = All (λ byte. is_line_feed byte ≡ false) line

-- The bytes up to and with the first line feed are given up, and the others are left; or there is
-- none, and all are.
abbrev pub DropsLine : List ℕ → List ℕ → Bool → Type 0
DropsLine old new true = (line : List ℕ) × IsOneLine line × (old ≡ line ++ 10 ∷ new)
DropsLine old new false = IsOneLine old × (new ≡ [])

-- What comes next after the bytes held, and what is held then. A line ends with its line feed, and
-- has 1,200 bytes at most or is too long. The input was cut within one, or ended after one. Or the
-- source failed, or a line goes on for so long, and nothing is said of what is held.
abbrev pub GivesNext : List ℕ → List ℕ → Option (List ℕ) → Option (List ℕ) → Result Given LinesNo →
    Type 0
GivesNext held kept left_before left (Ok (text line)) =
    (length line ≤ most_bytes) × IsOneLine line × Fills held (line ++ 10 ∷ kept) left_before left
GivesNext held kept left_before left (Ok long) =
    (line : List ℕ) × (most_bytes < length line) × IsOneLine line
    × Fills held (line ++ 10 ∷ kept) left_before left
GivesNext held kept left_before left (Ok cut) =
    (line : List ℕ) × (1 ≤ length line) × IsOneLine line × Fills held line left_before left
    × (kept ≡ [])
    × IsAtEnd left
GivesNext held kept left_before left (Ok ended) =
    Fills held [] left_before left × (kept ≡ []) × IsAtEnd left
GivesNext held kept left_before left (Err no.Read) =
    (line : List ℕ) × IsOneLine line × Fills held line left_before left
GivesNext held kept left_before left (Err why) =
    (line : List ℕ) × (most_bytes + MOST_PASSED < length line) × IsOneLine line
    × Fills held line left_before left

-- What was found in the bytes held.
abbrev pub found_given : List ℕ → Result Found LinesNo → Result Given LinesNo
found_given held (Ok (found.Text len)) = Ok (text (take len held))
found_given held (Ok found.Long) = Ok long
found_given held (Ok found.Cut) = Ok cut
found_given held (Ok found.End) = Ok ended
found_given held (Err why) = Err why

-- What an answer gives.
abbrev pub next_given : Result NextLine LinesNo → Result Given LinesNo
next_given (Ok (next.Text line)) = Ok (text line.now)
next_given (Ok next.Long) = Ok long
next_given (Ok next.Cut) = Ok cut
next_given (Ok next.End) = Ok ended
next_given (Err why) = Err why

-- The bytes held: those of the last line are held no more.
abbrev pub held_of : EndlessLines → List ℕ
held_of lines = drop lines.spent lines.buffer

-- A line that was found is within the bytes held.
abbrev pub FitsIn : List ℕ → Found → Type 0
FitsIn held (found.Text len) = len ≤ length held
FitsIn held found = ⊤

-- No line was found that isn't too long.
abbrev pub IsNoText : Found → Type 0
IsNoText (found.Text len) = ⊥
IsNoText found = ⊤

-- Bytes were left at the end of the input, or none.
abbrev pub EndsWith : List ℕ → Found → Type 0
EndsWith held found.Cut = 1 ≤ length held
EndsWith held found.End = held ≡ []
EndsWith held found = ⊥
