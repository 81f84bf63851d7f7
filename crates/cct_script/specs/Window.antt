-- What the reader of lines holds, and what it found.
use Rattle.std.specs.Prelude.{◌≡◌, ℕ, ◌+◌, ◌<◌, List, ◌++◌, length, position, Option, Some, None}
use Rattle.std.specs.Prelude.{◌≤◌, ⊤}
use Rattle.std.specs.Io.KnownBytes.{Consumes, IsAtEnd}
use Rattle.cct_model_lines.specs.declared.entry.TheConstants.{MOST_LINE}
use Rattle.cct_model_lines.specs.Script.{is_line_feed, most_bytes}
use Rattle.cct_script.specs.declared.buffer.Held.{Held}
use Rattle.cct_script.specs.declared.buffer.Held.TheVariants.{Line, Long, Ended}

-- New bytes came after those held, and they are what the source gave.
abbrev pub Fills : List ℕ → List ℕ → Option (List ℕ) → Option (List ℕ) → Type 0
Fills old new left_before left =
    (more : List ℕ) × (new ≡ old ++ more) × Consumes left_before left more

-- What was found in the bytes held: a line of so many bytes before the first line feed; a line too
-- long to hold; or the end of the input, after bytes that are no whole line.
abbrev pub Finds : Held → List ℕ → Option (List ℕ) → Type 0
Finds (Line len) held left = position is_line_feed held ≡ Some len
Finds Long held left = (position is_line_feed held ≡ None) × (length held ≡ MOST_LINE + 1)
Finds Ended held left =
    (position is_line_feed held ≡ None) × (length held < MOST_LINE + 1) × IsAtEnd left

-- A line that was found is no longer than a line may be.
abbrev pub IsShort : Held → Type 0
IsShort (Line len) = len ≤ most_bytes
IsShort found = ⊤
