-- What a writer makes of a line.
use Rattle.std.specs.Prelude.{◌≡◌, ℕ, ◌+◌, ◌<◌, ◌≤◌, List, ◌++◌, length}
use Rattle.cct_model_lines.specs.declared.entry.TheConstants.{MOST_TEXT}
use Rattle.cct_text.specs.Joined.{joined}

-- A text was added at the end of a line, of so many bytes at most.
pub record Adds (old new added : List ℕ) (most : ℕ) : Type 0 where
  pub text : new ≡ old ++ added
  pub len : length new ≤ length old + most

-- A line is these fields, and has room for its line feed.
pub record HasFields (line : List ℕ) (fields : List (List ℕ)) : Type 0 where
  pub text : line ≡ joined 32 fields
  pub room : length line + 1 < MOST_TEXT
