-- What is heard of a line on which nobody answers.
use Rattle.std.specs.Prelude.{ℕ, ◌==◌, ◌||◌, Bool, List, length, bytes_eq}

-- Nothing was heard, or just the echo of what was sent.
abbrev pub is_bare : List ℕ → List ℕ → Bool
is_bare sent heard = (length heard == 0) || bytes_eq heard sent
