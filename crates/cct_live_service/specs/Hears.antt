-- What the program around a service has heard.
use Rattle.std.specs.Prelude.{ℕ, List, ◌++◌}
use Rattle.cct_model.specs.lines.entry.LineKind.{LineKind}

-- A refused line: its number, and why it is refused.
abbrev pub Refusal : Type 0
Refusal = ℕ × LineKind

-- By a relation of a program to what it has heard, newest first: whatever it had heard before, it
-- has now heard this more.
abbrev pub HearsMore : {O : Type 0} → (O → List Refusal → Type 0) → O → O → List Refusal → Type 0
HearsMore heard old new more =
    (before : List Refusal) → heard old before → heard new (more ++ before)
