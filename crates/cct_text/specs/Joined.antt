-- Texts put together, as they are written one after the other.
use Rattle.std.specs.Prelude.{ℕ, List, [], ◌∷◌, ◌++◌, flat_map, Option, Some, None}

-- Texts, each after a byte.
abbrev pub each_after : ℕ → List (List ℕ) → List ℕ
each_after byte texts = flat_map (λ text. byte ∷ text) texts

-- A first text, and the others each after a byte.
abbrev pub joined : ℕ → List (List ℕ) → List ℕ
joined byte [] = []
joined byte (text ∷ texts) = text ++ each_after byte texts

-- Texts, the first after one byte and the others after another.
abbrev pub apart : ℕ → ℕ → List (List ℕ) → List ℕ
apart before between [] = []
apart before between (text ∷ texts) = before ∷ text ++ each_after between texts

-- A text after a separator, where there is one.
abbrev pub found : ℕ → Option (List ℕ) → List ℕ
found separator None = []
found separator (Some text) = separator ∷ text

-- The separator after a text, where there is one, that is after a separator: a comma, or the same
-- one where there is none.
abbrev pub separator_past : ℕ → Option (List ℕ) → ℕ
separator_past separator None = separator
separator_past separator (Some text) = 44
