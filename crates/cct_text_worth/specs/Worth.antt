-- The value that the identification of a coin shows.
use Rattle.std.specs.Prelude.{ℕ, ◌+◌, ◌-◌, ◌*◌, ◌==◌, ◌&&◌, nat_le, not, Bool, List, [], ◌∷◌}
use Rattle.std.specs.Prelude.{if◌then◌else◌, Option, Some, None}
use Rattle.cct_model_lines.specs.Grammar.{◌>>=◌}

-- The number that a digit spells.
abbrev pub digit_told : ℕ → Option ℕ
digit_told byte = if nat_le 48 byte && nat_le byte 57 then Some (byte - 48) else None

-- The number that two digits spell.
abbrev pub two_told : ℕ → ℕ → Option ℕ
two_told tens ones = do
  t ← digit_told tens
  o ← digit_told ones
  Some (10 * t + o)

-- The number that three digits spell.
abbrev pub three_told : ℕ → ℕ → ℕ → Option ℕ
three_told hundreds tens ones = do
  h ← digit_told hundreds
  rest ← two_told tens ones
  Some (100 * h + rest)

-- So many times a number.
abbrev pub times : ℕ → Option ℕ → Option ℕ
times factor (Some number) = Some (factor * number)
times factor None = None

-- The number that three figures spell: K (75) is a point before thousands, M (77) one before
-- millions.
abbrev pub figures_told : ℕ → ℕ → ℕ → Option ℕ
figures_told a b c =
    if a == 75 then times 10 (two_told b c)
    else if b == 75 then times 100 (two_told a c)
    else if c == 75 then times 1000 (two_told a b)
    else if a == 77 then times 10000 (two_told b c)
    else if b == 77 then times 100000 (two_told a c)
    else if c == 77 then times 1000000 (two_told a b)
    else three_told a b c

-- A capital letter.
abbrev pub is_capital : ℕ → Bool
is_capital byte = nat_le 65 byte && nat_le byte 90

-- Two capital letters are those of a country; TK (84, 75) is no country.
abbrev pub is_country : ℕ → ℕ → Bool
is_country first second =
    is_capital first && is_capital second && not ((first == 84) && (second == 75))

-- A value in the range of a coin's or a bill's.
abbrev pub in_range : ℕ → Option ℕ
in_range value = if nat_le 1 value && nat_le value 1000000 then Some value else None

-- The value that six characters show: a country, three figures and an issue.
abbrev pub value_told : List ℕ → Option ℕ
value_told (first ∷ second ∷ a ∷ b ∷ c ∷ issue ∷ []) =
    if is_country first second then figures_told a b c >>= in_range else None
value_told id = None

-- The number that four digits spell.
abbrev pub bill_figures : ℕ → ℕ → ℕ → ℕ → Option ℕ
bill_figures a b c d = do
  front ← two_told a b
  rest ← two_told c d
  Some (100 * front + rest)

-- The value of a bill under a scaling factor: a country, four digits and an issue.
abbrev pub bill_value : List ℕ → ℕ → Option ℕ
bill_value (first ∷ second ∷ a ∷ b ∷ c ∷ d ∷ issue ∷ []) factor =
    if is_country first second then bill_figures a b c d >>=
    (λ figures. in_range (factor * figures)) else None
bill_value id factor = None
