-- What a source gives, whether or not it shows its bytes.
use Rattle.std.specs.Prelude.{◌≡◌, ℕ, List, [], Option, Some, None, ⊤}

-- The bytes still to come, as far as a source shows them: of a source that shows none, none.
abbrev pub to_come : Option (List ℕ) → List ℕ
to_come None = []
to_come (Some bytes) = bytes

-- These are the bytes that a source shows, where it shows any.
abbrev pub AreTold : Option (List ℕ) → List ℕ → Type 0
AreTold None bytes = ⊤
AreTold (Some told) bytes = bytes ≡ told

-- There are bytes, those that a source says where it shows any, and this holds of them.
abbrev pub OfBytes : Option (List ℕ) → (List ℕ → Type 0) → Type 0
OfBytes left P = (bytes : List ℕ) × AreTold left bytes × P bytes
