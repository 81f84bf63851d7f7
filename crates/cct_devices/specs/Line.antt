-- What devices say on a line.
use Rattle.std.specs.Prelude.{◌≡◌, ℕ, List, [], ◌∷◌, Result, Ok}
use Rattle.cct_edge.specs.declared.fault.Failed.{Failed}

-- These bytes are said on a line, in one call; nothing is done there where they are none.
abbrev pub Says : {L : Type 0} → (L → List ℕ → Result (Unit {0}) Failed → L → Type 0) → L → List ℕ →
    L → Type 0
Says writes old [] new = new ≡ old
Says writes old (byte ∷ bytes) new = writes old (byte ∷ bytes) (Ok tt) new
