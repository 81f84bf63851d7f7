-- The echo: what the host hears of its own bytes, since the wire is shared.
use Rattle.std.specs.Prelude.{ℕ, ◌+◌, ◌==◌, List, [], ◌∷◌, if◌then◌else◌}

-- The first place at which what was heard differs from what was sent, or ends; places count from 0.
abbrev pub echo_place : List ℕ → List ℕ → ℕ
echo_place [] heard = 0
echo_place (s ∷ sent) [] = 0
echo_place (s ∷ sent) (h ∷ heard) = if s == h then echo_place sent heard + 1 else 0
