-- Today's bodies have bytes that those of versions 1 and 2 hadn't. With 0 put in there, an old body
-- is today's of the same record or entry.
use Rattle.std.specs.Prelude.{◌≡◌, ℕ, ◌-◌, ◌==◌, List, ◌++◌, replicate, take, drop, slice_index}
use Rattle.std.specs.Prelude.{if◌then◌else◌}

-- How many bytes today's body of a kind has more.
abbrev pub added : ℕ → ℕ
added kind =
    if kind == 1 then 3 else if kind == 2 then 5 else if kind == 3 then 6 else if kind
    == 12 then 3 else 0

-- And from which place on.
abbrev pub added_at : ℕ → ℕ
added_at kind =
    if kind == 1 then 4 else if kind == 2 then 4 else if kind == 3 then 5 else if kind
    == 12 then 5 else 0

-- A body with so many bytes 0 put in at a place; as many at its end go.
abbrev pub widen : ℕ → ℕ → List ℕ → List ℕ
widen at many body = take at body ++ (replicate many 0 ++ drop at (take (31 - many) body))

-- An old body as one of today.
abbrev pub today : List ℕ → List ℕ
today body = widen (added_at (slice_index body 0)) (added (slice_index body 0)) body

-- The bytes that go are 0.
abbrev pub HasRoom : List ℕ → Type 0
HasRoom body =
    drop (31 - added (slice_index body 0)) body ≡ replicate (added (slice_index body 0)) 0
