-- One call after another: what they take, what they append, and whether a count rose.
use Rattle.std.proofs.Common.{ℕ, ◌≤◌, List, [], ◌++◌, Option, Some, None, refl, arith, rules}
use Rattle.std.specs.Io.KnownBytes.{Appends, Consumes}
use Rattle.std.proofs.lemmas.List.{append_assoc}
use Rattle.cct_edge.specs.Bytes.{AppendsFront}
use Rattle.cct_edge.specs.Faults.{Rose}

-- a call that takes nothing leaves what was there
pub Consumes-nil : (a : Option (List ℕ)) → Consumes a a []
Consumes-nil None = tt
Consumes-nil (Some us) = refl

-- two calls take what the first took and then what the second took
pub Consumes-trans : (a b c : Option (List ℕ)) (xs ys : List ℕ) → Consumes a b xs → Consumes b c ys →
    Consumes a c (xs ++ ys)
Consumes-trans None b c xs ys h k = tt
Consumes-trans (Some us) None c xs ys h k = absurd h
Consumes-trans (Some us) (Some vs) None xs ys h k = absurd k
Consumes-trans (Some us) (Some vs) (Some ws) xs ys h k = rw (h, k, append_assoc)

-- a call that appends nothing leaves what was there
pub Appends-nil : (a : Option (List ℕ)) → Appends a a []
Appends-nil None = tt
Appends-nil (Some us) = search rules

-- two calls append what the first appended and then what the second appended
pub Appends-trans : (a b c : Option (List ℕ)) (xs ys : List ℕ) → Appends a b xs → Appends b c ys →
    Appends a c (xs ++ ys)
Appends-trans None b c xs ys h k = tt
Appends-trans (Some us) None c xs ys h k = absurd h
Appends-trans (Some us) (Some vs) None xs ys h k = absurd k
Appends-trans (Some us) (Some vs) (Some ws) xs ys h k = rw (k, h, append_assoc)

-- a whole piece and then a front of the next are a front of the two
pub Appends-then_front : (a b c : Option (List ℕ)) (xs ys : List ℕ) → Appends a b xs → AppendsFront b c ys →
    AppendsFront a c (xs ++ ys)
Appends-then_front a b c xs ys h k =
    (xs ++ k.0, k.1, rw (k.2, append_assoc), Appends-trans a b c xs k.0 h k.3)

-- a count that rose has still risen later
pub Rose-later : (a b c : ℕ) → Rose a b → b ≤ c → Rose a c
Rose-later a b c h k = omega arith

-- a count that rose has risen since any earlier moment
pub Rose-earlier : (a b c : ℕ) → a ≤ b → Rose b c → Rose a c
Rose-earlier a b c h k = omega arith
