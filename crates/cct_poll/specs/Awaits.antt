-- A host that awaits what is heard after a piece.
use Rattle.std.specs.Prelude.{◌≡◌, ℕ, List, Option, None, Some, ⊤}
use Rattle.std.proofs.Props.{props}
use Rattle.cct_host.specs.declared.desks.Desks.{Desks}
use Rattle.cct_host.specs.Desks.{sending_on}
use Rattle.cct_host.specs.Held.{piece_of}

-- The piece that was sent at an address, if one was of which it isn't said yet what was heard, is
-- the request that the job there sends next.
abbrev pub Awaits : Option ℕ → Desks → List ℕ → Type 0
Awaits None desks piece = ⊤
Awaits (Some addr) desks piece = piece_of (sending_on desks addr) ≡ Some piece

-- This has one proof at most.
pub Awaits-prop : (asked : Option ℕ) (desks : Desks) (piece : List ℕ) →
    IsProp (Awaits asked desks piece)
Awaits-prop None desks piece = hlevel props
Awaits-prop (Some addr) desks piece = hlevel props
