-- What is right of the desk of the operator at any time.
use Rattle.std.specs.Prelude.{◌<◌, ◌≤◌, Option, Some, None, ⊤}
use Rattle.std.specs.List.{All}
use Rattle.cct_model.specs.declared.change.Session.{Session}
use Rattle.cct_model.specs.Change.{Desk}

-- The next payment of the session that runs has an id, which is at least 1.
abbrev pub HasNextId : Option Session → Type 0
HasNextId None = ⊤
HasNextId (Some s) = 1 ≤ s.next

-- The desk is right: so are the ids of its payments, and the address of each tray is a byte.
pub record IsRightDesk (desk : Desk) : Type 0 where
  pub next : HasNextId desk.session
  pub addresses : All (λ t. t.addr < 256) desk.trays
