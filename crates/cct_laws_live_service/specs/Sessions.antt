-- What is reported of sessions of change, against the coins that fell for their orders.
use Rattle.std.specs.Prelude.{ℕ, List, [], ◌∷◌, ◌++◌}
use Rattle.cct_model.specs.terms.device.Setup.{Setup}
use Rattle.cct_model.specs.lines.entry.Entry.{Entry}
use Rattle.cct_model.specs.declared.change.Payment.{Payment}
use Rattle.cct_model.specs.Change.{Desk, desk_after}
use Rattle.cct_host_change.specs.Serving.{Asks}
use Rattle.cct_laws_change.specs.Change.{IsPaid, IsToldRight, IsWithin}
use Rattle.cct_laws_change.specs.Orders.{opened_of, orders_after}
use Rattle.cct_live_service.specs.AtDesk.{answered, ended, seen_at}
use Rattle.cct_live_service.specs.Told.{Told, entry, falls_short, operates, pays}

-- What is reported from a desk on, of a session with these orders, shows it right by all coins that
-- fell in a world: they are worth its amount where it was served, and what is reported as paid
-- where it falls short; and they are never worth more than its amount.
abbrev pub TellsRight : Setup → List Entry → Desk → List Payment → List Told → Type 0
TellsRight setup world desk orders [] = IsWithin setup world orders desk.session
TellsRight setup world desk orders (entry e ∷ told) =
    IsWithin setup world orders desk.session
    × TellsRight setup world (seen_at e desk) (opened_of (e ∷ []) desk.session ++ orders) told
TellsRight setup world desk orders (operates s e ∷ told) =
    IsWithin setup world orders desk.session × IsToldRight setup world orders desk.session e
    × TellsRight setup world (desk_after s (e ∷ []) desk) (orders_after s (e ∷ []) desk orders) told
TellsRight setup world desk orders (pays p answer ∷ told) =
    IsWithin setup world orders desk.session × ((asked : Desk) × (asks : Asks desk asked p)
    × TellsRight setup world (answered p answer asked asks.session) orders told)
TellsRight setup world desk orders (falls_short p paid rest ∷ told) =
    IsWithin setup world orders desk.session × IsPaid setup world orders desk.session paid rest
    × TellsRight setup world (ended desk) orders told
TellsRight setup world desk orders (what ∷ told) = TellsRight setup world desk orders told
