use Rattle.std.proofs.Common.{◌≡◌, List, None, take}
use Rattle.cct_model.specs.lines.entry.Entry.{Entry}
use Rattle.cct_host.specs.Host.{Keeps, setup_of}
use Rattle.cct_host.specs.Standing.{order_at}
use Rattle.cct_live_service.specs.Reported.{first_in, open_by}
use Rattle.cct_live_service.proofs.commands.open_order.Given as goal

-- The order isn't open at the devices that were looked at.
abbrev pub invariant-loop-device : goal.invariant-loop-device
invariant-loop-device g l =
    (past : List Entry) → Keeps l.fn.host past
    → first_in (λ d. open_by l.id d.addr (order_at (setup_of l.fn.host) past d.addr))
    (take l.device-index (setup_of l.fn.host).devices) ≡ None
