-- What a host sends to a bill acceptor, whatever the wire does: it routes a bill only in the job of
-- a `route`, and once.
use Rattle.std.specs.Prelude.{◌≡◌, ◌==◌, ℕ, suc, List, [], ◌∷◌, if◌then◌else◌, Option, Some, None}
use Rattle.std.specs.Prelude.{⊤}
use Rattle.cct_model.specs.terms.device.DeviceSetup.{DeviceSetup}
use Rattle.cct_model.specs.terms.request.Request.{Request}
use Rattle.cct_model.specs.terms.request.Request.TheVariants.{RouteBill}
use Rattle.cct_model.specs.lines.command.Command.{Command}
use Rattle.cct_model.specs.lines.command.Command.TheVariants as command
use Rattle.cct_model.specs.lines.entry.Entry.{Entry}
use Rattle.cct_model.specs.lines.entry.Entry.TheVariants as entry
use Rattle.cct_model.specs.Exchange.{asks_of}
use Rattle.cct_model.specs.Job.{Job, works, job}
use Rattle.cct_model.specs.Transcript.{lines_of}

-- One more, where a request routes a bill.
abbrev pub one_routed : Option Request → ℕ → ℕ
one_routed (Some (RouteBill way)) before = suc before
one_routed asked before = before

-- A count begins anew where a `route` is taken for the device at an address.
abbrev pub anew_taken : ℕ → Command → ℕ → ℕ
anew_taken addr (command.Route a way) before = if a == addr then 0 else before
anew_taken addr c before = before

-- How many requests to route a bill were sent to a device since a `route` was last taken for it, by
-- whatever job, and whether or not the device heard them. A start changes nothing in it.
abbrev pub routed_in : DeviceSetup → List Entry → ℕ
routed_in d [] = 0
routed_in d (entry.Taken c ∷ past) = anew_taken d.addr c (routed_in d past)
routed_in d (entry.Wire addr sent piece ∷ past) = one_routed (asks_of d sent) (routed_in d past)
routed_in d (e ∷ past) = routed_in d past

-- The way that a `route` was given whose job this is, or none.
abbrev pub way_at_work : Job → Option ℕ
way_at_work (works (command.Route addr way) since) = Some way
way_at_work at_work = None

-- A request routes a bill only in an exchange of the device's own job, and only by the way of the
-- `route` whose job that is, where none was sent since that was taken.
abbrev pub RoutedBy : DeviceSetup → ℕ → ℕ → Job → Option Request → Type 0
RoutedBy d addr sent at_work (Some (RouteBill way)) =
    (addr ≡ d.addr) × (sent ≡ 0) × (way_at_work at_work ≡ Some way)
RoutedBy d addr sent at_work asked = ⊤

-- No exchange, whoever's job makes it, sends a device another request to route a bill.
abbrev pub RoutedAt : DeviceSetup → List Entry → Entry → Type 0
RoutedAt d past (entry.Wire addr sent piece) =
    RoutedBy d addr (routed_in d past) (job (lines_of d past)) (asks_of d sent)
RoutedAt d past e = ⊤
