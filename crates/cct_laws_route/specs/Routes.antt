-- What the end of a `route` reports of the bill that was held.
use Rattle.std.specs.Prelude.{◌≡◌, ℕ, ◌≤◌, ◌==◌, List, [], ◌∷◌, if◌then◌else◌, Option, Some, None}
use Rattle.std.specs.Prelude.{⊤}
use Rattle.cct_model.specs.terms.device.DeviceSetup.{DeviceSetup}
use Rattle.cct_model.specs.terms.request.TheConstants.{STACK_CODE}
use Rattle.cct_model.specs.terms.request.Request.TheVariants.{RouteBill}
use Rattle.cct_model.specs.lines.command.Command.TheVariants as command
use Rattle.cct_model.specs.lines.command.WireFault.TheVariants.{Clear}
use Rattle.cct_model.specs.lines.entry.End.{End}
use Rattle.cct_model.specs.lines.entry.End.TheVariants.{Routed, RouteUnsure}
use Rattle.cct_model.specs.lines.entry.Entry.{Entry}
use Rattle.cct_model.specs.lines.entry.Entry.TheVariants as entry
use Rattle.cct_model.specs.Bill.{bill_held}
use Rattle.cct_model.specs.Exchange.{asked}
use Rattle.cct_model.specs.Honest.{IsHonestFault}
use Rattle.cct_model.specs.Job.{works, job}
use Rattle.cct_model.specs.Line.{Line, accepted}
use Rattle.cct_model.specs.Transcript.{pending, met, lines_of, doses_of}

-- What a bill of a place becomes by a way, as lines of its device: it is accepted by path 0 where
-- it is stacked. A bill that is given back is no line.
abbrev pub lines_by : ℕ → ℕ → List Line
lines_by way place =
    if way == STACK_CODE then accepted (record { place = place; path = 0 }) ∷ [] else []

-- An exchange after a past is the one of a `route`: it is of the device's own job, which is that of
-- a `route`, and it asks the device to route a bill by the way that was given.
pub record IsOfRoute (d : DeviceSetup) (past : List Entry) (addr : ℕ) (sent : List ℕ) : Type 0 where
  pub way : ℕ
  pub since : List Line
  pub is_here : addr ≡ d.addr
  pub job_is : job (lines_of d past) ≡ works (command.Route d.addr way) since
  pub asks : asked d.kind sent ≡ Some (RouteBill way)
  pub is_known : way ≤ STACK_CODE

-- It routes the bill that the device held before it: by way 1 this is accepted, and by way 0
-- nothing is. Then none is held.
pub record RoutesBill (d : DeviceSetup) (past : List Entry) (addr : ℕ) (sent piece : List ℕ)
    (way : ℕ) : Type 0 where
  pub place : ℕ
  pub held : bill_held (met d past) ≡ Some place
  pub does : doses_of d past sent ≡ lines_by way place
  pub empties : bill_held (met d (entry.Wire addr sent piece ∷ past)) ≡ None

-- A `route` ended `routed` after an exchange of its own; and if this was honest, it routed the bill
-- that was held.
abbrev pub IsRoutedAfter : DeviceSetup → List Entry → Type 0
IsRoutedAfter d (entry.Wire addr sent piece ∷ past) =
    (of : IsOfRoute d past addr sent) × (IsHonestFault (pending past) sent →
    RoutesBill d past addr sent piece of.way)
IsRoutedAfter d past = ⊥

-- A `route` ended `routeunsure` after an exchange of its own; and if no fault was set for this, no
-- bill was held.
abbrev pub IsUnsureAfter : DeviceSetup → List Entry → Type 0
IsUnsureAfter d (entry.Wire addr sent piece ∷ past) =
    (of : IsOfRoute d past addr sent) × (pending past ≡ Clear → bill_held (met d past) ≡ None)
IsUnsureAfter d past = ⊥

-- So it is of each end of a device's job that reports a `route`.
abbrev pub IsToldAfter : DeviceSetup → List Entry → End → Type 0
IsToldAfter d past Routed = IsRoutedAfter d past
IsToldAfter d past RouteUnsure = IsUnsureAfter d past
IsToldAfter d past end = ⊤

-- Each entry of an end at a device's address is so.
abbrev pub RouteEndsAt : DeviceSetup → List Entry → Entry → Type 0
RouteEndsAt d past (entry.Ended addr end) = addr ≡ d.addr → IsToldAfter d past end
RouteEndsAt d past e = ⊤

-- The end of a `route` for whose exchange no fault is set, beside the bill that is held before it.
abbrev pub end_of_route : Option ℕ → End
end_of_route None = RouteUnsure
end_of_route (Some place) = Routed
