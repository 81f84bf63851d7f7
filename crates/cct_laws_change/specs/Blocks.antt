-- When a session of change ends: blocks of a `serve` and the steps in which the job of its payment
-- ends.
use Rattle.std.specs.Prelude.{◌≡◌, ℕ, ◌≤◌, Bool, true, false, List, [], ◌∷◌, ◌++◌, Option, Some}
use Rattle.std.specs.Prelude.{None, ⊤}
use Rattle.std.specs.List.{All, list_any}
use Rattle.cct_model.specs.terms.device.DeviceSetup.{DeviceSetup}
use Rattle.cct_model.specs.terms.device.Setup.{Setup}
use Rattle.cct_model.specs.lines.command.Command.TheVariants as command
use Rattle.cct_model.specs.lines.command.Step.{Step}
use Rattle.cct_model.specs.lines.command.Step.TheVariants as step
use Rattle.cct_model.specs.lines.entry.Entry.{Entry}
use Rattle.cct_model.specs.lines.entry.Entry.TheVariants as entry
use Rattle.cct_model.specs.declared.change.Due.{Due}
use Rattle.cct_model.specs.declared.change.Payment.{Payment}
use Rattle.cct_model.specs.declared.change.Phase.{Phase}
use Rattle.cct_model.specs.declared.change.Phase.TheVariants.{Begun, Opened}
use Rattle.cct_model.specs.declared.change.Session.{Session}
use Rattle.cct_model.specs.AtDesk.{EntriesAtDesk}
use Rattle.cct_model.specs.Change.{Desk, desk_after}
use Rattle.cct_model.specs.Exchange.{device_at}
use Rattle.cct_model.specs.Script.{IsInRange}
use Rattle.cct_laws.specs.Ending.{AlwaysFindsNoneLeft, IsUndisturbed, nexts_at, nexts_needed}
use Rattle.cct_laws_change.specs.Along.{AlongFrom}
use Rattle.cct_laws_change.specs.Course.{AreLeftAlone, Course}
use Rattle.cct_laws_change.specs.Tally.{Tally, is_whole_in}

-- A payment is waited for: its job is running, or its order is open.
abbrev pub IsWaiting : Phase → Type 0
IsWaiting Begun = ⊤
IsWaiting Opened = ⊤
IsWaiting phase = ⊥

-- No payment is waited for.
abbrev pub IsReadyBy : Option Due → Type 0
IsReadyBy None = ⊤
IsReadyBy (Some due) = IsWaiting due.phase → ⊥

-- A session runs, and no payment of it is waited for: the next `serve` pays, or ends it.
abbrev pub IsReady : Option Session → Type 0
IsReady None = ⊥
IsReady (Some s) = IsReadyBy s.due

-- The steps between two moments let the job of a payment end: they have a `next` for each of its
-- rows, and one for each halt; no fault is set for its exchanges, the power isn't cut while it
-- runs, and whenever the hopper is asked how its payout goes, no coin is left to pay.
abbrev pub LetsEnd : Setup → Payment → List Step → List Entry → List Entry → Type 0
LetsEnd setup p steps past end =
    (d : DeviceSetup) → device_at setup.devices p.addr ≡ Some d →
    (nexts_needed d (command.Pay p.addr p.id p.count) steps ≤ nexts_at d.addr steps)
    × IsUndisturbed d.addr past end × AlwaysFindsNoneLeft d past end

-- So they do for the payment that a session made last, if there is one.
abbrev pub LetsEndBy : Setup → Option Due → List Step → List Entry → List Entry → Type 0
LetsEndBy setup None steps past end = ⊤
LetsEndBy setup (Some due) steps past end = LetsEnd setup due.payment steps past end

-- So they do for the payment that a session made last, if one runs.
abbrev pub LetsPaymentEnd : Setup → Option Session → List Step → List Entry → List Entry → Type 0
LetsPaymentEnd setup None steps past end = ⊤
LetsPaymentEnd setup (Some s) steps past end = LetsEndBy setup s.due steps past end

-- A step is in range, and no `serve`.
abbrev pub IsBetween : Step → Type 0
IsBetween step.Serve = ⊥
IsBetween s = IsInRange s

-- A past, a desk and what is kept beside them go on by blocks, and end as these. Each is a `serve`,
-- and then steps that let the job of its payment end, if it made one; and this is wanted of it: of
-- the entries of its `serve`, of its steps, and of the desk and of what is kept after it.
abbrev pub InBlocks :
    {A : Type 0} → (Step → List Entry → Desk → A → A) →
    (List Entry → List Step → Desk → A → Type 0) → ℕ → Setup →
    List Entry → Desk → A → List (List Step) → List Entry → Desk → A → Type 0
InBlocks after Wanted capacity setup past desk kept [] end last found =
    (end ≡ past) × (last ≡ desk) × (found ≡ kept)
InBlocks {A} after Wanted capacity setup past desk kept (block ∷ blocks) end last found =
    (news : List Entry) × EntriesAtDesk capacity setup past desk step.Serve news
    × All IsBetween block
    × (later : List Entry) × (then_desk : Desk) × (left : A)
    × AlongFrom after capacity setup (news ++ past) (desk_after step.Serve news desk)
    (after step.Serve news desk kept)
    block later then_desk left
    × LetsPaymentEnd setup (desk_after step.Serve news desk).session block (news ++ past) later
    × Wanted news block then_desk left
    × InBlocks after Wanted capacity setup later then_desk left blocks end last found

-- Of any block.
abbrev pub AnyBlock : List Entry → List Step → Desk → Tally → Type 0
AnyBlock news block desk tally = ⊤

-- An entry says that a command was refused.
abbrev pub is_refusal : Entry → Bool
is_refusal (entry.No c why) = true
is_refusal e = false

-- A step shows no stock.
abbrev pub IsNoStock : Step → Type 0
IsNoStock (step.Stock addr count) = ⊥
IsNoStock s = ⊤

-- A block of a session of so many payments goes smoothly: no stock is reported, a payment that is
-- settled after it was closed with all its coins paid, and the payments are left alone.
pub record IsSmoothBlock (capacity : ℕ) (setup : Setup) (payments : ℕ) (news : List Entry)
    (block : List Step) (desk : Desk)
    (course : Course) : Type 0 where
  pub unstocked : All IsNoStock block
  pub whole : is_whole_in desk.session ≡ true
  pub alone : AreLeftAlone capacity setup course payments

-- An entry shows the end of a session: that it was served, that it fell short, or that life counts
-- don't fit its order.
abbrev pub is_session_end : Entry → Bool
is_session_end (entry.Served amount) = true
is_session_end (entry.Short paid rest) = true
is_session_end (entry.ServeOdd id) = true
is_session_end e = false

-- A past goes on to another, and the end of a session is reported between them.
abbrev pub TellsEnd : List Entry → List Entry → Type 0
TellsEnd past end =
    (news : List Entry) × (end ≡ news ++ past) × (list_any is_session_end news ≡ true)

-- And there that a session was served.
abbrev pub is_service : Entry → Bool
is_service (entry.Served amount) = true
is_service e = false

-- A past goes on to another, and that a session was served is reported between them.
abbrev pub TellsService : List Entry → List Entry → Type 0
TellsService past end =
    (news : List Entry) × (end ≡ news ++ past) × (list_any is_service news ≡ true)
