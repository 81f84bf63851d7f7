-- What is reported of sessions of change, by what is known at the operator's desk.
use Rattle.std.specs.Prelude.{◌≡◌, ℕ, List, [], ◌∷◌, Option, Some, None, Result, Ok, Err, ⊤}
use Rattle.std.specs.Option.{option_map}
use Rattle.cct_model.specs.terms.device.Setup.{Setup}
use Rattle.cct_model.specs.lines.command.Step.{Step}
use Rattle.cct_model.specs.lines.command.Step.TheVariants as step
use Rattle.cct_model.specs.lines.entry.Entry.{Entry}
use Rattle.cct_model.specs.lines.entry.Entry.TheVariants as entry_of
use Rattle.cct_model.specs.declared.change.Payment.{Payment}
use Rattle.cct_model.specs.declared.change.Session.{Session}
use Rattle.cct_model.specs.AtDesk.{EntriesAtDesk}
use Rattle.cct_model.specs.Change.{Desk, desk_after, gone_on, session_after, short_entry}
use Rattle.cct_host_change.specs.Serving.{Asks}
use Rattle.cct_live_service.specs.declared.served.Served.{Served}
use Rattle.cct_live_service.specs.declared.served.Served.TheVariants as served
use Rattle.cct_live_service.specs.Told.{Answer, Told, entry, falls_short, operates, pay_of, pays}
use Rattle.cct_live_service.specs.Told.{refused_for, taken, withheld_for}

-- Both are so of what is reported.
abbrev pub Both : (List Told → Type 0) → (List Told → Type 0) → List Told → Type 0
Both One Other told = One told × Other told

-- The desk after an entry of a step that is none of its own. An attempt puts one record at most, so
-- what becomes of a payment is read off its entries one by one.
abbrev pub seen_at : Entry → Desk → Desk
seen_at e desk =
    record { session = option_map (session_after (e ∷ [])) desk.session; trays = desk.trays }

-- A step at the operator's desk.
abbrev pub IsOfDesk : Step → Type 0
IsOfDesk (step.Stock addr count) = ⊤
IsOfDesk (step.Change first amount) = ⊤
IsOfDesk step.Serve = ⊤
IsOfDesk s = ⊥

-- Such a step gives this entry there, as on the bench, whatever came before.
abbrev pub GivesAt : Desk → Step → Entry → Type 0
GivesAt desk s e =
    IsOfDesk s × ((capacity : ℕ) (setup : Setup) (past : List Entry) →
    EntriesAtDesk capacity setup past desk s (e ∷ []))

-- A session whose payments are settled.
abbrev pub settled : Session → Session
settled s = record { amount = s.amount; rest = s.rest; next = s.next; due = None }

-- The desk where a session waits for the answer to a payment, after that: the session goes on with
-- a payment that was taken, and else it is still to be reported that it falls short.
abbrev pub answered : Payment → Answer → Desk → Session → Desk
answered p taken desk s = gone_on (entry_of.Taken (pay_of p) ∷ []) desk.trays s
answered p (refused_for why) desk s = record { session = Some (settled s); trays = desk.trays }
answered p (withheld_for why) desk s = record { session = Some (settled s); trays = desk.trays }

-- The session at a desk, whose payments are settled, ends short by so much.
abbrev pub EndsShort : Option Session → ℕ → ℕ → Type 0
EndsShort None paid rest = ⊥
EndsShort (Some s) paid rest = (s.due ≡ None) × (entry_of.Short paid rest ≡ short_entry s)

-- The desk where its session is over.
abbrev pub ended : Desk → Desk
ended desk = record { session = None; trays = desk.trays }

-- What is reported goes by the desk, from one to another: the operator's steps give there what is
-- reported of them, a payment is the one that a `serve` asks for there, and one that isn't taken
-- ends the session.
abbrev pub AtDesk : Desk → Desk → List Told → Type 0
AtDesk desk last [] = last ≡ desk
AtDesk desk last (entry e ∷ told) = AtDesk (seen_at e desk) last told
AtDesk desk last (operates s e ∷ told) =
    GivesAt desk s e × AtDesk (desk_after s (e ∷ []) desk) last told
AtDesk desk last (pays p answer ∷ told) =
    (asked : Desk) × (asks : Asks desk asked p)
    × AtDesk (answered p answer asked asks.session) last told
AtDesk desk last (falls_short p paid rest ∷ told) =
    EndsShort desk.session paid rest × AtDesk (ended desk) last told
AtDesk desk last (what ∷ told) = AtDesk desk last told

-- What is reported has nothing to do with the desk: it leaves any as it is.
abbrev pub IsApart : List Told → Type 0
IsApart told = (desk : Desk) → AtDesk desk desk told

-- What is reported goes by the desk up to an answer: where a host keeps running, it is then this
-- one.
abbrev pub FollowsDesk : Result (Unit {0}) Served → Desk → Desk → List Told → Type 0
FollowsDesk (Ok done) old new told = AtDesk old new told
FollowsDesk (Err how) old new told = (last : Desk) × AtDesk old last told

-- And up to the end of a service.
abbrev pub FollowsTo : Served → Desk → Desk → List Told → Type 0
FollowsTo served.Unwritten = FollowsDesk (Err served.Unwritten)
FollowsTo served.Disk = FollowsDesk (Err served.Disk)
FollowsTo how = FollowsDesk (Ok tt)
