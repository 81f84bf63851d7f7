-- How many payments a session made, and what bounds them. They are read off the steps and their
-- entries, beside what the desk knows.
use Rattle.std.specs.Prelude.{◌≡◌, ℕ, zero, suc, ◌+◌, ◌≤◌, ◌==◌, ◌&&◌, Bool, true, false, List, []}
use Rattle.std.specs.Prelude.{◌∷◌, Option, Some, None}
use Rattle.std.specs.List.{All}
use Rattle.std.specs.Option.{IfSome}
use Rattle.cct_model.specs.terms.device.Setup.{Setup}
use Rattle.cct_model.specs.lines.command.Step.{Step}
use Rattle.cct_model.specs.lines.command.Step.TheVariants as step
use Rattle.cct_model.specs.lines.entry.Entry.{Entry}
use Rattle.cct_model.specs.lines.entry.Entry.TheVariants as entry
use Rattle.cct_model.specs.declared.change.Due.{Due}
use Rattle.cct_model.specs.declared.change.Phase.{Phase}
use Rattle.cct_model.specs.declared.change.Phase.TheVariants.{Begun, Opened, Closed}
use Rattle.cct_model.specs.declared.change.Session.{Session}
use Rattle.cct_model.specs.declared.change.Tray.{Tray}
use Rattle.cct_model.specs.Change.{Desk, clear_desk}
use Rattle.cct_model.specs.Plan.{IsPlan}
use Rattle.cct_model.specs.Script.{IsInRange}
use Rattle.cct_model.specs.Setup.{IsSoundSetup}
use Rattle.cct_laws_change.specs.Along.{AlongFrom}

-- Of the session that began last: its first id, its amount, and the trays as it began; how many
-- later steps reported a stock above 0, and how many payments it made. It goes smoothly as long as
-- no stock is reported, and each payment that is settled was closed with all its coins paid.
pub record Tally : Type 0 where
  pub first : ℕ
  pub amount : ℕ
  pub trays : List Tray
  pub refills : ℕ
  pub made : ℕ
  pub smooth : Bool

-- Before the first session.
abbrev pub no_tally : Tally
no_tally = record { first = 0; amount = 0; trays = []; refills = 0; made = 0; smooth = true }

-- One for a stock above 0.
abbrev pub one_filled : ℕ → ℕ
one_filled zero = 0
one_filled (suc stock) = 1

-- How many of these trays aren't empty.
abbrev pub filled_in : List Tray → ℕ
filled_in [] = 0
filled_in (t ∷ ts) = one_filled t.stock + filled_in ts

-- How many of these entries say that a command was taken.
abbrev pub taken_in : List Entry → ℕ
taken_in [] = 0
taken_in (entry.Taken c ∷ news) = suc (taken_in news)
taken_in (e ∷ news) = taken_in news

-- A payment that a `serve` finds so isn't settled by it, or was closed with all its coins paid.
abbrev pub is_whole : Phase → Bool
is_whole Begun = true
is_whole Opened = true
is_whole (Closed paid unpaid) = unpaid == 0
is_whole phase = false

-- So is the last payment, if there is one.
abbrev pub is_whole_by : Option Due → Bool
is_whole_by None = true
is_whole_by (Some due) = is_whole due.phase

-- So is the last payment of a session, if it has one.
abbrev pub is_whole_in : Option Session → Bool
is_whole_in None = true
is_whole_in (Some s) = is_whole_by s.due

-- A session that begins has made no payment; where one runs already, it goes on.
abbrev pub tally_begun : ℕ → ℕ → List Tray → Option Session → Tally → Tally
tally_begun first amount trays None t =
    record { first = first; amount = amount; trays = trays; refills = 0; made = 0; smooth = true }
tally_begun first amount trays (Some s) t = t

-- The tally after a step and its entries, newest first. A payment that a `serve` makes is a command
-- that it gives.
abbrev pub tally_after : Step → List Entry → Desk → Tally → Tally
tally_after (step.Stock addr count) news desk t = record {
  first = t.first;
  amount = t.amount;
  trays = t.trays;
  refills = t.refills + one_filled count;
  made = t.made;
  smooth = false;
}
tally_after (step.Change first amount) news desk t =
    tally_begun first amount desk.trays desk.session t
tally_after step.Serve news desk t = record {
  first = t.first;
  amount = t.amount;
  trays = t.trays;
  refills = t.refills;
  made = t.made + taken_in news;
  smooth = t.smooth && is_whole_in desk.session;
}
tally_after s news desk t = t

-- A run of these steps at the operator's desk comes to this past, newest entry first, to this desk,
-- and to this tally.
abbrev pub TalliesTo : ℕ → Setup → List Step → List Entry → Desk → Tally → Type 0
TalliesTo capacity setup steps past desk tally =
    AlongFrom tally_after capacity setup [] (clear_desk setup) no_tally steps past desk tally

-- One for a payment that isn't settled.
abbrev pub unsettled : Option Due → ℕ
unsettled None = 0
unsettled (Some due) = 1

-- The most payments that a session makes: as many as its amount has units, one for each tray that
-- wasn't empty as it began, and one for each later step that reported a stock above 0.
abbrev pub most_made : Tally → ℕ
most_made t = t.amount + filled_in t.trays + t.refills

-- A session makes few payments. While it runs, those that it made, what is left of its amount, and
-- the trays that aren't empty are together at most as many, with one more while a payment isn't
-- settled.
pub record MakesFew (desk : Desk) (tally : Tally) : Type 0 where
  pub all : tally.made ≤ most_made tally
  pub running : IfSome desk.session (λ s.
      tally.made + s.rest + filled_in desk.trays ≤ most_made tally + unsettled s.due)

-- The amount has a plan.
abbrev pub HasPlan : List Tray → ℕ → Type 0
HasPlan trays amount = (counts : List ℕ) × IsPlan trays amount counts

-- A session went smoothly, and the `serve` that comes next finds it so.
abbrev pub IsSmooth : Desk → Tally → Type 0
IsSmooth desk t = (t.smooth && is_whole_in desk.session) ≡ true

-- A fact of each moment of each run at the operator's desk, of a sound setup, over any wire: of its
-- past, of the desk, and of its tally. The steps are in range.
abbrev pub EachTally : (ℕ → Setup → List Entry → Desk → Tally → Type 0) → Type 0
EachTally P =
    (capacity : ℕ) (setup : Setup) (steps : List Step) (past : List Entry) (desk : Desk)
    (tally : Tally) →
    IsSoundSetup setup → All IsInRange steps → TalliesTo capacity setup steps past desk tally →
    P capacity setup past desk tally
