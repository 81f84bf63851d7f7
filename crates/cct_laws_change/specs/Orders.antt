-- The orders of a session of change: its payments that were opened. They are read off the steps and
-- their entries, beside what the desk knows.
use Rattle.std.specs.Prelude.{ℕ, List, [], ◌∷◌, ◌++◌, if◌then◌else◌, Option, Some, None}
use Rattle.std.specs.List.{list_any}
use Rattle.cct_model.specs.terms.device.Setup.{Setup}
use Rattle.cct_model.specs.lines.command.Step.{Step}
use Rattle.cct_model.specs.lines.command.Step.TheVariants as step
use Rattle.cct_model.specs.lines.entry.Entry.{Entry}
use Rattle.cct_model.specs.declared.change.Due.{Due}
use Rattle.cct_model.specs.declared.change.Payment.{Payment}
use Rattle.cct_model.specs.declared.change.Phase.{Phase}
use Rattle.cct_model.specs.declared.change.Phase.TheVariants.{Begun}
use Rattle.cct_model.specs.declared.change.Session.{Session}
use Rattle.cct_model.specs.Change.{Desk, clear_desk, is_opening}
use Rattle.cct_model.specs.Records.{records}
use Rattle.cct_laws_change.specs.Along.{AlongFrom}

-- The payment whose order is opened among the entries of a step, or none: only one whose job was
-- running before it.
abbrev pub opened_by : Payment → List Entry → Phase → List Payment
opened_by p news Begun = if list_any (is_opening p) (records news) then p ∷ [] else []
opened_by p news phase = []

-- The payment that is opened so among those that a session has to settle.
abbrev pub opened_due : List Entry → Option Due → List Payment
opened_due news None = []
opened_due news (Some due) = opened_by due.payment news due.phase

-- The payment of a session that is opened so.
abbrev pub opened_of : List Entry → Option Session → List Payment
opened_of news None = []
opened_of news (Some s) = opened_due news s.due

-- A session that begins has no orders; where one runs already, it keeps its own.
abbrev pub begun_anew : Option Session → List Payment → List Payment
begun_anew None orders = []
begun_anew (Some s) orders = orders

-- The orders of the session after a step and its entries, newest first.
abbrev pub orders_after : Step → List Entry → Desk → List Payment → List Payment
orders_after (step.Stock addr count) news desk orders = orders
orders_after (step.Change first amount) news desk orders = begun_anew desk.session orders
orders_after step.Serve news desk orders = orders
orders_after s news desk orders = opened_of news desk.session ++ orders

-- A run of these steps at the operator's desk comes to this past, newest entry first, to this desk,
-- and to these orders of its session.
abbrev pub ComesTo : ℕ → Setup → List Step → List Entry → Desk → List Payment → Type 0
ComesTo capacity setup steps past desk orders =
    AlongFrom orders_after capacity setup [] (clear_desk setup) [] steps past desk orders
