-- What a session of change met besides its own payments: what was there as it began, and what else
-- was asked for since. And when nothing of it hinders a payment.
use Rattle.std.specs.Prelude.{◌≡◌, ℕ, ◌+◌, ◌*◌, ◌<◌, ◌≤◌, false, List, [], ◌∷◌, ◌++◌, length}
use Rattle.std.specs.Prelude.{Option, None, ⊤}
use Rattle.std.specs.List.{All}
use Rattle.cct_model.specs.terms.device.DeviceSetup.{DeviceSetup}
use Rattle.cct_model.specs.terms.device.Setup.{Setup}
use Rattle.cct_model.specs.lines.command.Command.{Command}
use Rattle.cct_model.specs.lines.command.Command.TheVariants as command
use Rattle.cct_model.specs.lines.command.Step.{Step}
use Rattle.cct_model.specs.lines.command.Step.TheVariants as step
use Rattle.cct_model.specs.lines.entry.Entry.{Entry}
use Rattle.cct_model.specs.lines.entry.Entry.TheVariants as entry
use Rattle.cct_model.specs.declared.change.Session.{Session}
use Rattle.cct_model.specs.Change.{Desk, clear_desk}
use Rattle.cct_model.specs.Device.{IsHopper}
use Rattle.cct_model.specs.Exchange.{device_at, hopper_there}
use Rattle.cct_model.specs.Job.{address_of, free, job}
use Rattle.cct_model.specs.Money.{available}
use Rattle.cct_model.specs.Order.{order}
use Rattle.cct_model.specs.Records.{records}
use Rattle.cct_model.specs.Refusal.{held, last_id, need_for}
use Rattle.cct_model.specs.Script.{IsInRange}
use Rattle.cct_model.specs.Setup.{IsSoundSetup}
use Rattle.cct_model.specs.Transcript.{lines_of}
use Rattle.cct_laws.specs.Law.{IsOf}
use Rattle.cct_laws_change.specs.Along.{AlongFrom}
use Rattle.cct_laws_change.specs.Tally.{Tally, no_tally, tally_after}

-- Of the session that began last: its tally, all that was reported before it began, newest first,
-- and the commands that were taken since, newest first, but for its own payments. `told` is all
-- that was reported so far.
pub record Course : Type 0 where
  pub tally : Tally
  pub told : List Entry
  pub before : List Entry
  pub others : List Command

-- Before the first session.
abbrev pub no_course : Course
no_course = record { tally = no_tally; told = []; before = []; others = [] }

-- The commands that these entries report as taken.
abbrev pub commands_in : List Entry → List Command
commands_in [] = []
commands_in (entry.Taken c ∷ news) = c ∷ commands_in news
commands_in (e ∷ news) = commands_in news

-- A session that begins does so after all that was reported; where one runs already, it began where
-- it did.
abbrev pub begins_after : Step → Option Session → List Entry → List Entry → List Entry
begins_after (step.Change first amount) None told before = told
begins_after s session told before = before

-- The other commands after a step: none where a session begins; a payment that a `serve` makes is
-- none of them.
abbrev pub others_after : Step → Option Session → List Entry → List Command → List Command
others_after (step.Change first amount) None news others = []
others_after step.Serve session news others = others
others_after s session news others = commands_in news ++ others

-- The course after a step and its entries, newest first.
abbrev pub course_after : Step → List Entry → Desk → Course → Course
course_after s news desk c = record {
  tally = tally_after s news desk c.tally;
  told = news ++ c.told;
  before = begins_after s desk.session c.told c.before;
  others = others_after s desk.session news c.others;
}

-- A run of these steps at the operator's desk comes to this past, newest entry first, to this desk,
-- and to this course.
abbrev pub CoursesTo : ℕ → Setup → List Step → List Entry → Desk → Course → Type 0
CoursesTo capacity setup steps past desk course =
    AlongFrom course_after capacity setup [] (clear_desk setup) no_course steps past desk course

-- A command asks for nothing that a session's payments need: it is no payment and no sale, and no
-- hopper is identified by it.
abbrev pub IsUnrelated : Setup → Command → Type 0
IsUnrelated setup (command.Pay addr id count) = ⊥
IsUnrelated setup (command.Vend id price) = ⊥
IsUnrelated setup (command.Ident addr) = hopper_there (device_at setup.devices addr) ≡ false
IsUnrelated setup c = ⊤

-- How many records these commands want room for.
abbrev pub needs_in : Setup → List Command → ℕ
needs_in setup [] = 0
needs_in setup (c ∷ cs) = need_for (device_at setup.devices (address_of c)) c + needs_in setup cs

-- A session with this first id and this amount can begin: the amount is available, the id is above
-- the last one, and no hopper has a job or an open order.
pub record CanBegin (setup : Setup) (past : List Entry) (first amount : ℕ) : Type 0 where
  pub money : amount ≤ available setup past
  pub ids : last_id setup past < first
  pub clear : (d : DeviceSetup) → IsOf setup d → IsHopper d.body →
      (job (lines_of d past) ≡ free) × (order (lines_of d past) ≡ None)

-- So many payments of a session are left alone: it could begin; no other command that was taken
-- since asks for what they need; and the journal, which takes so many records, had room for two of
-- each payment, and for those of the others.
pub record AreLeftAlone (capacity : ℕ) (setup : Setup) (c : Course) (payments : ℕ) : Type 0 where
  pub began : CanBegin setup c.before c.tally.first c.tally.amount
  pub apart : All (IsUnrelated setup) c.others
  pub room :
      length (records c.before) + held setup c.before + needs_in setup c.others + 2 * payments
      ≤ capacity

-- A fact of each moment of each run at the operator's desk, of a sound setup, over any wire: of its
-- past, of the desk, and of its course. The steps are in range.
abbrev pub EachCourse : (ℕ → Setup → List Entry → Desk → Course → Type 0) → Type 0
EachCourse P =
    (capacity : ℕ) (setup : Setup) (steps : List Step) (past : List Entry) (desk : Desk)
    (course : Course) →
    IsSoundSetup setup → All IsInRange steps → CoursesTo capacity setup steps past desk course →
    P capacity setup past desk course
