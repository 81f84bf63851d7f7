-- How a session goes on is how it is served.
use Rattle.std.proofs.Common.{◌≡◌, ℕ, List, [], ◌∷◌, Option, Some, None, sym, ap, ◌∙◌, subst}
use Rattle.cct_model.specs.terms.device.Setup.{Setup}
use Rattle.cct_model.specs.lines.entry.Entry.{Entry}
use Rattle.cct_model.specs.lines.entry.Entry.TheVariants as entry
use Rattle.cct_model.specs.declared.change.Due.{Due}
use Rattle.cct_model.specs.declared.change.Phase.TheVariants.{Closed, Lost}
use Rattle.cct_model.specs.declared.change.Session.{Session}
use Rattle.cct_model.specs.declared.change.Tray.{Tray}
use Rattle.cct_model.specs.Change.{Desk, GoesOn, PaysNext, Serves, ServesDue, Settles, gone_on, served, served_by, served_due, settled, settled_trays}
use Rattle.cct_host_change.specs.declared.desk.Serving.{Serving}
use Rattle.cct_host_change.specs.declared.desk.Serving.TheVariants.{Idle, Wait, Odd, Served, Short, Pay}
use Rattle.cct_host_change.specs.Serving.{GoesOnBy, ServesBy}

-- a `serve` with these trays and this session goes on with those trays and that one, whose payments are settled
abbrev pub GoesOnWith : List Tray → Option Session → List Tray → Session → Type 0
GoesOnWith trays session left s =
    ((capacity : ℕ) (setup : Setup) (past news : List Entry) → GoesOn capacity setup past left s news
    → Serves capacity setup past trays session news)
    × ((news : List Entry) → served news trays session ≡ gone_on news left s)

-- where it has no payment to settle
pub with_none : (trays : List Tray) (session : Option Session) (s : Session) → session ≡ Some s → s.due ≡ None
    → GoesOnWith trays session trays s
with_none trays session s is due_is = (
  λ capacity setup past news goes. subst (λ o. Serves capacity setup past trays o news) (sym is)
      (subst (λ o. ServesDue capacity setup past trays s o news) (sym due_is) goes),
  λ news. ap (served news trays) is ∙ ap (served_by news trays s) due_is,
)

-- where it has one, whose order was closed or was never opened
module _ (trays : List Tray) (session : Option Session) (s : Session) (due : Due) (is : session ≡ Some s) (due_is : s.due ≡ Some due) where
  entries_with : (capacity : ℕ) (setup : Setup) (past news : List Entry) → Settles capacity setup past trays s due due.phase news
      → Serves capacity setup past trays session news
  entries_with capacity setup past news goes =
      subst (λ o. Serves capacity setup past trays o news) (sym is)
      (subst (λ o. ServesDue capacity setup past trays s o news) (sym due_is) goes)

  desk_with : (news : List Entry) → served news trays session ≡ served_due news trays s due due.phase
  desk_with news = ap (served news trays) is ∙ ap (served_by news trays s) due_is

  pub with_closed : (paid unpaid : ℕ) → due.phase ≡ Closed paid unpaid
      → GoesOnWith trays session (settled_trays due trays) (settled trays due s)
  with_closed paid unpaid phase_is = (
    λ capacity setup past news goes. entries_with capacity setup past news
        (subst (λ phase. Settles capacity setup past trays s due phase news) (sym phase_is) goes),
    λ news. desk_with news ∙ ap (served_due news trays s due) phase_is,
  )

  pub with_lost : due.phase ≡ Lost → GoesOnWith trays session (settled_trays due trays) (settled trays due s)
  with_lost phase_is = (
    λ capacity setup past news goes. entries_with capacity setup past news
        (subst (λ phase. Settles capacity setup past trays s due phase news) (sym phase_is) goes),
    λ news. desk_with news ∙ ap (served_due news trays s due) phase_is,
  )

pub serves_by : (result : Serving) (old new : Desk) (left : List Tray) (s : Session) → GoesOnWith old.trays old.session left s
    → GoesOnBy result left s new → ServesBy result old new
serves_by Idle old new left s comes goes = absurd goes
serves_by (Wait addr) old new left s comes goes = absurd goes
serves_by (Odd id) old new left s comes goes = absurd goes
serves_by (Served amount) old new left s comes goes = record {
  entries = λ capacity setup past. comes.0 capacity setup past _ (goes.entries capacity setup past);
  desk = goes.desk ∙ sym (comes.1 (entry.Served amount ∷ []));
}
serves_by (Short shortfall) old new left s comes goes = record {
  entries = λ capacity setup past. comes.0 capacity setup past _ (goes.entries capacity setup past);
  desk = goes.desk ∙ sym (comes.1 (entry.Short shortfall.paid shortfall.rest ∷ []));
}
serves_by (Pay p) old new left s comes goes = record {
  session = s;
  runs = ap (λ desk. desk.session) goes.desk;
  id = goes.id;
  some = goes.some;
  next = subst (λ desk. PaysNext desk.trays s p) (sym goes.desk) goes.next;
  entries = λ capacity setup past. comes.0 capacity setup past _ (goes.entries capacity setup past);
  desk = λ news. comes.1 news ∙ ap (λ desk. gone_on news desk.trays s) (sym goes.desk);
}
