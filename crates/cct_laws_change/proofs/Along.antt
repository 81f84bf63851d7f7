-- What is kept beside a run at the operator's desk: what each step keeps holds at its end, and each
-- run has it at each of its moments.
use Rattle.std.proofs.Common.{List, [], ◌∷◌, ◌++◌, ℕ, refl, sym, ◌∙◌, subst, append_assoc, All, ◌≡◌}
use Rattle.std.proofs.lemmas.List.Elements.{All-head, All-nil, All-push, All-tail}
use Rattle.cct_model.specs.terms.device.Setup.{Setup}
use Rattle.cct_model.specs.lines.command.Step.{Step}
use Rattle.cct_model.specs.lines.command.Step.TheVariants as step
use Rattle.cct_model.specs.lines.entry.Entry.{Entry}
use Rattle.cct_model.specs.AtDesk.{AtDeskFrom, EntriesAtDesk}
use Rattle.cct_model.specs.Change.{Desk, clear_desk, desk_after}
use Rattle.cct_model.specs.Legal.{LegalFrom}
use Rattle.cct_model.specs.Script.{IsInRange}
use Rattle.cct_model.specs.Setup.{IsSoundSetup}
use Rattle.cct_laws.specs.Desks.{IsRightDesk}
use Rattle.cct_laws.proofs.steps.AtTheDesk.{clear_right, entries_legal, right_after}
use Rattle.cct_laws.proofs.steps.OneMore.{legal_from}
use Rattle.cct_laws_change.specs.Along.{AlongFrom}
use Rattle.cct_laws_change.proofs.Serving.{served_trays}
use Rattle.cct_laws_change.proofs.Trays.{AreTrays, clear_trays, restocked_trays}

-- of every run, after each front of its steps, there is a moment at which it goes on, with what is kept there
pub moment_from : {A : Type 0} (after : Step → List Entry → Desk → A → A) (capacity : ℕ) (setup : Setup)
    (before : List Entry) (began : Desk) (kept : A) (played rest : List Step) (end : List Entry) (last : Desk) →
    AtDeskFrom capacity setup before began (played ++ rest) end last →
    (past : List Entry) × (desk : Desk) × (found : A)
    × AlongFrom after capacity setup before began kept played past desk found
    × AtDeskFrom capacity setup past desk rest end last
moment_from after capacity setup before began kept [] rest end last told =
    (before, began, kept, (refl, refl, refl), told)
moment_from after capacity setup before began kept (s ∷ played) rest end last told =
    let later = moment_from after capacity setup (told.0 ++ before) (desk_after s told.0 began)
    (after s told.0 began kept) played rest end last told.2 in
    (later.0, later.1, later.2, (told.0, told.1, later.3), later.4)

-- what a run has come to, whatever is kept: its past is legal, and the desk is right
pub record Stands (capacity : ℕ) (setup : Setup) (past : List Entry) (desk : Desk) : Type 0 where
  pub steps : List Step
  pub in_range : All IsInRange steps
  pub legal : LegalFrom capacity setup [] steps past
  pub right : IsRightDesk desk
  pub trays : AreTrays setup desk.trays

step_trays : (setup : Setup) (s : Step) (news : List Entry) (desk : Desk) → AreTrays setup desk.trays →
    AreTrays setup (desk_after s news desk).trays
step_trays setup (step.Stock addr count) news desk are = restocked_trays setup addr (λ before. count) desk.trays are
step_trays setup (step.Change first amount) news desk are = are
step_trays setup step.Serve news desk are = served_trays setup news desk.trays desk.session are
step_trays setup s news desk are = are

pub stands_clear : (capacity : ℕ) (setup : Setup) → IsSoundSetup setup → Stands capacity setup [] (clear_desk setup)
stands_clear capacity setup sound = record {
  steps = [];
  in_range = All-nil IsInRange;
  legal = refl;
  right = clear_right setup sound;
  trays = clear_trays setup sound;
}

pub stands_on : (capacity : ℕ) (setup : Setup) (past news : List Entry) (desk : Desk) (s : Step) → IsInRange s →
    EntriesAtDesk capacity setup past desk s news → Stands capacity setup past desk →
    Stands capacity setup (news ++ past) (desk_after s news desk)
stands_on capacity setup past news desk s range gives at = record {
  steps = at.steps ++ s ∷ [];
  in_range = All-push IsInRange at.steps s at.in_range range;
  legal = legal_from capacity setup [] at.steps past s news at.legal
      (entries_legal capacity setup past desk s news at.right gives);
  right = right_after s news desk range at.right;
  trays = step_trays setup s news desk at.trays;
}

-- what each step keeps of a past, a desk and what is kept beside them
abbrev pub Keeps : {A : Type 0} → (Step → List Entry → Desk → A → A) → ℕ → Setup → (List Entry → Desk → A → Type 0) → Type 0
Keeps {A} after capacity setup P =
    (past news : List Entry) (desk : Desk) (kept : A) (s : Step) → IsInRange s →
    EntriesAtDesk capacity setup past desk s news → Stands capacity setup past desk →
    Stands capacity setup (news ++ past) (desk_after s news desk) → P past desk kept →
    P (news ++ past) (desk_after s news desk) (after s news desk kept)

pub along_from : {A : Type 0} (after : Step → List Entry → Desk → A → A) (capacity : ℕ) (setup : Setup)
    (P : List Entry → Desk → A → Type 0) → Keeps after capacity setup P →
    (past : List Entry) (desk : Desk) (kept : A) (steps : List Step) (end : List Entry) (last : Desk) (found : A) →
    All IsInRange steps → AlongFrom after capacity setup past desk kept steps end last found →
    Stands capacity setup past desk → P past desk kept → Stands capacity setup end last × P end last found
along_from after capacity setup P keeps past desk kept [] end last found range told at is = (
  subst (λ e. Stands capacity setup e last) (sym told.0) (subst (Stands capacity setup past) (sym told.1) at),
  subst (λ e. P e last found) (sym told.0) (subst (λ d. P past d found) (sym told.1) (subst (P past desk) (sym told.2) is)),
)
along_from after capacity setup P keeps past desk kept (s ∷ steps) end last found range told at is =
    let here = All-head IsInRange s steps range in
    let on = stands_on capacity setup past told.0 desk s here told.1 at in
    along_from after capacity setup P keeps (told.0 ++ past) (desk_after s told.0 desk) (after s told.0 desk kept) steps
    end last found (All-tail IsInRange s steps range) told.2 on
    (keeps past told.0 desk kept s here told.1 at on is)

-- so it holds after every run
pub along : {A : Type 0} (after : Step → List Entry → Desk → A → A) (capacity : ℕ) (setup : Setup)
    (P : List Entry → Desk → A → Type 0) → Keeps after capacity setup P → (first : A) (steps : List Step)
    (past : List Entry) (desk : Desk) (found : A) → IsSoundSetup setup → All IsInRange steps →
    AlongFrom after capacity setup [] (clear_desk setup) first steps past desk found → P [] (clear_desk setup) first →
    Stands capacity setup past desk × P past desk found
along after capacity setup P keeps first steps past desk found sound range told is =
    along_from after capacity setup P keeps [] (clear_desk setup) first steps past desk found range told
    (stands_clear capacity setup sound) is

-- it goes on at the operator's desk, and adds entries to its past
pub along_desk : {A : Type 0} (after : Step → List Entry → Desk → A → A) (capacity : ℕ) (setup : Setup) (past : List Entry)
    (desk : Desk) (kept : A) (steps : List Step) (end : List Entry) (last : Desk) (found : A) →
    AlongFrom after capacity setup past desk kept steps end last found → AtDeskFrom capacity setup past desk steps end last
along_desk after capacity setup past desk kept [] end last found told = (told.0, told.1)
along_desk after capacity setup past desk kept (s ∷ steps) end last found told = (
  told.0,
  told.1,
  along_desk after capacity setup (told.0 ++ past) (desk_after s told.0 desk) (after s told.0 desk kept) steps end last
      found told.2,
)

pub desk_grown : (capacity : ℕ) (setup : Setup) (past : List Entry) (desk : Desk) (steps : List Step) (end : List Entry)
    (last : Desk) → AtDeskFrom capacity setup past desk steps end last → (more : List Entry) × (end ≡ more ++ past)
desk_grown capacity setup past desk [] end last told = ([], told.0)
desk_grown capacity setup past desk (s ∷ steps) end last told =
    let later = desk_grown capacity setup (told.0 ++ past) (desk_after s told.0 desk) steps end last told.2 in
    (later.0 ++ told.0, later.1 ∙ sym (append_assoc later.0 told.0 past))
