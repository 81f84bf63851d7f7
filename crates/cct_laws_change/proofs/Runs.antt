-- Every run at the operator's desk keeps what holds of its session, so change is paid.
use Rattle.std.proofs.Common.{ℕ, List, [], ◌∷◌, ◌++◌, subst, Option, All}
use Rattle.std.specs.Option.{option_map}
use Rattle.std.proofs.lemmas.List.Elements.{All-cons, All-head, All-nil, All-tail, All-weaker}
use Rattle.cct_model.specs.terms.device.Setup.{Setup}
use Rattle.cct_model.specs.lines.command.Step.{Step}
use Rattle.cct_model.specs.lines.command.Step.TheVariants as step
use Rattle.cct_model.specs.lines.entry.Entry.{Entry}
use Rattle.cct_model.specs.lines.entry.Entry.TheVariants as entry
use Rattle.cct_model.specs.declared.change.Payment.{Payment}
use Rattle.cct_model.specs.declared.change.Session.{Session}
use Rattle.cct_model.specs.AtDesk.{AtDeskFrom, EntriesAtDesk, LeavesDesk, LegalAtDesk}
use Rattle.cct_model.specs.Change.{Desk, clear_desk, desk_after, session_after}
use Rattle.cct_model.specs.Honest.{Honest, HonestPast}
use Rattle.cct_model.specs.Script.{IsInRange}
use Rattle.cct_model.specs.Setup.{IsSoundSetup}
use Rattle.cct_model.specs.Transcript.{onto}
use Rattle.cct_laws_change.specs.Change.{ChangeIsPaid, EachMoment, GoesOnRight, IsPaid, IsStillPaid, IsToldRight, IsWithin, MomentIsRight}
use Rattle.cct_laws_change.specs.Orders.{ComesTo, opened_of, orders_after}
use Rattle.cct_laws.proofs.steps.AllKept.{honest_before}
use Rattle.cct_laws_change.proofs.Along.{Keeps, Stands, along, desk_grown, moment_from}
use Rattle.cct_laws_change.proofs.Legal.{sure_legal}
use Rattle.cct_laws_change.proofs.Serving.{GoesRight, changes_right, serves_right, stocks_right}
use Rattle.cct_laws_change.proofs.Sessions.{AreSure, Holds, holds_over, holds_still, holds_within}
use Rattle.cct_laws_change.proofs.Told.{TellsNothing, plain_told, same_told_paid}
use Rattle.cct_laws_change.proofs.Trays.{AreTrays}

-- what shows nothing of a session's end shows it right
told_nothing : (setup : Setup) (past : List Entry) (orders : List Payment) (session : Option Session) (e : Entry) →
    TellsNothing e → IsToldRight setup past orders session e
told_nothing setup past orders session (entry.Served amount) none = absurd none
told_nothing setup past orders session (entry.Short paid rest) none = absurd none
told_nothing setup past orders session (entry.ServeOdd id) none = absurd none
told_nothing setup past orders session e none = tt

-- any other step keeps what holds of the session
plain_right : (setup : Setup) (past news : List Entry) (desk : Desk) (orders : List Payment) → All TellsNothing news →
    AreSure setup past → Holds setup desk.trays past orders desk.session →
    GoesRight setup past orders desk.session news (opened_of news desk.session ++ orders)
    (record { session = option_map (session_after news) desk.session; trays = desk.trays })
plain_right setup past news desk orders none before is = record {
  told = All-weaker TellsNothing (IsToldRight setup past orders desk.session)
      (told_nothing setup past orders desk.session) news none;
  holds = λ sure.
      holds_over setup desk.trays news past orders desk.session (same_told_paid news past none) before sure is;
}

step_right : (capacity : ℕ) (setup : Setup) (past news : List Entry) (desk : Desk) (orders : List Payment) (s : Step) →
    AreTrays setup desk.trays → AreSure setup past → Holds setup desk.trays past orders desk.session →
    EntriesAtDesk capacity setup past desk s news →
    GoesRight setup past orders desk.session news (orders_after s news desk orders) (desk_after s news desk)
step_right capacity setup past news desk orders (step.Stock addr count) are before is gives =
    stocks_right setup past news orders desk.trays addr count desk.session before is gives
step_right capacity setup past news desk orders (step.Change first amount) are before is gives =
    changes_right setup past news orders desk.trays first amount desk.session before is gives
step_right capacity setup past news desk orders step.Serve are before is gives =
    serves_right capacity setup past news orders desk.trays desk.session are before is gives
step_right capacity setup past news desk orders s are before is gives =
    plain_right setup past news desk orders (plain_told capacity setup past news s tt gives) before is

-- what a run has come to, over an honest wire: what holds of the session
abbrev HoldsAt : Setup → List Entry → Desk → List Payment → Type 0
HoldsAt setup past desk orders = HonestPast past → Holds setup desk.trays past orders desk.session

stands_sure : (capacity : ℕ) (setup : Setup) (past : List Entry) (desk : Desk) → IsSoundSetup setup →
    Stands capacity setup past desk → HonestPast past → AreSure setup past
stands_sure capacity setup past desk sound at honest =
    sure_legal capacity setup at.steps past sound at.in_range at.legal honest

keeps_holding : (capacity : ℕ) (setup : Setup) → IsSoundSetup setup → Keeps orders_after capacity setup (HoldsAt setup)
keeps_holding capacity setup sound past news desk orders s range gives at on is honest =
    let before = honest_before news past honest in
    (step_right capacity setup past news desk orders s at.trays (stands_sure capacity setup past desk sound at before)
    (is before) gives).holds (stands_sure capacity setup (news ++ past) (desk_after s news desk) sound on honest)

record Reached (capacity : ℕ) (setup : Setup) (past : List Entry) (desk : Desk) (orders : List Payment) : Type 0 where
  trays : AreTrays setup desk.trays
  sure : AreSure setup past
  holds : Holds setup desk.trays past orders desk.session

reached : EachMoment (λ capacity setup past desk orders. Reached capacity setup past desk orders)
reached capacity setup steps past desk orders sound range comes honest =
    let at = along orders_after capacity setup (HoldsAt setup) (keeps_holding capacity setup sound) [] steps past desk
    orders sound range comes (λ none. tt) in
    record {
      trays = at.0.trays;
      sure = stands_sure capacity setup past desk sound at.0 honest;
      holds = at.1 honest;
    }

-- at each moment no more fell than the amount, or what the last end reported; and each step shows
-- it right
pub moment_within : EachMoment (λ capacity setup past desk orders. IsWithin setup past orders desk.session)
moment_within capacity setup steps past desk orders sound range comes honest =
    let at = reached capacity setup steps past desk orders sound range comes honest in
    holds_within setup desk.trays past orders desk.session at.sure at.holds

pub moment_still : EachMoment (λ capacity setup past desk orders. IsStillPaid setup past orders)
moment_still capacity setup steps past desk orders sound range comes honest =
    holds_still setup desk.trays past orders desk.session
    (reached capacity setup steps past desk orders sound range comes honest).holds

pub moment_told : EachMoment (λ capacity setup past desk orders. (s : Step) (news : List Entry) →
    EntriesAtDesk capacity setup past desk s news → All (IsToldRight setup past orders desk.session) news)
moment_told capacity setup steps past desk orders sound range comes honest s news gives =
    let at = reached capacity setup steps past desk orders sound range comes honest in
    (step_right capacity setup past news desk orders s at.trays at.sure at.holds gives).told

pub told_served : EachMoment (λ capacity setup past desk orders. (amount : ℕ) →
    EntriesAtDesk capacity setup past desk step.Serve (entry.Served amount ∷ []) →
    IsPaid setup past orders desk.session amount 0)
told_served capacity setup steps past desk orders sound range comes honest amount gives =
    All-head (IsToldRight setup past orders desk.session) (entry.Served amount) []
    (moment_told capacity setup steps past desk orders sound range comes honest step.Serve (entry.Served amount ∷ []) gives)

pub told_short : EachMoment (λ capacity setup past desk orders. (paid rest : ℕ) (earlier : List Entry) →
    EntriesAtDesk capacity setup past desk step.Serve (entry.Short paid rest ∷ earlier) →
    IsPaid setup past orders desk.session paid rest)
told_short capacity setup steps past desk orders sound range comes honest paid rest earlier gives =
    All-head (IsToldRight setup past orders desk.session) (entry.Short paid rest) earlier
    (moment_told capacity setup steps past desk orders sound range comes honest step.Serve (entry.Short paid rest ∷ earlier) gives)

pub told_odd : EachMoment (λ capacity setup past desk orders. (id : ℕ) →
    EntriesAtDesk capacity setup past desk step.Serve (entry.ServeOdd id ∷ []) → ⊥)
told_odd capacity setup steps past desk orders sound range comes honest id gives =
    All-head (IsToldRight setup past orders desk.session) (entry.ServeOdd id) []
    (moment_told capacity setup steps past desk orders sound range comes honest step.Serve (entry.ServeOdd id ∷ []) gives)

-- so it is at each front of a whole run
front_in_range : (played rest : List Step) → All IsInRange (played ++ rest) → All IsInRange played
front_in_range [] rest range = All-nil IsInRange
front_in_range (s ∷ played) rest range =
    All-cons IsInRange s played (All-head IsInRange s (played ++ rest) range)
    (front_in_range played rest (All-tail IsInRange s (played ++ rest) range))

front_honest : (capacity : ℕ) (setup : Setup) (past : List Entry) (desk : Desk) (steps : List Step) (end : List Entry)
    (last : Desk) → AtDeskFrom capacity setup past desk steps end last → HonestPast end → HonestPast past
front_honest capacity setup past desk steps end last told honest =
    let more = desk_grown capacity setup past desk steps end last told in
    honest_before more.0 past (subst HonestPast more.1 honest)

-- of every run, after each front of its steps, there is a moment at which it goes on
pub moment_found : (capacity : ℕ) (setup : Setup) (played rest : List Step) (transcript : List Entry) (last : Desk) →
    LeavesDesk capacity setup (played ++ rest) transcript last →
    (past : List Entry) × (desk : Desk) × (orders : List Payment) × ComesTo capacity setup played past desk orders
    × AtDeskFrom capacity setup past desk rest (onto [] transcript) last
moment_found capacity setup played rest transcript last told =
    moment_from orders_after capacity setup [] (clear_desk setup) [] played rest (onto [] transcript) last told

-- the step that comes next there shows the session right
next_right : (capacity : ℕ) (setup : Setup) (past : List Entry) (desk : Desk) (orders : List Payment) (steps : List Step)
    (end : List Entry) (last : Desk) → ((s : Step) (news : List Entry) → EntriesAtDesk capacity setup past desk s news →
    All (IsToldRight setup past orders desk.session) news) → AtDeskFrom capacity setup past desk steps end last →
    GoesOnRight capacity setup past desk orders steps end last
next_right capacity setup past desk orders [] end last right told = told
next_right capacity setup past desk orders (s ∷ steps) end last right told =
    (told.0, told.1, told.2, right s told.0 told.1)

moment_right : (capacity : ℕ) (setup : Setup) (played rest : List Step) (transcript : List Entry) (last : Desk) →
    IsSoundSetup setup → All IsInRange played → LeavesDesk capacity setup (played ++ rest) transcript last →
    Honest transcript → MomentIsRight capacity setup played rest (onto [] transcript) last
moment_right capacity setup played rest transcript last sound range legal honest =
    let found = moment_found capacity setup played rest transcript last legal in
    let past = found.0 in
    let desk = found.1 in
    let orders = found.2 in
    let before = front_honest capacity setup past desk rest (onto [] transcript) last found.4 honest in
    record {
      past = past;
      desk = desk;
      orders = orders;
      comes = found.3;
      within = moment_within capacity setup played past desk orders sound range found.3 before;
      stays = moment_still capacity setup played past desk orders sound range found.3 before;
      goes_on = next_right capacity setup past desk orders rest (onto [] transcript) last
          (moment_told capacity setup played past desk orders sound range found.3 before) found.4;
    }

pub change_paid : (capacity : ℕ) (setup : Setup) (steps : List Step) (transcript : List Entry) → IsSoundSetup setup →
    All IsInRange steps → LegalAtDesk capacity setup steps transcript → Honest transcript →
    ChangeIsPaid capacity setup steps transcript
change_paid capacity setup steps transcript sound range legal honest = record {
  last = legal.0;
  each = λ played rest is.
      moment_right capacity setup played rest transcript legal.0 sound
      (front_in_range played rest (subst (All IsInRange) is range))
      (subst (λ ss. LeavesDesk capacity setup ss transcript legal.0) is legal.1) honest;
}
