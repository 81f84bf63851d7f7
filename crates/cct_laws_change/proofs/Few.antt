-- A session makes few payments: each that is settled lowers what is left of the amount, or empties a tray.
use Rattle.std.proofs.Common.{◌≡◌, ℕ, ◌+◌, ◌-◌, ◌*◌, ◌≤◌, ◌==◌, Bool, true, false, cond, List, [], ◌∷◌, ◌++◌, reverse, refl, sym, subst, Option, Some, None, inl, inr, arith, eqb-true, All}
use Rattle.std.specs.Prelude.{MatchBool, ⊤}
use Rattle.std.specs.List.{list_any}
use Rattle.std.specs.Option.{IfSome, option_map}
use Rattle.std.proofs.lemmas.Bool.{cond-false}
use Rattle.std.proofs.lemmas.Bool.Decides.{nat_tests}
use Rattle.std.proofs.Math.Nat.{mul-le-mul}
use Rattle.cct_model.specs.terms.device.DeviceBody.{DeviceBody}
use Rattle.cct_model.specs.terms.device.DeviceBody.TheVariants.{Acceptor, Bill, Hopper}
use Rattle.cct_model.specs.terms.device.Setup.{Setup}
use Rattle.cct_model.specs.lines.command.Command.TheVariants as command
use Rattle.cct_model.specs.lines.command.CommandNo.{CommandNo}
use Rattle.cct_model.specs.lines.command.Step.{Step}
use Rattle.cct_model.specs.lines.command.Step.TheVariants as step
use Rattle.cct_model.specs.lines.entry.Entry.{Entry}
use Rattle.cct_model.specs.lines.entry.Entry.TheVariants as entry
use Rattle.cct_model.specs.lines.record.Record.{Record}
use Rattle.cct_model.specs.declared.change.Due.{Due}
use Rattle.cct_model.specs.declared.change.Payment.{Payment}
use Rattle.cct_model.specs.declared.change.Phase.{Phase}
use Rattle.cct_model.specs.declared.change.Phase.TheVariants.{Begun, Opened, Closed, Odd, Lost}
use Rattle.cct_model.specs.declared.change.Session.{Session}
use Rattle.cct_model.specs.declared.change.Tray.{Tray}
use Rattle.cct_model.specs.AtDesk.{AtDeskFrom, EntriesAtDesk, LeavesDesk}
use Rattle.cct_model.specs.Change.{Desk, GoesOn, PaysNext, PaysOn, Serves, ServesDue, Settles, change_entry, changed, clear_desk, closed_in, desk_after, due_after, gone_on, is_end_at, is_opening, paid_in_phase, pay_entries, phase_after, restocked, served, served_by, served_due, session_after, settled, settled_trays, short_entry, stock_left, value_in}
use Rattle.cct_model.specs.Device.{IsHopper, IsSound, IsSoundBody}
use Rattle.cct_model.specs.Exchange.{device_at}
use Rattle.cct_model.specs.Following.{all_follow}
use Rattle.cct_model.specs.Legal.{LegalFrom}
use Rattle.cct_model.specs.Money.{hopper_value, paid_value}
use Rattle.cct_model.specs.Paid.{AreFresh}
use Rattle.cct_model.specs.Records.{is_open, records}
use Rattle.cct_model.specs.Refusal.{refusal}
use Rattle.cct_model.specs.Script.{IsInRange}
use Rattle.cct_model.specs.Setup.{IsSoundSetup}
use Rattle.cct_model.specs.Transcript.{onto}
use Rattle.cct_laws_change.specs.Tally.{EachTally, MakesFew, TalliesTo, Tally, filled_in, most_made, no_tally, one_filled, taken_in, tally_after, tally_begun, unsettled}
use Rattle.cct_laws_change.proofs.Along.{Keeps, Stands, along, moment_from}
use Rattle.cct_laws_change.proofs.Filled.{AreSingle, beside_refilled, beside_restocked, clear_single, emptied, filled_beside, filled_most, filled_restocked, pays_filled, restocked_single, told_stock, trays_at}
use Rattle.cct_laws_change.proofs.Named.{Exact, IsNamed, IsOpenNow, UnlessClosed, closed_exact, named_news, named_on, open_on, opens_news}
use Rattle.cct_laws.proofs.setups.DeviceAt.{found_in}
use Rattle.cct_laws.proofs.steps.AtTheDesk.{entries_legal}
use Rattle.cct_laws.proofs.jobs.EntriesOfStep.{over_telling, tells}
use Rattle.cct_laws.proofs.money.Books.{books_legal}
use Rattle.cct_laws.proofs.orders.OneMoreRecord.{step_grows}
use Rattle.cct_laws.proofs.orders.UsedIds.{Grows, grows_fresh}
use Rattle.cct_laws.proofs.orders.Payments.{legal_fresh}
use Rattle.cct_laws_change.proofs.Legal.{past_back}
use Rattle.cct_laws_change.proofs.Sessions.{IsDone}
use Rattle.cct_laws_change.proofs.Trays.{AreTrays, IsHopperAt, first_is, restocked_trays, restocked_value}

-- what is known of a payment by what became of it: its order's count, and that it was closed with just that
abbrev pub HasPhase : List Record → Payment → Phase → Type 0
HasPhase rs p Opened = IsOpenNow p rs
HasPhase rs p (Closed paid unpaid) = paid + unpaid ≡ p.count
HasPhase rs p phase = ⊤

-- a payment that isn't settled, beside a bound: there is something left, and the tray that pays counts no more
pub record FewDue (rs : List Record) (trays : List Tray) (bound made rest : ℕ) (p : Payment) (phase : Phase) : Type 0 where
  pub left : 1 ≤ rest
  pub asked : 1 ≤ p.count
  pub valued : 1 ≤ value_in trays p.addr
  pub few : made + rest + filled_beside p.addr trays ≤ bound
  pub known : HasPhase rs p phase

abbrev pub FewBy : List Record → List Tray → ℕ → ℕ → ℕ → Option Due → Type 0
FewBy rs trays bound made rest None = made + rest + filled_in trays ≤ bound
FewBy rs trays bound made rest (Some due) = FewDue rs trays bound made rest due.payment due.phase

abbrev pub FewIn : List Record → List Tray → ℕ → ℕ → Option Session → Type 0
FewIn rs trays bound made None = made ≤ bound
FewIn rs trays bound made (Some s) = FewBy rs trays bound made s.rest s.due

pub record IsFew (past : List Entry) (desk : Desk) (tally : Tally) : Type 0 where
  pub single : AreSingle desk.trays
  pub few : FewIn (records past) desk.trays (most_made tally) tally.made desk.session

-- another step's entries

-- what is sure of the records of a step: they follow each other, no id is used twice, and there is at most one more
pub record Goes (setup : Setup) (news past : List Entry) : Type 0 where
  pub follow : all_follow setup (records (news ++ past)) ≡ true
  pub fresh : AreFresh (records (news ++ past))
  pub grows : Grows (records past) (records (news ++ past))

open_phase : (p : Payment) (news past : List Entry) (phase : Phase) → AreFresh (records (news ++ past)) →
    IsNamed p (records past) → Exact p phase → UnlessClosed phase (is_open p.id (records (news ++ past)) ≡ true) →
    HasPhase (records (news ++ past)) p phase
open_phase p news past Opened fresh named exact still = record { named = named_on news past p fresh named; still = still }
open_phase p news past (Closed paid unpaid) fresh named exact still = exact
open_phase p news past phase fresh named exact still = tt

pub phase_on : (setup : Setup) (news past : List Entry) (p : Payment) (phase : Phase) → Goes setup news past →
    HasPhase (records past) p phase → HasPhase (records (news ++ past)) p (phase_after p news phase)
phase_on setup news past p Begun goes is =
    by_tests (list_any (is_opening p) (records news)) (list_any (is_end_at p.addr) news) refl
  where
    by_tests : (opens ends : Bool) → list_any (is_opening p) (records news) ≡ opens →
        HasPhase (records (news ++ past)) p (cond opens Opened (cond ends Lost Begun))
    by_tests true ends test =
        record { named = named_news news past p goes.fresh test; still = opens_news p news past goes.grows test }
    by_tests false true test = tt
    by_tests false false test = tt
phase_on setup news past p Opened goes is =
    open_phase p news past (closed_in p.id (records news)) goes.fresh is.named
    (closed_exact setup news past p goes.follow goes.fresh is.named) (open_on p.id news past is.still)
phase_on setup news past p (Closed paid unpaid) goes is = is
phase_on setup news past p Odd goes is = tt
phase_on setup news past p Lost goes is = tt

due_on : (setup : Setup) (news past : List Entry) (trays : List Tray) (bound made rest : ℕ) (due : Option Due) →
    Goes setup news past → FewBy (records past) trays bound made rest due →
    FewBy (records (news ++ past)) trays bound made rest (option_map (due_after news) due)
due_on setup news past trays bound made rest None goes is = is
due_on setup news past trays bound made rest (Some due) goes is = record {
  left = is.left;
  asked = is.asked;
  valued = is.valued;
  few = is.few;
  known = phase_on setup news past due.payment due.phase goes is.known;
}

session_on : (setup : Setup) (news past : List Entry) (trays : List Tray) (bound made : ℕ) (session : Option Session) →
    Goes setup news past → FewIn (records past) trays bound made session →
    FewIn (records (news ++ past)) trays bound made (option_map (session_after news) session)
session_on setup news past trays bound made None goes is = is
session_on setup news past trays bound made (Some s) goes is =
    due_on setup news past trays bound made s.rest s.due goes is

-- a stock that is reported

due_stocked : (rs : List Record) (trays : List Tray) (addr count bound made rest : ℕ) (due : Option Due) →
    AreSingle trays → FewBy rs trays bound made rest due →
    FewBy rs (restocked addr (told_stock count) trays) (bound + one_filled count) made rest due
due_stocked rs trays addr count bound made rest None single is =
    let more = filled_restocked addr count trays in
    let one = few_here addr count trays single in
    omega (arith, is, more, one)
  where
    few_here : (addr count : ℕ) (trays : List Tray) → AreSingle trays →
        one_filled count * trays_at addr trays ≤ one_filled count
    few_here addr count trays single = let one = single addr in grind (arith, one)
due_stocked rs trays addr count bound made rest (Some due) single is = record {
  left = is.left;
  asked = is.asked;
  valued = subst (λ n. 1 ≤ n) (sym (restocked_value addr (told_stock count) trays due.payment.addr)) is.valued;
  few =
      let few = is.few in
      let more = beside_refilled due.payment.addr addr count trays in
      let one = few_here in
      omega (arith, few, more, one);
  known = is.known;
}
  where
    few_here : one_filled count * trays_at addr trays ≤ one_filled count
    few_here = let one = single addr in grind (arith, one)

session_stocked : (rs : List Record) (trays : List Tray) (addr count bound made : ℕ) (session : Option Session) →
    AreSingle trays → FewIn rs trays bound made session →
    FewIn rs (restocked addr (told_stock count) trays) (bound + one_filled count) made session
session_stocked rs trays addr count bound made None single is = omega (arith, is)
session_stocked rs trays addr count bound made (Some s) single is =
    due_stocked rs trays addr count bound made s.rest s.due single is

-- a payment that is settled

product_some : (paid value : ℕ) → 1 ≤ paid → 1 ≤ value → 1 ≤ paid * value
product_some paid value some valued = mul-le-mul some valued

settles_closed : (trays : List Tray) (bound made rest addr paid unpaid : ℕ) (p : Payment) → AreSingle trays →
    1 ≤ rest → 1 ≤ p.count → 1 ≤ value_in trays p.addr → made + rest + filled_beside p.addr trays ≤ bound →
    paid + unpaid ≡ p.count →
    made + (rest - paid * value_in trays p.addr)
    + filled_in (restocked p.addr (stock_left (Closed paid unpaid)) trays) ≤ bound
settles_closed trays bound made rest addr paid unpaid p single left asked valued few exact =
    by_test (unpaid == 0) refl
  where
    all_paid : (unpaid == 0) ≡ true → 1 ≤ paid
    all_paid test = let none = eqb-true unpaid 0 test in omega (arith, none, exact, asked)

    by_test : (all : Bool) → (unpaid == 0) ≡ all →
        made + (rest - paid * value_in trays p.addr)
        + filled_in (restocked p.addr (stock_left (Closed paid unpaid)) trays) ≤ bound
    by_test true test =
        let becomes = stock_left (Closed paid unpaid) in
        let most = filled_most p.addr (restocked p.addr becomes trays) in
        let beside = beside_restocked p.addr becomes trays in
        let one = restocked_single p.addr becomes trays single p.addr in
        let less = product_some paid (value_in trays p.addr) (all_paid test) valued in
        omega (arith, most, beside, one, less, left, few)
    by_test false test =
        let gone = emptied p.addr (stock_left (Closed paid unpaid)) trays
        (λ n. cond-false (unpaid == 0) (n - paid) 0 test) in
        omega (arith, gone, few)

-- so is each that isn't running, and whose order isn't open
settles_few : (rs : List Record) (trays : List Tray) (bound made rest : ℕ) (due : Due) (phase : Phase) → IsDone phase →
    AreSingle trays → FewDue rs trays bound made rest due.payment phase →
    made + (rest - paid_in_phase phase * value_in trays due.payment.addr)
    + filled_in (restocked due.payment.addr (stock_left phase) trays) ≤ bound
settles_few rs trays bound made rest due Begun done single is = absurd done
settles_few rs trays bound made rest due Opened done single is = absurd done
settles_few rs trays bound made rest due (Closed paid unpaid) done single is =
    settles_closed trays bound made rest due.payment.addr paid unpaid due.payment single is.left is.asked is.valued is.few
    is.known
settles_few rs trays bound made rest due Odd done single is = absurd done
settles_few rs trays bound made rest due Lost done single is =
    let gone = emptied due.payment.addr (stock_left Lost) trays (λ n. refl) in
    let few = is.few in
    omega (arith, gone, few)

-- what is so of a desk after a `serve`, by its records and entries
record FewAt (rs : List Record) (desk : Desk) (bound made : ℕ) : Type 0 where
  single : AreSingle desk.trays
  few : FewIn rs desk.trays bound made desk.session

few_as : (past news is : List Entry) (desk : List Entry → Desk) (bound made : ℕ) → news ≡ is →
    FewAt (records (is ++ past)) (desk is) bound (made + taken_in is) →
    FewAt (records (news ++ past)) (desk news) bound (made + taken_in news)
few_as past news is desk bound made same few =
    subst (λ es. FewAt (records (es ++ past)) (desk es) bound (made + taken_in es)) (sym same) few

-- a coin of a hopper of a sound setup has a value
valued_body : (body : DeviceBody) → IsSoundBody body → IsHopper body → 1 ≤ paid_value body
valued_body (Acceptor accepts values ids) sound paying = absurd paying
valued_body (Hopper life value) sound paying = sound.1
valued_body (Bill accepts values ids) sound paying = absurd paying

pub valued_at : (setup : Setup) (addr : ℕ) → IsSoundSetup setup → (h : IsHopperAt setup addr) →
    1 ≤ hopper_value (device_at setup.devices addr)
valued_at setup addr sound h =
    subst (λ found. 1 ≤ hopper_value found) (sym h.found)
    (valued_body h.device.body (found_in IsSound setup.devices addr h.device sound.devices h.found).0.body h.hopper)

-- it pays on
pays_few : (setup : Setup) (past : List Entry) (trays : List Tray) (bound made : ℕ) (s : Session) (p : Payment)
    (why : Option CommandNo) → IsSoundSetup setup → AreTrays setup trays → AreSingle trays → PaysNext trays s p →
    1 ≤ s.rest → made + s.rest + filled_in trays ≤ bound →
    FewAt (records (pay_entries s p why ++ past)) (gone_on (pay_entries s p why) trays s) bound
    (made + taken_in (pay_entries s p why))
pays_few setup past trays bound made s p None sound are single next left few =
    let pays = pays_filled trays next.counts p.addr p.count next.chosen.fewest.plan.within next.pays in
    let more = pays.0 in
    let first = first_is setup trays next.counts p.addr p.count are next.pays in
    record {
      single = single;
      few = record {
        left = left;
        asked = pays.1;
        valued = subst (λ n. 1 ≤ n) (sym first.value_is) (valued_at setup p.addr sound first.hopper);
        few = omega (arith, more, few);
        known = tt;
      };
    }
pays_few setup past trays bound made s p (Some why) sound are single next left few =
    record { single = single; few = omega (arith, few) }

pays_on_few : (capacity : ℕ) (setup : Setup) (past news : List Entry) (trays : List Tray) (bound made : ℕ) (s : Session) →
    IsSoundSetup setup → AreTrays setup trays → AreSingle trays → 1 ≤ s.rest →
    made + s.rest + filled_in trays ≤ bound → PaysOn capacity setup past trays s news →
    FewAt (records (news ++ past)) (gone_on news trays s) bound (made + taken_in news)
pays_on_few capacity setup past news trays bound made s sound are single left few (inl stuck) =
    few_as past news (short_entry s ∷ []) (λ es. gone_on es trays s) bound made stuck.1
    (record { single = single; few = omega (arith, few) })
pays_on_few capacity setup past news trays bound made s sound are single left few (inr paid) =
    let why = refusal capacity setup past (command.Pay paid.0.addr paid.0.id paid.0.count) in
    few_as past news (pay_entries s paid.0 why) (λ es. gone_on es trays s) bound made paid.2
    (pays_few setup past trays bound made s paid.0 why sound are single paid.1 left few)

goes_on_few : (capacity : ℕ) (setup : Setup) (past news : List Entry) (trays : List Tray) (bound made : ℕ) (s : Session) →
    IsSoundSetup setup → AreTrays setup trays → AreSingle trays → made + s.rest + filled_in trays ≤ bound →
    GoesOn capacity setup past trays s news →
    FewAt (records (news ++ past)) (gone_on news trays s) bound (made + taken_in news)
goes_on_few capacity setup past news trays bound made s sound are single few goes = by_rest (s.rest == 0) refl goes
  where
    some_left : (s.rest == 0) ≡ false → 1 ≤ s.rest
    some_left test = grind (arith, nat_tests)

    by_rest : (none : Bool) → (s.rest == 0) ≡ none →
        MatchBool none (news ≡ entry.Served s.amount ∷ []) (PaysOn capacity setup past trays s news) →
        FewAt (records (news ++ past)) (gone_on news trays s) bound (made + taken_in news)
    by_rest true test gives =
        few_as past news (entry.Served s.amount ∷ []) (λ es. gone_on es trays s) bound made gives
        (record { single = single; few = omega (arith, few) })
    by_rest false test gives =
        pays_on_few capacity setup past news trays bound made s sound are single (some_left test) few gives

-- it waits
waits_few : (past news : List Entry) (trays : List Tray) (bound made : ℕ) (s : Session) (due : Due) (addr : ℕ) →
    AreSingle trays → s.due ≡ Some due → FewDue (records past) trays bound made s.rest due.payment due.phase →
    news ≡ entry.ServeWait addr ∷ [] →
    FewAt (records (news ++ past)) (record { session = Some s; trays = trays }) bound (made + taken_in news)
waits_few past news trays bound made s due addr single is few gives =
    few_as past news (entry.ServeWait addr ∷ []) (λ es. record { session = Some s; trays = trays }) bound made gives
    (subst (λ n. FewAt (records past) (record { session = Some s; trays = trays }) bound n) (omega arith)
    (record { single = single; few = subst (FewBy (records past) trays bound made s.rest) (sym is) few }))

due_few : (capacity : ℕ) (setup : Setup) (past news : List Entry) (trays : List Tray) (bound made : ℕ) (s : Session)
    (due : Due) (phase : Phase) → IsSoundSetup setup → AreTrays setup trays → AreSingle trays → s.due ≡ Some due →
    due.phase ≡ phase → FewDue (records past) trays bound made s.rest due.payment phase →
    Settles capacity setup past trays s due phase news →
    FewAt (records (news ++ past)) (served_due news trays s due phase) bound (made + taken_in news)
due_few capacity setup past news trays bound made s due Begun sound are single is at few gives =
    waits_few past news trays bound made s due due.payment.addr single is
    (subst (FewDue (records past) trays bound made s.rest due.payment) (sym at) few) gives
due_few capacity setup past news trays bound made s due Opened sound are single is at few gives =
    waits_few past news trays bound made s due due.payment.addr single is
    (subst (FewDue (records past) trays bound made s.rest due.payment) (sym at) few) gives
due_few capacity setup past news trays bound made s due Odd sound are single is at few gives =
    few_as past news (entry.ServeOdd due.payment.id ∷ []) (λ es. record { session = None; trays = trays }) bound made gives
    (record { single = single; few = let most = few.few in omega (arith, most) })
due_few capacity setup past news trays bound made s due (Closed paid unpaid) sound are single is at few gives =
    goes_on_few capacity setup past news (settled_trays due trays) bound made (settled trays due s) sound
    (restocked_trays setup due.payment.addr (stock_left due.phase) trays are)
    (restocked_single due.payment.addr (stock_left due.phase) trays single)
    (settles_few (records past) trays bound made s.rest due due.phase (subst IsDone (sym at) tt) single
    (subst (FewDue (records past) trays bound made s.rest due.payment) (sym at) few)) gives
due_few capacity setup past news trays bound made s due Lost sound are single is at few gives =
    goes_on_few capacity setup past news (settled_trays due trays) bound made (settled trays due s) sound
    (restocked_trays setup due.payment.addr (stock_left due.phase) trays are)
    (restocked_single due.payment.addr (stock_left due.phase) trays single)
    (settles_few (records past) trays bound made s.rest due due.phase (subst IsDone (sym at) tt) single
    (subst (FewDue (records past) trays bound made s.rest due.payment) (sym at) few)) gives

by_few : (capacity : ℕ) (setup : Setup) (past news : List Entry) (trays : List Tray) (bound made : ℕ) (s : Session)
    (due : Option Due) → IsSoundSetup setup → AreTrays setup trays → AreSingle trays → s.due ≡ due →
    FewBy (records past) trays bound made s.rest due → ServesDue capacity setup past trays s due news →
    FewAt (records (news ++ past)) (served_by news trays s due) bound (made + taken_in news)
by_few capacity setup past news trays bound made s None sound are single is few gives =
    goes_on_few capacity setup past news trays bound made s sound are single few gives
by_few capacity setup past news trays bound made s (Some due) sound are single is few gives =
    due_few capacity setup past news trays bound made s due due.phase sound are single is refl few gives

serves_few : (capacity : ℕ) (setup : Setup) (past news : List Entry) (trays : List Tray) (bound made : ℕ)
    (session : Option Session) → IsSoundSetup setup → AreTrays setup trays → AreSingle trays →
    FewIn (records past) trays bound made session → Serves capacity setup past trays session news →
    FewAt (records (news ++ past)) (served news trays session) bound (made + taken_in news)
serves_few capacity setup past news trays bound made None sound are single few gives =
    few_as past news (entry.ServeIdle ∷ []) (λ es. record { session = None; trays = trays }) bound made gives
    (record { single = single; few = omega (arith, few) })
serves_few capacity setup past news trays bound made (Some s) sound are single few gives =
    by_few capacity setup past news trays bound made s s.due sound are single refl few gives

-- a session that begins
changes_few : (past news : List Entry) (desk : Desk) (first amount : ℕ) (tally : Tally) → IsFew past desk tally →
    news ≡ change_entry first amount desk.session ∷ [] →
    IsFew (news ++ past) (desk_after (step.Change first amount) news desk)
    (tally_after (step.Change first amount) news desk tally)
changes_few past news desk first amount tally is gives = record {
  single = is.single;
  few = by_session desk.session gives is.few;
}
  where
    by_session : (session : Option Session) → news ≡ change_entry first amount session ∷ [] →
        FewIn (records past) desk.trays (most_made tally) tally.made session →
        FewIn (records (news ++ past)) desk.trays (most_made (tally_begun first amount desk.trays session tally))
        (tally_begun first amount desk.trays session tally).made (Some (changed first amount session))
    by_session None gives few = omega arith
    by_session (Some s) gives few =
        subst (λ es. FewBy (records (es ++ past)) desk.trays (most_made tally) tally.made s.rest s.due) (sym gives) few

-- after each step of a run its records are sure
stands_fresh : (capacity : ℕ) (setup : Setup) (past : List Entry) (desk : Desk) → IsSoundSetup setup →
    Stands capacity setup past desk → AreFresh (records past)
stands_fresh capacity setup past desk sound at =
    subst (λ es. AreFresh (records es)) (sym (past_back past))
    (legal_fresh capacity setup at.steps (reverse past) sound
    (subst (LegalFrom capacity setup [] at.steps) (past_back past) at.legal))

pub step_goes : (capacity : ℕ) (setup : Setup) (past news : List Entry) (desk : Desk) (s : Step) → IsSoundSetup setup →
    EntriesAtDesk capacity setup past desk s news → Stands capacity setup past desk →
    Stands capacity setup (news ++ past) (desk_after s news desk) → Goes setup news past
step_goes capacity setup past news desk s sound gives at on =
    let before = books_legal capacity setup at.steps past sound at.in_range at.legal in
    let later = books_legal capacity setup on.steps (news ++ past) sound on.in_range on.legal in
    let told = tells capacity setup past news s (entries_legal capacity setup past desk s news at.right gives) in
    let grows = over_telling capacity setup past news s (λ es. Grows (records past) (records (es ++ past)))
    (λ es addr grows. grows) told (step_grows capacity setup past told.told s before.0 told.brings) in
    record {
      follow = later.1.counts.follow;
      fresh = grows_fresh (records past) (records (news ++ past)) grows (stands_fresh capacity setup past desk sound at);
      grows = grows;
    }

-- each step keeps it
pub keeps_few : (capacity : ℕ) (setup : Setup) → IsSoundSetup setup → Keeps tally_after capacity setup IsFew
keeps_few capacity setup sound past news desk tally (step.Stock addr count) range gives at on is = record {
  single = restocked_single addr (told_stock count) desk.trays is.single;
  few =
      subst (λ n. FewIn (records (news ++ past)) (restocked addr (told_stock count) desk.trays) n tally.made desk.session)
      (omega arith)
      (subst (λ es. FewIn (records (es ++ past)) (restocked addr (told_stock count) desk.trays)
      (most_made tally + one_filled count) tally.made desk.session) (sym gives)
      (session_stocked (records past) desk.trays addr count (most_made tally) tally.made desk.session is.single is.few));
}
keeps_few capacity setup sound past news desk tally (step.Change first amount) range gives at on is =
    changes_few past news desk first amount tally is gives
keeps_few capacity setup sound past news desk tally step.Serve range gives at on is =
    let few = serves_few capacity setup past news desk.trays (most_made tally) tally.made desk.session sound at.trays
    is.single is.few gives in
    record { single = few.single; few = few.few }
keeps_few capacity setup sound past news desk tally s range gives at on is = record {
  single = is.single;
  few = session_on setup news past desk.trays (most_made tally) tally.made desk.session
      (step_goes capacity setup past news desk s sound gives at on) is.few;
}

pub few_start : (setup : Setup) → IsSoundSetup setup → IsFew [] (clear_desk setup) no_tally
few_start setup sound = record { single = clear_single setup sound; few = omega arith }

-- so a session makes few payments
few_by : (trays : List Tray) (rs : List Record) (bound made rest : ℕ) (due : Option Due) → AreSingle trays →
    FewBy rs trays bound made rest due →
    (made ≤ bound) × (made + rest + filled_in trays ≤ bound + unsettled due)
few_by trays rs bound made rest None single few = (omega (arith, few), omega (arith, few))
few_by trays rs bound made rest (Some due) single is =
    let few = is.few in
    let most = filled_most due.payment.addr trays in
    let one = single due.payment.addr in
    (omega (arith, few), omega (arith, few, most, one))

pub few_in : (trays : List Tray) (rs : List Record) (bound made : ℕ) (session : Option Session) → AreSingle trays →
    FewIn rs trays bound made session →
    (made ≤ bound) × IfSome session (λ s. made + s.rest + filled_in trays ≤ bound + unsettled s.due)
few_in trays rs bound made None single few = (few, tt)
few_in trays rs bound made (Some s) single few = few_by trays rs bound made s.rest s.due single few

pub few_run : (capacity : ℕ) (setup : Setup) (steps : List Step) (past : List Entry) (desk : Desk) (tally : Tally) →
    IsSoundSetup setup → All IsInRange steps → TalliesTo capacity setup steps past desk tally →
    Stands capacity setup past desk × IsFew past desk tally
few_run capacity setup steps past desk tally sound range tallies =
    along tally_after capacity setup IsFew (keeps_few capacity setup sound) no_tally steps past desk tally sound range
    tallies (few_start setup sound)

pub makes_few : EachTally (λ capacity setup past desk tally. MakesFew desk tally)
makes_few capacity setup steps past desk tally sound range tallies =
    let is = (few_run capacity setup steps past desk tally sound range tallies).1 in
    let few = few_in desk.trays (records past) (most_made tally) tally.made desk.session is.single is.few in
    record { all = few.0; running = few.1 }

-- and each run has its tally, after each front of its steps
pub has_tally : (capacity : ℕ) (setup : Setup) (played rest : List Step) (transcript : List Entry) (last : Desk) →
    LeavesDesk capacity setup (played ++ rest) transcript last →
    (past : List Entry) × (desk : Desk) × (tally : Tally) × TalliesTo capacity setup played past desk tally
    × AtDeskFrom capacity setup past desk rest (onto [] transcript) last
has_tally capacity setup played rest transcript last told =
    moment_from tally_after capacity setup [] (clear_desk setup) no_tally played rest (onto [] transcript) last told
