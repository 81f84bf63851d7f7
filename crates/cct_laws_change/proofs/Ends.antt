-- A session ends: each block of a `serve` and steps that let its payment's job end makes one payment more, or shows its end.
use Rattle.std.proofs.Common.{◌≡◌, ◌⊎◌, inl, inr, ℕ, ◌+◌, ◌<◌, ◌≤◌, ◌==◌, Bool, true, false, cond, List, [], ◌∷◌, ◌++◌, length, refl, ap, sym, ◌∙◌, subst, Option, Some, None, All, arith, append_assoc, eq-eqb}
use Rattle.std.specs.Prelude.{MatchBool}
use Rattle.std.specs.List.{list_any}
use Rattle.std.specs.Option.{option_map}
use Rattle.std.proofs.lemmas.Bool.{and_parts, or_cases, or_left, or_right}
use Rattle.std.proofs.lemmas.List.{append_cancel_right}
use Rattle.std.proofs.lemmas.List.Elements.{All-cons, All-head, All-nil, All-tail}
use Rattle.cct_model.specs.terms.device.Setup.{Setup}
use Rattle.cct_model.specs.lines.command.Command.{Command}
use Rattle.cct_model.specs.lines.command.Command.TheVariants as command
use Rattle.cct_model.specs.lines.command.CommandNo.{CommandNo}
use Rattle.cct_model.specs.lines.command.Step.{Step}
use Rattle.cct_model.specs.lines.command.Step.TheVariants as step
use Rattle.cct_model.specs.lines.entry.Entry.{Entry}
use Rattle.cct_model.specs.lines.entry.Entry.TheVariants as entry
use Rattle.cct_model.specs.lines.record.Record.{Record}
use Rattle.cct_model.specs.lines.record.Record.TheVariants as record_of
use Rattle.cct_model.specs.declared.change.Due.{Due}
use Rattle.cct_model.specs.declared.change.Payment.{Payment}
use Rattle.cct_model.specs.declared.change.Phase.{Phase}
use Rattle.cct_model.specs.declared.change.Phase.TheVariants.{Begun, Opened, Closed, Odd, Lost}
use Rattle.cct_model.specs.declared.change.Session.{Session}
use Rattle.cct_model.specs.declared.change.Tray.{Tray}
use Rattle.cct_model.specs.AtDesk.{EntriesAtDesk}
use Rattle.cct_model.specs.Change.{Desk, GoesOn, PaysOn, Serves, ServesDue, Settles, change_entry, changed, closed_in, desk_after, due_after, gone_on, is_end_at, is_opening, pay_entries, phase_after, served, served_by, served_due, session_after, settled, settled_trays, short_entry}
use Rattle.cct_model.specs.Device.{IsSound}
use Rattle.cct_model.specs.Exchange.{device_at}
use Rattle.cct_model.specs.Following.{all_follow, follows}
use Rattle.cct_model.specs.Job.{job, works}
use Rattle.cct_model.specs.Legal.{Entries}
use Rattle.cct_model.specs.Records.{records}
use Rattle.cct_model.specs.Refusal.{refusal}
use Rattle.cct_model.specs.Script.{IsInRange}
use Rattle.cct_model.specs.Setup.{IsSoundSetup}
use Rattle.cct_model.specs.Transcript.{lines_of}
use Rattle.cct_laws.specs.Ending.{ShowsEnd}
use Rattle.cct_laws.proofs.setups.DeviceAt.{found_in}
use Rattle.cct_laws.proofs.steps.AtTheDesk.{at_desk_legal, entries_legal}
use Rattle.cct_laws.proofs.jobs.Ending.{job_ends}
use Rattle.cct_laws.proofs.jobs.EntriesOfStep.{tells}
use Rattle.cct_laws.proofs.money.Books.{books_legal}
use Rattle.cct_laws_change.specs.Along.{AlongFrom}
use Rattle.cct_laws_change.specs.Blocks.{InBlocks, IsBetween, IsReady, IsReadyBy, IsWaiting, LetsEnd, LetsEndBy, LetsPaymentEnd, TellsEnd, is_session_end}
use Rattle.cct_laws_change.specs.Tally.{TalliesTo, Tally, most_made, taken_in, tally_after, tally_begun}
use Rattle.cct_laws_change.proofs.Along.{Stands, along_desk, along_from, desk_grown, stands_on}
use Rattle.cct_laws_change.proofs.Closing.{Closes, IsClosing, step_closes}
use Rattle.cct_laws_change.proofs.Few.{FewBy, FewIn, Goes, HasPhase, IsFew, few_in, few_run, keeps_few, step_goes}
use Rattle.cct_laws_change.proofs.Named.{IsOpenNow, closed_id, closed_now, records_of, same_order}
use Rattle.cct_laws_change.proofs.Taken.{begins_pay}

-- a session runs, and this is the payment that it made last
abbrev pub DueIs : Payment → Option Due → Type 0
DueIs p None = ⊥
DueIs p (Some due) = p ≡ due.payment

abbrev pub MadeLast : Payment → Option Session → Type 0
MadeLast p None = ⊥
MadeLast p (Some s) = DueIs p s.due

-- a step that is no `serve` leaves it so
due_between : (p : Payment) (news : List Entry) (due : Option Due) → DueIs p due → DueIs p (option_map (due_after news) due)
due_between p news None is = is
due_between p news (Some due) is = is

session_between : (p : Payment) (news : List Entry) (session : Option Session) → MadeLast p session →
    MadeLast p (option_map (session_after news) session)
session_between p news None is = is
session_between p news (Some s) is = due_between p news s.due is

changed_between : (p : Payment) (first amount : ℕ) (session : Option Session) → MadeLast p session →
    MadeLast p (Some (changed first amount session))
changed_between p first amount None is = absurd is
changed_between p first amount (Some s) is = is

pub made_between : (p : Payment) (s : Step) (news : List Entry) (desk : Desk) → IsBetween s → MadeLast p desk.session →
    MadeLast p (desk_after s news desk).session
made_between p (step.Stock addr count) news desk between is = is
made_between p (step.Change first amount) news desk between is = changed_between p first amount desk.session is
made_between p step.Serve news desk between is = absurd between
made_between p s news desk between is = session_between p news desk.session is

-- and one that isn't waited for stays so
phase_ready : (p : Payment) (news : List Entry) (phase : Phase) → (IsWaiting phase → ⊥) →
    IsWaiting (phase_after p news phase) → ⊥
phase_ready p news Begun ready waits = ready tt
phase_ready p news Opened ready waits = ready tt
phase_ready p news (Closed paid unpaid) ready waits = waits
phase_ready p news Odd ready waits = waits
phase_ready p news Lost ready waits = waits

due_ready : (news : List Entry) (due : Option Due) → IsReadyBy due → IsReadyBy (option_map (due_after news) due)
due_ready news None ready = tt
due_ready news (Some due) ready = phase_ready due.payment news due.phase ready

session_ready : (news : List Entry) (session : Option Session) → IsReady session →
    IsReady (option_map (session_after news) session)
session_ready news None ready = ready
session_ready news (Some s) ready = due_ready news s.due ready

changed_ready : (first amount : ℕ) (session : Option Session) → IsReady session →
    IsReady (Some (changed first amount session))
changed_ready first amount None ready = absurd ready
changed_ready first amount (Some s) ready = ready

ready_between : (s : Step) (news : List Entry) (desk : Desk) → IsBetween s → IsReady desk.session →
    IsReady (desk_after s news desk).session
ready_between (step.Stock addr count) news desk between ready = ready
ready_between (step.Change first amount) news desk between ready = changed_ready first amount desk.session ready
ready_between step.Serve news desk between ready = absurd between
ready_between s news desk between ready = session_ready news desk.session ready

-- the payments made stay as many
tally_changed : (first amount : ℕ) (trays : List Tray) (session : Option Session) (tally : Tally) →
    (session ≡ None → ⊥) → (tally_begun first amount trays session tally).made ≡ tally.made
tally_changed first amount trays None tally runs = absurd (runs refl)
tally_changed first amount trays (Some s) tally runs = refl

tally_between : (s : Step) (news : List Entry) (desk : Desk) (tally : Tally) → IsBetween s → (desk.session ≡ None → ⊥) →
    (tally_after s news desk tally).made ≡ tally.made
tally_between (step.Stock addr count) news desk tally between runs = refl
tally_between (step.Change first amount) news desk tally between runs =
    tally_changed first amount desk.trays desk.session tally runs
tally_between step.Serve news desk tally between runs = absurd between
tally_between s news desk tally between runs = refl

made_runs : (p : Payment) (session : Option Session) → MadeLast p session → session ≡ None → ⊥
made_runs p None is none = is
made_runs p (Some s) is none = cc none

ready_runs : (session : Option Session) → IsReady session → session ≡ None → ⊥
ready_runs None ready none = ready
ready_runs (Some s) ready none = cc none

between_range : (s : Step) → IsBetween s → IsInRange s
between_range step.Serve between = absurd between
between_range s between = between

-- where the end of a payment that was closed is reported, it isn't waited for

no_opening : (p : Payment) (r : Record) → IsClosing r → list_any (is_opening p) (r ∷ []) ≡ false
no_opening p (record_of.Closed id paid unpaid) closes = refl
no_opening p (record_of.Odd id life_before life_after) closes = refl
no_opening p r closes = absurd closes

shows_end : (c : Command) (addr : ℕ) (news : List Entry) → ShowsEnd c addr news → list_any (is_end_at addr) news ≡ true
shows_end c addr [] shows = absurd shows
shows_end c addr (entry.Ended other end ∷ news) (inl here) =
    or_left (other == addr) (list_any (is_end_at addr) news) (eq-eqb other addr here.0)
shows_end c addr (entry.Ended other end ∷ news) (inr later) =
    or_right (other == addr) (list_any (is_end_at addr) news) (shows_end c addr news later)
shows_end c addr (e ∷ news) shows =
    or_right (is_end_at addr e) (list_any (is_end_at addr) news) (shows_end c addr news shows)

same_order_told : (setup : Setup) (past news : List Entry) (p : Payment) → Goes setup news past →
    (is : Closes past p.addr news) → IsOpenNow p (records past) → closed_id is.closing ≡ p.id
same_order_told setup past news p goes is known =
    let one = records_of news past ∙ ap (λ rs. rs ++ records past) is.only in
    let parts = and_parts (follows setup (records past) is.closing) (all_follow setup (records past))
    (subst (λ rs. all_follow setup rs ≡ true) one goes.follow) in
    same_order setup (records past) is.closing p parts.1 parts.0 is.closes is.owned known

phase_ends : (setup : Setup) (past news : List Entry) (p : Payment) (phase : Phase) → Goes setup news past →
    HasPhase (records past) p phase → list_any (is_end_at p.addr) news ≡ true → (is : Closes past p.addr news) →
    IsWaiting (phase_after p news phase) → ⊥
phase_ends setup past news p Begun goes known ends is waits =
    by_tests (list_any (is_opening p) (records news)) (list_any (is_end_at p.addr) news)
    (ap (list_any (is_opening p)) is.only ∙ no_opening p is.closing is.closes) ends waits
  where
    by_tests : (opens ended : Bool) → opens ≡ false → ended ≡ true →
        IsWaiting (cond opens Opened (cond ended Lost Begun)) → ⊥
    by_tests true ended none some waits = cc none
    by_tests false true none some waits = waits
    by_tests false false none some waits = cc some
phase_ends setup past news p Opened goes known ends is waits =
    closed_now is.closing p.id is.closes (same_order_told setup past news p goes is known)
    (subst (λ rs. IsWaiting (closed_in p.id rs)) is.only waits)
phase_ends setup past news p (Closed paid unpaid) goes known ends is waits = waits
phase_ends setup past news p Odd goes known ends is waits = waits
phase_ends setup past news p Lost goes known ends is waits = waits

due_ends : (setup : Setup) (past news : List Entry) (p : Payment) (trays : List Tray) (bound made rest : ℕ)
    (due : Option Due) → Goes setup news past → DueIs p due → FewBy (records past) trays bound made rest due →
    list_any (is_end_at p.addr) news ≡ true → Closes past p.addr news → IsReadyBy (option_map (due_after news) due)
due_ends setup past news p trays bound made rest None goes is few ends closes = absurd is
due_ends setup past news p trays bound made rest (Some due) goes is few ends closes =
    phase_ends setup past news due.payment due.phase goes few.known
    (subst (λ (q : Payment). list_any (is_end_at q.addr) news ≡ true) is ends)
    (subst (λ (q : Payment). Closes past q.addr news) is closes)

session_ends : (setup : Setup) (past news : List Entry) (p : Payment) (trays : List Tray) (bound made : ℕ)
    (session : Option Session) → Goes setup news past → MadeLast p session → FewIn (records past) trays bound made session →
    list_any (is_end_at p.addr) news ≡ true → Closes past p.addr news → IsReady (option_map (session_after news) session)
session_ends setup past news p trays bound made None goes is few ends closes = absurd is
session_ends setup past news p trays bound made (Some s) goes is few ends closes =
    due_ends setup past news p trays bound made s.rest s.due goes is few ends closes

-- the command that begins a payment's job
abbrev pub pay_of : Payment → Command
pay_of p = command.Pay p.addr p.id p.count

abbrev Shows : Payment → List Entry → Type 0
Shows p news = ShowsEnd (pay_of p) p.addr news

one_shows : (p : Payment) (news is : List Entry) → news ≡ is → Shows p news → Shows p is
one_shows p news is same shows = subst (Shows p) same shows

change_shows : (p : Payment) (first amount : ℕ) (session : Option Session) →
    Shows p (change_entry first amount session ∷ []) → ⊥
change_shows p first amount None shows = shows
change_shows p first amount (Some s) shows = shows

step_ends : (capacity : ℕ) (setup : Setup) (past news : List Entry) (desk : Desk) (tally : Tally) (p : Payment) (s : Step) →
    IsSoundSetup setup → 1 ≤ p.addr → IsBetween s → EntriesAtDesk capacity setup past desk s news →
    Stands capacity setup past desk → Stands capacity setup (news ++ past) (desk_after s news desk) →
    IsFew past desk tally → MadeLast p desk.session → Shows p news → IsReady (desk_after s news desk).session
step_ends capacity setup past news desk tally p (step.Stock addr count) sound some between gives at on few is shows =
    absurd (one_shows p news (entry.Stock addr count ∷ []) gives shows)
step_ends capacity setup past news desk tally p (step.Change first amount) sound some between gives at on few is shows =
    absurd (change_shows p first amount desk.session
    (one_shows p news (change_entry first amount desk.session ∷ []) gives shows))
step_ends capacity setup past news desk tally p step.Serve sound some between gives at on few is shows = absurd between
step_ends capacity setup past news desk tally p s sound some between gives at on few is shows =
    let ids = (books_legal capacity setup at.steps past sound at.in_range at.legal).0 in
    session_ends setup past news p desk.trays (most_made tally) tally.made desk.session
    (step_goes capacity setup past news desk s sound gives at on) is few.few (shows_end (pay_of p) p.addr news shows)
    (step_closes setup past p.addr p.id p.count capacity news s some ids (tells capacity setup past news s gives) shows)

-- so it is at the end of the steps of a block
ready_along : (capacity : ℕ) (setup : Setup) (past : List Entry) (desk : Desk) (tally : Tally) (steps : List Step)
    (end : List Entry) (last : Desk) (found : Tally) → All IsBetween steps →
    AlongFrom tally_after capacity setup past desk tally steps end last found → IsReady desk.session →
    IsReady last.session × (found.made ≡ tally.made)
ready_along capacity setup past desk tally [] end last found between told ready =
    (subst (λ (d : Desk). IsReady d.session) (sym told.1) ready, ap (λ (t : Tally). t.made) told.2)
ready_along capacity setup past desk tally (s ∷ steps) end last found between told ready =
    let here = All-head IsBetween s steps between in
    let later = ready_along capacity setup (told.0 ++ past) (desk_after s told.0 desk) (tally_after s told.0 desk tally)
    steps end last found (All-tail IsBetween s steps between) told.2 (ready_between s told.0 desk here ready) in
    (later.0, later.1 ∙ tally_between s told.0 desk tally here (ready_runs desk.session ready))

shows_either : (c : Command) (addr : ℕ) (more news : List Entry) → ShowsEnd c addr (more ++ news) →
    ShowsEnd c addr more ⊎ ShowsEnd c addr news
shows_either c addr [] news shows = inr shows
shows_either c addr (entry.Ended other end ∷ more) news (inl here) = inl (inl here)
shows_either c addr (entry.Ended other end ∷ more) news (inr later) =
    elim (shows_either c addr more news later) [ inl first ↦ inl (inr first) | inr second ↦ inr second ]
shows_either c addr (e ∷ more) news shows = shows_either c addr more news shows

ends_along : (capacity : ℕ) (setup : Setup) (past : List Entry) (desk : Desk) (tally : Tally) (p : Payment)
    (steps : List Step) (end : List Entry) (last : Desk) (found : Tally) (more : List Entry) → IsSoundSetup setup →
    1 ≤ p.addr → All IsBetween steps → AlongFrom tally_after capacity setup past desk tally steps end last found →
    Stands capacity setup past desk → IsFew past desk tally → MadeLast p desk.session → end ≡ more ++ past →
    Shows p more → IsReady last.session × (found.made ≡ tally.made)
ends_along capacity setup past desk tally p [] end last found more sound some between told at few is whole shows =
    absurd (subst (Shows p) (append_cancel_right more [] past (sym whole ∙ told.0)) shows)
ends_along capacity setup past desk tally p (s ∷ steps) end last found more sound some between told at few is whole shows =
    let news = told.0 in
    let next = desk_after s news desk in
    let left = tally_after s news desk tally in
    let here = All-head IsBetween s steps between in
    let rest = All-tail IsBetween s steps between in
    let range = between_range s here in
    let on = stands_on capacity setup past news desk s range told.1 at in
    let few_on = keeps_few capacity setup sound past news desk tally s range told.1 at on few in
    let grown = desk_grown capacity setup (news ++ past) next steps end last
    (along_desk tally_after capacity setup (news ++ past) next left steps end last found told.2) in
    let parts : more ≡ grown.0 ++ news =
    append_cancel_right more (grown.0 ++ news) past (sym whole ∙ grown.1 ∙ sym (append_assoc grown.0 news past)) in
    let same = tally_between s news desk tally here (made_runs p desk.session is) in
    elim (shows_either (pay_of p) p.addr grown.0 news (subst (Shows p) parts shows)) [
      | inl later ↦ (
          let after = ends_along capacity setup (news ++ past) next left p steps end last found grown.0 sound some rest
          told.2 on few_on (made_between p s news desk here is) grown.1 later in
          (after.0, after.1 ∙ same))
      | inr now ↦ (
          let ready = step_ends capacity setup past news desk tally p s sound some here told.1 at on few is now in
          let after = ready_along capacity setup (news ++ past) next left steps end last found rest told.2 ready in
          (after.0, after.1 ∙ same))
    ]

-- a `serve` of a session that is ready shows its end, or makes a payment

pub record Pays (news : List Entry) (session : Option Session) : Type 0 where
  pub payment : Payment
  pub told : news ≡ entry.Taken (pay_of payment) ∷ []
  pub last : MadeLast payment session

ServeGoes : List Entry → Option Session → Type 0
ServeGoes news session = (list_any is_session_end news ≡ true) ⊎ Pays news session

pays_by : (trays : List Tray) (s : Session) (p : Payment) (why : Option CommandNo) →
    ServeGoes (pay_entries s p why) (gone_on (pay_entries s p why) trays s).session
unfolding ServeGoes
pays_by trays s p None = inr (record { payment = p; told = refl; last = refl })
pays_by trays s p (Some why) = inl refl

serve_as : (news is : List Entry) (session : List Entry → Option Session) → news ≡ is → ServeGoes is (session is) →
    ServeGoes news (session news)
serve_as news is session same goes = subst (λ es. ServeGoes es (session es)) (sym same) goes

goes_on_pays : (capacity : ℕ) (setup : Setup) (past news : List Entry) (trays : List Tray) (s : Session) →
    GoesOn capacity setup past trays s news → ServeGoes news (gone_on news trays s).session
unfolding ServeGoes
goes_on_pays capacity setup past news trays s goes = by_rest (s.rest == 0) goes
  where
    by_rest : (none : Bool) →
        MatchBool none (news ≡ entry.Served s.amount ∷ []) (PaysOn capacity setup past trays s news) →
        ServeGoes news (gone_on news trays s).session
    by_rest true gives =
        serve_as news (entry.Served s.amount ∷ []) (λ es. (gone_on es trays s).session) gives (inl refl)
    by_rest false (inl stuck) =
        serve_as news (short_entry s ∷ []) (λ es. (gone_on es trays s).session) stuck.1 (inl refl)
    by_rest false (inr paid) =
        let why = refusal capacity setup past (pay_of paid.0) in
        serve_as news (pay_entries s paid.0 why) (λ es. (gone_on es trays s).session) paid.2
        (pays_by trays s paid.0 why)

due_pays : (capacity : ℕ) (setup : Setup) (past news : List Entry) (trays : List Tray) (s : Session) (due : Due)
    (phase : Phase) → (IsWaiting phase → ⊥) → Settles capacity setup past trays s due phase news →
    ServeGoes news (served_due news trays s due phase).session
unfolding ServeGoes
due_pays capacity setup past news trays s due Begun ready gives = absurd (ready tt)
due_pays capacity setup past news trays s due Opened ready gives = absurd (ready tt)
due_pays capacity setup past news trays s due Odd ready gives =
    serve_as news (entry.ServeOdd due.payment.id ∷ []) (λ es. None) gives (inl refl)
due_pays capacity setup past news trays s due phase ready gives =
    goes_on_pays capacity setup past news (settled_trays due trays) (settled trays due s) gives

by_pays : (capacity : ℕ) (setup : Setup) (past news : List Entry) (trays : List Tray) (s : Session) (due : Option Due) →
    IsReadyBy due → ServesDue capacity setup past trays s due news → ServeGoes news (served_by news trays s due).session
by_pays capacity setup past news trays s None ready gives = goes_on_pays capacity setup past news trays s gives
by_pays capacity setup past news trays s (Some due) ready gives =
    due_pays capacity setup past news trays s due due.phase ready gives

serve_pays : (capacity : ℕ) (setup : Setup) (past news : List Entry) (trays : List Tray) (session : Option Session) →
    IsReady session → Serves capacity setup past trays session news → ServeGoes news (served news trays session).session
serve_pays capacity setup past news trays None ready gives = absurd ready
serve_pays capacity setup past news trays (Some s) ready gives =
    by_pays capacity setup past news trays s s.due ready gives

-- a block in which a payment was made lets its job end
due_lets : (setup : Setup) (p : Payment) (due : Option Due) (steps : List Step) (past end : List Entry) → DueIs p due →
    LetsEndBy setup due steps past end → LetsEnd setup p steps past end
due_lets setup p None steps past end is lets = absurd is
due_lets setup p (Some due) steps past end is lets = subst (λ q. LetsEnd setup q steps past end) (sym is) lets

lets_of : (setup : Setup) (p : Payment) (session : Option Session) (steps : List Step) (past end : List Entry) →
    MadeLast p session → LetsPaymentEnd setup session steps past end → LetsEnd setup p steps past end
lets_of setup p None steps past end is lets = absurd is
lets_of setup p (Some s) steps past end is lets = due_lets setup p s.due steps past end is lets

pub all_range : (steps : List Step) → All IsBetween steps → All IsInRange steps
all_range [] between = All-nil IsInRange
all_range (s ∷ steps) between =
    All-cons IsInRange s steps (between_range s (All-head IsBetween s steps between))
    (all_range steps (All-tail IsBetween s steps between))

pub block_ends : (capacity : ℕ) (setup : Setup) (past news : List Entry) (desk : Desk) (tally : Tally) (p : Payment)
    (block : List Step) (later : List Entry) (last : Desk) (left : Tally) → IsSoundSetup setup →
    EntriesAtDesk capacity setup past desk step.Serve news → Stands capacity setup past desk →
    Stands capacity setup (news ++ past) (desk_after step.Serve news desk) →
    IsFew (news ++ past) (desk_after step.Serve news desk) tally → news ≡ entry.Taken (pay_of p) ∷ [] →
    MadeLast p (desk_after step.Serve news desk).session → All IsBetween block →
    AlongFrom tally_after capacity setup (news ++ past) (desk_after step.Serve news desk) tally block later last left →
    LetsPaymentEnd setup (desk_after step.Serve news desk).session block (news ++ past) later →
    IsReady last.session × (left.made ≡ tally.made)
block_ends capacity setup past news desk tally p block later last left sound gives at on few told is between goes lets =
    let next = desk_after step.Serve news desk in
    let begins = begins_pay capacity setup past p.addr p.id p.count
    (subst (Entries capacity setup past step.Serve) told
    (entries_legal capacity setup past desk step.Serve news at.right gives)) in
    let d = begins.device in
    let own_there : device_at setup.devices p.addr ≡ Some d = ap (device_at setup.devices) begins.here ∙ begins.own in
    let lets_it = lets_of setup p next.session block (news ++ past) later is lets d own_there in
    let legal = (at_desk_legal capacity setup (news ++ past) next block later last (all_range block between) on.right
    (along_desk tally_after capacity setup (news ++ past) next tally block later last left goes)).0 in
    let begun : job (lines_of d (news ++ past)) ≡ works (pay_of p) [] =
    subst (λ es. job (lines_of d (es ++ past)) ≡ works (pay_of p) []) (sym told) begins.begins in
    let ends = job_ends capacity setup on.steps (news ++ past) d (pay_of p) block later sound begins.own begins.in_range
    begins.suited on.legal begun lets_it.0 legal lets_it.1 (λ pays. lets_it.2) in
    let low = (found_in IsSound setup.devices d.addr d sound.devices begins.own).0.low in
    let here = begins.here in
    ends_along capacity setup (news ++ past) next tally p block later last left ends.0 sound (omega (arith, low, here))
    between goes on few is ends.1 (subst (λ a. ShowsEnd (pay_of p) a ends.0) (sym here) ends.2)

-- one block after the other
pub any_later : (test : Entry → Bool) (more news : List Entry) → list_any test news ≡ true → list_any test (more ++ news) ≡ true
any_later test [] news some = some
any_later test (e ∷ more) news some =
    or_right (test e) (list_any test (more ++ news)) (any_later test more news some)

any_first : (test : Entry → Bool) (more news : List Entry) → list_any test more ≡ true → list_any test (more ++ news) ≡ true
any_first test [] news some = absurd cc
any_first test (e ∷ more) news some =
    elim (or_cases (test e) (list_any test more) some) [
      | inl here ↦ or_left (test e) (list_any test (more ++ news)) here
      | inr later ↦ or_right (test e) (list_any test (more ++ news)) (any_first test more news later)
    ]

-- a past goes on to another, and an entry between them passes a test
abbrev pub ToldBy : (Entry → Bool) → List Entry → List Entry → Type 0
ToldBy test past end = (news : List Entry) × (end ≡ news ++ past) × (list_any test news ≡ true)

pub told_later : (test : Entry → Bool) (past news end : List Entry) → ToldBy test (news ++ past) end → ToldBy test past end
told_later test past news end tells =
    (tells.0 ++ news, tells.1 ∙ sym (append_assoc tells.0 news past), any_first test tells.0 news tells.2)

pub told_now : (test : Entry → Bool) (past news later end more : List Entry) → later ≡ more ++ (news ++ past) →
    (grown : (es : List Entry) × (end ≡ es ++ later)) → list_any test news ≡ true → ToldBy test past end
told_now test past news later end more is grown some = (
  grown.0 ++ (more ++ news),
  grown.1 ∙ ap (λ es. grown.0 ++ es) (is ∙ sym (append_assoc more news past))
      ∙ sym (append_assoc grown.0 (more ++ news) past),
  any_later test grown.0 (more ++ news) (any_later test more news some),
)

pub blocks_grown : {A : Type 0} (after : Step → List Entry → Desk → A → A)
    (Wanted : List Entry → List Step → Desk → A → Type 0) (capacity : ℕ) (setup : Setup) (past : List Entry) (desk : Desk)
    (kept : A) (blocks : List (List Step)) (end : List Entry) (last : Desk) (found : A) →
    InBlocks after Wanted capacity setup past desk kept blocks end last found → (more : List Entry) × (end ≡ more ++ past)
blocks_grown after Wanted capacity setup past desk kept [] end last found told = ([], told.0)
blocks_grown after Wanted capacity setup past desk kept (block ∷ blocks) end last found told =
    let news = told.0 in
    let next = desk_after step.Serve news desk in
    let left = after step.Serve news desk kept in
    let first = desk_grown capacity setup (news ++ past) next block told.3 told.4
    (along_desk after capacity setup (news ++ past) next left block told.3 told.4 told.5 told.6) in
    let later = blocks_grown after Wanted capacity setup told.3 told.4 told.5 blocks end last found told.9 in (
      later.0 ++ (first.0 ++ news),
      later.1 ∙ ap (λ es. later.0 ++ es) (first.1 ∙ sym (append_assoc first.0 news past))
          ∙ sym (append_assoc later.0 (first.0 ++ news) past),
    )

MadeAll : Tally → List (List Step) → List Entry → Desk → Tally → Type 0
MadeAll tally blocks end last found = (found.made ≡ tally.made + length blocks) × IsFew end last found

in_blocks : (Wanted : List Entry → List Step → Desk → Tally → Type 0) (capacity : ℕ) (setup : Setup) (past : List Entry) (desk : Desk) (tally : Tally) (blocks : List (List Step))
    (end : List Entry) (last : Desk) (found : Tally) → IsSoundSetup setup → Stands capacity setup past desk →
    IsFew past desk tally → IsReady desk.session → InBlocks tally_after Wanted capacity setup past desk tally blocks end last found →
    TellsEnd past end ⊎ MadeAll tally blocks end last found
unfolding ServeGoes MadeAll
in_blocks Wanted capacity setup past desk tally [] end last found sound at few ready told =
    let same = ap (λ (t : Tally). t.made) told.2 in
    inr (
      omega (arith, same),
      subst (λ e. IsFew e last found) (sym told.0)
          (subst (λ d. IsFew past d found) (sym told.1) (subst (IsFew past desk) (sym told.2) few)),
    )
in_blocks Wanted capacity setup past desk tally (block ∷ blocks) end last found sound at few ready told =
    let news = told.0 in
    let next = desk_after step.Serve news desk in
    let left = tally_after step.Serve news desk tally in
    let on = stands_on capacity setup past news desk step.Serve tt told.1 at in
    let few_on = keeps_few capacity setup sound past news desk tally step.Serve tt told.1 at on few in
    elim (serve_pays capacity setup past news desk.trays desk.session ready told.1) [
      | inl ends ↦ (
          let first = desk_grown capacity setup (news ++ past) next block told.3 told.4
          (along_desk tally_after capacity setup (news ++ past) next left block told.3 told.4 told.5 told.6) in
          inl (told_now is_session_end past news told.3 end first.0 first.1
          (blocks_grown tally_after Wanted capacity setup told.3 told.4 told.5 blocks end last found told.9) ends))
      | inr pays ↦ (
          let ended = block_ends capacity setup past news desk left pays.payment block told.3 told.4 told.5 sound told.1
          at on few_on pays.told pays.last told.2 told.6 told.7 in
          let after = along_from tally_after capacity setup IsFew (keeps_few capacity setup sound) (news ++ past) next left
          block told.3 told.4 told.5 (all_range block told.2) told.6 on few_on in
          let one : taken_in news ≡ 1 = ap taken_in pays.told in
          let same = ended.1 in
          let first = desk_grown capacity setup (news ++ past) next block told.3 told.4
          (along_desk tally_after capacity setup (news ++ past) next left block told.3 told.4 told.5 told.6) in
          elim (in_blocks Wanted capacity setup told.3 told.4 told.5 blocks end last found sound after.0 after.1 ended.0 told.9) [
            | inl tells ↦ inl (told_later is_session_end past (first.0 ++ news) end
                (subst (λ es. TellsEnd es end) (first.1 ∙ sym (append_assoc first.0 news past)) tells))
            | inr made ↦ (let all = made.0 in inr (omega (arith, all, same, one), made.1))
          ])
    ]

-- so a session ends, if there are more blocks than it can make payments
pub blocks_end : (Wanted : List Entry → List Step → Desk → Tally → Type 0) (capacity : ℕ) (setup : Setup) (steps : List Step) (past : List Entry) (desk : Desk) (tally : Tally)
    (blocks : List (List Step)) (end : List Entry) (last : Desk) (found : Tally) → IsSoundSetup setup →
    All IsInRange steps → TalliesTo capacity setup steps past desk tally → IsReady desk.session →
    InBlocks tally_after Wanted capacity setup past desk tally blocks end last found → most_made found < tally.made + length blocks →
    TellsEnd past end
unfolding MadeAll
blocks_end Wanted capacity setup steps past desk tally blocks end last found sound range tallies ready told enough =
    let run = few_run capacity setup steps past desk tally sound range tallies in
    elim (in_blocks Wanted capacity setup past desk tally blocks end last found sound run.0 run.1 ready told) [
      | inl tells ↦ tells
      | inr made ↦ (
          let few = (few_in last.trays (records end) (most_made found) found.made last.session made.1.single
          made.1.few).0 in
          let all = made.0 in
          absurd (omega (arith, few, all, enough)))
    ]
