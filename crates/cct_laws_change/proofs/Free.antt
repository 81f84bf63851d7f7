-- A session is free to pay: what is left of its amount is available, its next id is above all others, and nothing holds the
-- hoppers but its own payment. Each step keeps this, unless the operator asks for what its payments need; and where it is so,
-- no payment is refused that the journal has room for.
use Rattle.std.proofs.Common.{◌≡◌, ◌≢◌, inl, inr, ℕ, ◌+◌, ◌*◌, ◌<◌, ◌≤◌, ◌==◌, ◌&&◌, ◌||◌, nat_le, not, Bool, true, false, cond, List, [], ◌∷◌, ◌++◌, length, refl, ap, sym, ◌∙◌, subst, Option, Some, None, All, arith, eq-eqb, eqb-true, le-leb}
use Rattle.std.specs.Prelude.{MatchBool, ⊤}
use Rattle.std.specs.List.{list_any}
use Rattle.std.specs.Option.{option_map, option_or}
use Rattle.std.proofs.lemmas.Bool.{and_from}
use Rattle.std.proofs.lemmas.Bool.Decides.{nat_tests}
use Rattle.std.proofs.lemmas.List.{append_cancel_right}
use Rattle.std.proofs.lemmas.List.Elements.{All-cons, All-head, All-nil, All-tail}
use Rattle.cct_model.specs.terms.device.DeviceBody.{DeviceBody}
use Rattle.cct_model.specs.terms.device.DeviceBody.TheVariants.{Acceptor, Bill, Hopper}
use Rattle.cct_model.specs.terms.device.DeviceSetup.{DeviceSetup}
use Rattle.cct_model.specs.terms.device.Setup.{Setup}
use Rattle.cct_model.specs.lines.record.Record.{Record}
use Rattle.cct_model.specs.lines.record.Record.TheVariants as record_of
use Rattle.cct_model.specs.declared.change.Due.{Due}
use Rattle.cct_model.specs.declared.change.Payment.{Payment}
use Rattle.cct_model.specs.declared.change.Phase.{Phase}
use Rattle.cct_model.specs.declared.change.Phase.TheVariants.{Begun, Opened, Closed, Odd, Lost}
use Rattle.cct_model.specs.declared.change.Session.{Session}
use Rattle.cct_model.specs.declared.change.Tray.{Tray}
use Rattle.cct_model.specs.declared.judging.OpenOrder.{OpenOrder}
use Rattle.cct_model.specs.lines.command.Command.{Command}
use Rattle.cct_model.specs.lines.command.Command.TheVariants as command
use Rattle.cct_model.specs.lines.command.CommandNo.{CommandNo}
use Rattle.cct_model.specs.lines.command.CommandNo.TheVariants.{Busy, JournalFull, OldId, Short, WrongKind}
use Rattle.cct_model.specs.lines.command.Step.{Step}
use Rattle.cct_model.specs.lines.command.Step.TheVariants as step
use Rattle.cct_model.specs.lines.entry.Entry.{Entry}
use Rattle.cct_model.specs.lines.entry.Entry.TheVariants as entry
use Rattle.cct_model.specs.AtDesk.{EntriesAtDesk}
use Rattle.cct_model.specs.Change.{Desk, GoesOn, PaysNext, PaysOn, Serves, ServesDue, Settles, closed_in, desk_after, due_after, gone_on, is_end_at, is_opening, pay_entries, phase_after, served, served_by, served_due, session_after, settled, settled_trays, short_entry, stock_left, value_in}
use Rattle.cct_model.specs.Device.{IsHopper, is_hopper}
use Rattle.cct_model.specs.Exchange.{device_at}
use Rattle.cct_model.specs.Legal.{Entries}
use Rattle.cct_model.specs.Line.{Line, put}
use Rattle.cct_model.specs.Order.{order, order_by}
use Rattle.cct_model.specs.Job.{Job, address_of, free, job, works}
use Rattle.cct_model.specs.Rows.{TableRow, done, new_order, puts_due, rest, rows_of}
use Rattle.cct_model.specs.Money.{available, coins_of, posted_in, spoken_for}
use Rattle.cct_model.specs.Records.{opened_in, hopper_of, order_in, records}
use Rattle.cct_model.specs.Refusal.{first_of, held, is_busy, last_id, need_for, order_refusal, refusal, room_fails, room_refusal, state_fails, state_refusal, state_tests, tests_of, unless, view_of}
use Rattle.cct_model.specs.Setup.{IsSoundSetup}
use Rattle.cct_model.specs.Transcript.{lines_of}
use Rattle.cct_model.proofs.OpenOrders.{order_own}
use Rattle.cct_model.proofs.Rows.{EachRow, each_after}
use Rattle.cct_laws.specs.DeviceJobs.{suits}
use Rattle.cct_laws.specs.Law.{IsOf}
use Rattle.cct_laws.proofs.steps.AtTheDesk.{entries_legal}
use Rattle.cct_laws.proofs.steps.EachKeeps.{works_at}
use Rattle.cct_laws.proofs.setups.DeviceAt.{same_some}
use Rattle.cct_laws.proofs.jobs.StepBrings.{AtWork}
use Rattle.cct_laws.proofs.jobs.SeenAtOne.{lines_taken}
use Rattle.cct_laws.proofs.jobs.EntriesOfStep.{over_telling, tells}
use Rattle.cct_laws.proofs.jobs.LeftAlone.{row_uses, same_taken}
use Rattle.cct_laws.proofs.money.Books.{books_legal}
use Rattle.cct_laws.proofs.money.FromRecordsAlone.{order_recorded}
use Rattle.cct_laws.proofs.money.Reserved.{spent_by}
use Rattle.cct_laws.proofs.orders.Opening.{Opens, UsesOwn}
use Rattle.cct_laws.proofs.orders.Orders.{Belongs, belongs_all}
use Rattle.cct_laws.proofs.orders.UsedIds.{one_more, same_records}
use Rattle.cct_laws.proofs.orders.UsedIds as used
use Rattle.cct_laws_change.specs.Blocks.{is_refusal}
use Rattle.cct_laws_change.specs.Course.{CanBegin, IsUnrelated, commands_in, needs_in}
use Rattle.cct_laws_change.specs.Tally.{is_whole, is_whole_by, is_whole_in}
use Rattle.cct_laws_change.proofs.Along.{Stands}
use Rattle.cct_laws_change.proofs.Below.{AreBelow, IsIdBelow, below_last, below_more, below_on, last_below}
use Rattle.cct_laws_change.proofs.Ends.{pay_of}
use Rattle.cct_laws_change.proofs.Few.{FewBy, FewIn, Goes, HasPhase, step_goes}
use Rattle.cct_laws_change.proofs.Grown.{GrowsBy, available_on, grows_step, spent_in}
use Rattle.cct_laws_change.proofs.Named.{IsOpenNow, records_of}
use Rattle.cct_laws_change.proofs.Planned.{with_due}
use Rattle.cct_laws_change.proofs.Taken.{BeginsPay, begins_pay}
use Rattle.cct_laws_change.proofs.Trays.{AreTrays, address_is, first_is, restocked_trays}
use Rattle.cct_laws_change.proofs.Turns.{IsClear, Turn, begins, clear_on, closed_clear, has_put, is_over, stays, turn_told, works_on}

-- ---- what is sure of each step

pub record Facts (setup : Setup) (past news : List Entry) : Type 0 where
  pub goes : Goes setup news past
  pub grows : GrowsBy setup past news
  pub covered : spoken_for setup past ≤ posted_in setup (records past)
  pub belongs : Belongs setup (records past)
  pub turns : (d : DeviceSetup) → IsOf setup d → Turn d past news
  pub suited : (d : DeviceSetup) → IsOf setup d → (c : Command) (since : List Line) → AtWork d past c since →
      suits d.body c ≡ true
  pub below : (n : ℕ) → AreBelow setup n past → All (IsIdBelow n) (commands_in news) → AreBelow setup n (news ++ past)

grows_forged : (setup : Setup) (past es : List Entry) (addr : ℕ) → GrowsBy setup past es →
    GrowsBy setup past (entry.Forged addr ∷ es)
grows_forged setup past es addr is = record { spends = is.spends; holds = is.holds }

pub facts : (capacity : ℕ) (setup : Setup) (past news : List Entry) (desk : Desk) (s : Step) → IsSoundSetup setup →
    EntriesAtDesk capacity setup past desk s news → Stands capacity setup past desk →
    Stands capacity setup (news ++ past) (desk_after s news desk) → Facts setup past news
facts capacity setup past news desk s sound gives at on =
    let kept = books_legal capacity setup at.steps past sound at.in_range at.legal in
    let told = tells capacity setup past news s (entries_legal capacity setup past desk s news at.right gives) in
    record {
      goes = step_goes capacity setup past news desk s sound gives at on;
      grows =
          over_telling capacity setup past news s (GrowsBy setup past) (grows_forged setup past) told
          (grows_step capacity setup past told.told s sound kept.0 kept.1 told.brings);
      covered = kept.1.counts.covered;
      belongs = belongs_all setup (records past) kept.1.counts.follow;
      turns = λ d own. turn_told capacity setup d past news s sound own kept.0 told;
      suited = λ d own c since at_work. (works_at d past c since at_work (kept.1.base.ranged d own)).suited;
      below = λ n. below_on capacity setup past news s n sound kept.0 told;
    }

-- what leaves a session alone spends nothing, and has no id
unspent : (setup : Setup) (c : Command) → IsUnrelated setup c → spent_by setup c ≡ 0
unspent setup (command.Pay addr id count) apart = absurd apart
unspent setup (command.Vend id price) apart = absurd apart
unspent setup c apart = refl

all_unspent : (setup : Setup) (cs : List Command) → All (IsUnrelated setup) cs → spent_in setup cs ≡ 0
all_unspent setup [] apart = refl
all_unspent setup (c ∷ cs) apart =
    let here = unspent setup c (All-head (IsUnrelated setup) c cs apart) in
    let later = all_unspent setup cs (All-tail (IsUnrelated setup) c cs apart) in
    omega (arith, here, later)

no_id : (setup : Setup) (n : ℕ) (c : Command) → IsUnrelated setup c → IsIdBelow n c
no_id setup n (command.Pay addr id count) apart = absurd apart
no_id setup n (command.Vend id price) apart = absurd apart
no_id setup n c apart = tt

no_ids : (setup : Setup) (n : ℕ) (cs : List Command) → All (IsUnrelated setup) cs → All (IsIdBelow n) cs
no_ids setup n [] apart = All-nil (IsIdBelow n)
no_ids setup n (c ∷ cs) apart =
    All-cons (IsIdBelow n) c cs (no_id setup n c (All-head (IsUnrelated setup) c cs apart))
    (no_ids setup n cs (All-tail (IsUnrelated setup) c cs apart))

-- ---- the hoppers beside a payment

-- the hopper of a payment, by what became of that: its own job is there, or its order may be open, or nothing holds it
abbrev pub AtPhase : DeviceSetup → List Entry → Payment → Phase → Type 0
AtPhase d past p Begun =
    (since : List Line) × (job (lines_of d past) ≡ works (pay_of p) since) × (order (lines_of d past) ≡ None)
AtPhase d past p (Closed paid unpaid) = IsClear d past
AtPhase d past p phase = ⊤

job_command : Job → Command
job_command free = command.Scan
job_command (works c since) = c

same_command : (c other : Command) (since later : List Line) → works c since ≡ works other later → c ≡ other
unfolding job_command
same_command c other since later is = ap job_command is

-- its job opens the payment's order
OpensAs : Payment → TableRow → Type 0
OpensAs p (puts_due (new_order id count) behind) = (id ≡ p.id) × (count ≡ p.count)
OpensAs p r = ⊤

opens_as : (p : Payment) (rows : List TableRow) (id count : ℕ) → EachRow (OpensAs p) rows → Opens id count rows →
    (id ≡ p.id) × (count ≡ p.count)
unfolding OpensAs
opens_as p (puts_due (new_order own many) behind ∷ rows) id count each opens =
    (sym opens.0 ∙ each.0.0, sym opens.1 ∙ each.0.1)
opens_as p rows id count each opens = absurd opens

pay_opens : (d : DeviceSetup) (p : Payment) → EachRow (OpensAs p) (rows_of d (pay_of p))
unfolding OpensAs
pay_opens d p = (tt, (tt, ((refl, refl), (tt, (tt, (tt, (tt, tt)))))))

opening_is : (d : DeviceSetup) (p : Payment) (since : List Line) (id addr count life : ℕ) →
    UsesOwn (record_of.Opened id addr count life) p.addr (rest d (pay_of p) since) →
    is_opening p (record_of.Opened id addr count life) ≡ true
opening_is d p since id addr count life own =
    let same = opens_as p (rest d (pay_of p) since) id count
    (each_after (OpensAs p) (rows_of d (pay_of p)) (done (rows_of d (pay_of p)) since) (pay_opens d p)) own.1 in
    and_from ((id == p.id) && (addr == p.addr)) (count == p.count)
    (and_from (id == p.id) (addr == p.addr) (eq-eqb id p.id same.0) (eq-eqb addr p.addr (sym own.0)))
    (eq-eqb count p.count same.1)

-- so a record of it that doesn't open that leaves no order open
put_none : (d : DeviceSetup) (p : Payment) (since : List Line) (r : Record) → UsesOwn r p.addr (rest d (pay_of p) since) →
    is_opening p r ≡ false → order_by r None ≡ None
put_none d p since (record_of.Opened id addr count life) own other =
    let is = opening_is d p since id addr count life own in absurd (clash (sym other ∙ is))
  where
    clash : false ≡ true → ⊥
    clash same = cc same
put_none d p since (record_of.Closed id paid unpaid) own other = refl
put_none d p since (record_of.Odd id life_before life_after) own other = refl
put_none d p since r own other = refl

alone : (b : Bool) → (b || false) ≡ false → b ≡ false
alone true is = cc is
alone false is = refl

one_ends : {A : Type 0} (at addr : ℕ) (news : List Entry) → at ≡ addr → list_any (is_end_at addr) news ≡ true →
    list_any (is_end_at at) news ≡ false → A
one_ends at addr news same ends none = absurd (clash (sym ends ∙ ap (λ a. list_any (is_end_at a) news) (sym same) ∙ none))
  where
    clash : true ≡ false → ⊥
    clash is = cc is

paying_on : (setup : Setup) (d : DeviceSetup) (past news : List Entry) (p : Payment) → p.addr ≡ d.addr →
    Turn d past news → list_any (is_opening p) (records news) ≡ false → list_any (is_end_at p.addr) news ≡ false →
    AtPhase d past p Begun → AtPhase d (news ++ past) p Begun
paying_on setup d past news p here (stays jobs orders) opens ends is = (is.0, jobs ∙ is.1, orders ∙ is.2)
paying_on setup d past news p here (begins c suited at is_free owed told jobs orders) opens ends is =
    absurd (busy (pay_of p) is.0 (sym is.1 ∙ is_free))
  where
    busy : (c : Command) (since : List Line) → works c since ≡ free → ⊥
    busy c since same = cc same
paying_on setup d past news p here (works_on c since later at jobs orders) opens ends is =
    let same = same_command c (pay_of p) since is.0 (sym at ∙ is.1) in
    (later, jobs ∙ ap (λ x. works x later) same, orders ∙ is.2)
paying_on setup d past news p here (is_over jobs over orders) opens ends is = one_ends p.addr d.addr news here over ends
paying_on setup d past news p here (has_put c since r at_work is_row only orders (inl goes)) opens ends is =
    let same = same_command c (pay_of p) since is.0 (sym at_work.job_is ∙ is.1) in
    let own = subst (λ x. UsesOwn r (address_of x) (rest d x since)) same (row_uses d past c since r is_row) in
    let other = alone (is_opening p r) (ap (list_any (is_opening p)) (sym only) ∙ opens) in (
      put r ∷ since,
      goes.0 ∙ ap (λ x. works x (put r ∷ since)) same,
      orders ∙ ap (order_by r) is.2 ∙ put_none d p since r own other,
    )
paying_on setup d past news p here (has_put c since r at_work is_row only orders (inr over)) opens ends is =
    one_ends p.addr d.addr news here over.1 ends

-- the record that closes its order leaves none open at its hopper
closed_by : (id addr paid unpaid : ℕ) (r : Record) (before : List Record) → closed_in id (r ∷ []) ≡ Closed paid unpaid →
    opened_in id before ≡ addr → order_in addr (r ∷ before) ≡ None
closed_by id addr paid unpaid (record_of.Closed closed p u) before is at = by_test (closed == id) refl is
  where
    by_test : (here : Bool) → (closed == id) ≡ here → cond here (Closed p u) Opened ≡ Closed paid unpaid →
        order_in addr (record_of.Closed closed p u ∷ before) ≡ None
    by_test true test same =
        order_own addr (record_of.Closed closed p u) before
        (ap (λ i. opened_in i before) (eqb-true closed id test) ∙ at)
    by_test false test same = cc same
closed_by id addr paid unpaid (record_of.Odd closed life_before life_after) before is at = by_test (closed == id) is
  where
    by_test : (here : Bool) → cond here Odd Opened ≡ Closed paid unpaid →
        order_in addr (record_of.Odd closed life_before life_after ∷ before) ≡ None
    by_test true same = cc same
    by_test false same = cc same
closed_by id addr paid unpaid r before is at = cc is

closed_none : (id addr paid unpaid : ℕ) (more before all : List Record) → used.Grows before all → all ≡ more ++ before →
    closed_in id more ≡ Closed paid unpaid → opened_in id before ≡ addr → order_in addr (more ++ before) ≡ None
closed_none id addr paid unpaid more before _ same_records same is at =
    absurd (never (subst (λ rs. closed_in id rs ≡ Closed paid unpaid) (sym (append_cancel_right [] more before same)) is))
  where
    never : Opened ≡ Closed paid unpaid → ⊥
    never e = cc e
closed_none id addr paid unpaid more before _ (one_more r is_new) same is at =
    let one = append_cancel_right (r ∷ []) more before same in
    subst (λ rs. order_in addr (rs ++ before) ≡ None) one
    (closed_by id addr paid unpaid r before (subst (λ rs. closed_in id rs ≡ Closed paid unpaid) (sym one) is) at)

-- an open order doesn't begin anew
either_apart : (here : Bool) (phase later : Phase) → (phase ≡ Begun → ⊥) → (later ≡ Begun → ⊥) →
    cond here phase later ≡ Begun → ⊥
either_apart true phase later first second is = first is
either_apart false phase later first second is = second is

never_begun : (id : ℕ) (rs : List Record) → closed_in id rs ≡ Begun → ⊥
never_begun id [] is = cc is
never_begun id (record_of.Closed closed paid unpaid ∷ rs) is =
    either_apart (closed == id) (Closed paid unpaid) (closed_in id rs) (λ same. cc same) (never_begun id rs) is
never_begun id (record_of.Odd closed life_before life_after ∷ rs) is =
    either_apart (closed == id) Odd (closed_in id rs) (λ same. cc same) (never_begun id rs) is
never_begun id (r ∷ rs) is = never_begun id rs is

opened_on : (setup : Setup) (d : DeviceSetup) (past news : List Entry) (p : Payment) → Facts setup past news →
    IsOf setup d → IsHopper d.body → p.addr ≡ d.addr → IsOpenNow p (records past) → (phase : Phase) →
    closed_in p.id (records news) ≡ phase → AtPhase d (news ++ past) p phase
opened_on setup d past news p f own paying here is (Closed paid unpaid) closes =
    let at = f.belongs.named p.id is.still in
    let there : at.order_is.addr ≡ d.addr = sym (ap hopper_of at.named) ∙ is.named.there ∙ here in
    let was = order_recorded d past ∙ ap (λ a. order_in a (records past)) (sym there) ∙ at.at_hopper in
    let none = order_recorded d (news ++ past) ∙ ap (order_in d.addr) (records_of news past)
    ∙ closed_none p.id d.addr paid unpaid (records news) (records past) (records (news ++ past)) f.goes.grows
    (records_of news past) closes (is.named.there ∙ here) in
    closed_clear d past news at.order_is paying (f.suited d own) (f.turns d own) was none
opened_on setup d past news p f own paying here is Begun closes = absurd (never_begun p.id (records news) closes)
opened_on setup d past news p f own paying here is Opened closes = tt
opened_on setup d past news p f own paying here is Odd closes = tt
opened_on setup d past news p f own paying here is Lost closes = tt

phase_turn : (setup : Setup) (d : DeviceSetup) (past news : List Entry) (p : Payment) (phase : Phase) →
    Facts setup past news → All (IsUnrelated setup) (commands_in news) → IsOf setup d → IsHopper d.body →
    p.addr ≡ d.addr → HasPhase (records past) p phase → AtPhase d past p phase →
    AtPhase d (news ++ past) p (phase_after p news phase)
phase_turn setup d past news p Begun f apart own paying here known is =
    by_tests (list_any (is_opening p) (records news)) (list_any (is_end_at p.addr) news) refl refl
  where
    by_tests : (opens ends : Bool) → list_any (is_opening p) (records news) ≡ opens →
        list_any (is_end_at p.addr) news ≡ ends → AtPhase d (news ++ past) p (cond opens Opened (cond ends Lost Begun))
    by_tests true ends first second = tt
    by_tests false true first second = tt
    by_tests false false first second = paying_on setup d past news p here (f.turns d own) first second is
phase_turn setup d past news p Opened f apart own paying here known is =
    opened_on setup d past news p f own paying here known (closed_in p.id (records news)) refl
phase_turn setup d past news p (Closed paid unpaid) f apart own paying here known is =
    clear_on setup d past news own paying (f.turns d own) apart is
phase_turn setup d past news p Odd f apart own paying here known is = tt
phase_turn setup d past news p Lost f apart own paying here known is = tt

-- each hopper, beside the payment that a session has to settle
abbrev pub AtHopper : DeviceSetup → List Entry → Option Due → Type 0
AtHopper d past None = IsClear d past
AtHopper d past (Some due) =
    MatchBool (due.payment.addr == d.addr) (AtPhase d past due.payment due.phase) (IsClear d past)

hopper_on : (setup : Setup) (d : DeviceSetup) (past news : List Entry) (due : Option Due) (trays : List Tray)
    (bound made left : ℕ) → Facts setup past news → All (IsUnrelated setup) (commands_in news) → IsOf setup d →
    IsHopper d.body → FewBy (records past) trays bound made left due → AtHopper d past due →
    AtHopper d (news ++ past) (option_map (due_after news) due)
hopper_on setup d past news None trays bound made left f apart own paying few is =
    clear_on setup d past news own paying (f.turns d own) apart is
hopper_on setup d past news (Some due) trays bound made left f apart own paying few is =
    by_here (due.payment.addr == d.addr) refl is
  where
    by_here : (here : Bool) → (due.payment.addr == d.addr) ≡ here →
        MatchBool here (AtPhase d past due.payment due.phase) (IsClear d past) →
        MatchBool here (AtPhase d (news ++ past) due.payment (phase_after due.payment news due.phase))
        (IsClear d (news ++ past))
    by_here true test at =
        phase_turn setup d past news due.payment due.phase f apart own paying
        (eqb-true due.payment.addr d.addr test) few.known at
    by_here false test at = clear_on setup d past news own paying (f.turns d own) apart at

-- ---- a session that is free to pay

-- what a payment that isn't settled takes of the money
abbrev pub in_flight : List Tray → Option Due → ℕ
in_flight trays None = 0
in_flight trays (Some due) = due.payment.count * value_in trays due.payment.addr

pub record IsFree (setup : Setup) (past : List Entry) (trays : List Tray) (s : Session) : Type 0 where
  pub ids : AreBelow setup s.next past
  pub money : s.rest ≤ available setup past + in_flight trays s.due
  pub clear : (d : DeviceSetup) → IsOf setup d → IsHopper d.body → AtHopper d past s.due

abbrev pub FreeIn : Setup → List Entry → List Tray → Option Session → Type 0
FreeIn setup past trays None = ⊤
FreeIn setup past trays (Some s) = IsFree setup past trays s

flight_on : (trays : List Tray) (news : List Entry) (due : Option Due) →
    in_flight trays (option_map (due_after news) due) ≡ in_flight trays due
flight_on trays news None = refl
flight_on trays news (Some due) = refl

-- another step keeps it
pub free_on : (setup : Setup) (past news : List Entry) (trays : List Tray) (bound made : ℕ) (s : Session) →
    Facts setup past news → All (IsUnrelated setup) (commands_in news) →
    FewBy (records past) trays bound made s.rest s.due → IsFree setup past trays s →
    IsFree setup (news ++ past) trays (session_after news s)
free_on setup past news trays bound made s f apart few is = record {
  ids = f.below s.next is.ids (no_ids setup s.next (commands_in news) apart);
  money =
      let money = is.money in
      let none = all_unspent setup (commands_in news) apart in
      let sinks = available_on setup past (news ++ past) (spent_in setup (commands_in news))
      (needs_in setup (commands_in news)) f.grows f.covered in
      let same = flight_on trays news s.due in
      omega (arith, money, none, sinks, same);
  clear = λ d own paying.
      hopper_on setup d past news s.due trays bound made s.rest f apart own paying few (is.clear d own paying);
}

-- entries of the desk that end nothing leave a session as it is
idle_phase : (p : Payment) (e : Entry) (phase : Phase) → records (e ∷ []) ≡ [] →
    list_any (is_end_at p.addr) (e ∷ []) ≡ false → phase_after p (e ∷ []) phase ≡ phase
idle_phase p e Begun none ends =
    ap (λ rs. cond (list_any (is_opening p) rs) Opened (cond (list_any (is_end_at p.addr) (e ∷ [])) Lost Begun)) none
    ∙ ap (λ b. cond b Lost Begun) ends
idle_phase p e Opened none ends = ap (closed_in p.id) none
idle_phase p e (Closed paid unpaid) none ends = refl
idle_phase p e Odd none ends = refl
idle_phase p e Lost none ends = refl

idle_due : (e : Entry) (due : Option Due) → records (e ∷ []) ≡ [] →
    ((addr : ℕ) → list_any (is_end_at addr) (e ∷ []) ≡ false) → option_map (due_after (e ∷ [])) due ≡ due
idle_due e None none ends = refl
idle_due e (Some due) none ends =
    ap (λ phase. Some (record { payment = due.payment; phase = phase }))
    (idle_phase due.payment e due.phase none (ends due.payment.addr))

pub idle_session : (e : Entry) (s : Session) → records (e ∷ []) ≡ [] →
    ((addr : ℕ) → list_any (is_end_at addr) (e ∷ []) ≡ false) → session_after (e ∷ []) s ≡ s
idle_session e s none ends =
    ap (λ due. record { amount = s.amount; rest = s.rest; next = s.next; due = due }) (idle_due e s.due none ends)

-- so over such an entry
pub free_idle : (setup : Setup) (past : List Entry) (e : Entry) (trays : List Tray) (bound made : ℕ) (s : Session) →
    Facts setup past (e ∷ []) → commands_in (e ∷ []) ≡ [] → records (e ∷ []) ≡ [] →
    ((addr : ℕ) → list_any (is_end_at addr) (e ∷ []) ≡ false) → FewBy (records past) trays bound made s.rest s.due →
    IsFree setup past trays s → IsFree setup (e ∷ past) trays s
free_idle setup past e trays bound made s f no_command none ends few is =
    subst (IsFree setup (e ∷ past) trays) (idle_session e s none ends)
    (free_on setup past (e ∷ []) trays bound made s f
    (subst (All (IsUnrelated setup)) (sym no_command) (All-nil (IsUnrelated setup))) few is)

-- a session begins so
pub free_begins : (setup : Setup) (past : List Entry) (trays : List Tray) (first amount : ℕ) →
    CanBegin setup past first amount →
    IsFree setup past trays (record { amount = amount; rest = amount; next = first; due = None })
free_begins setup past trays first amount can = record {
  ids = below_last setup first past can.ids;
  money = let money = can.money in omega (arith, money);
  clear = can.clear;
}

-- ---- its next payment isn't refused

-- a session whose payments are settled is free to pay
pub record IsFreeNow (setup : Setup) (past : List Entry) (s : Session) : Type 0 where
  pub ids : AreBelow setup s.next past
  pub money : s.rest ≤ available setup past
  pub clear : (d : DeviceSetup) → IsOf setup d → IsHopper d.body → IsClear d past

passes_by : (last id : ℕ) (hopper old : Bool) (j : Job) (owed : Option OpenOrder) → hopper ≡ true → j ≡ free →
    owed ≡ None → old ≡ false →
    option_or (unless hopper WrongKind) (option_or (unless (not (is_busy j)) Busy)
    (option_or (order_refusal owed) (cond old (Some (OldId last)) None))) ≡ None
passes_by last id true false free None first second third fourth = refl
passes_by last id true false free (Some o) first second third fourth = cc third
passes_by last id true false (works c since) owed first second third fourth = cc second
passes_by last id true true j owed first second third fourth = cc fourth
passes_by last id false old j owed first second third fourth = cc first

is_paying : (body : DeviceBody) → IsHopper body → is_hopper body ≡ true
is_paying (Acceptor accepts values ids) paying = absurd paying
is_paying (Hopper life value) paying = refl
is_paying (Bill accepts values ids) paying = absurd paying

state_passes : (setup : Setup) (past : List Entry) (d : DeviceSetup) (addr id count : ℕ) →
    device_at setup.devices addr ≡ Some d → IsHopper d.body → IsClear d past → last_id setup past < id →
    state_refusal setup past (command.Pay addr id count) ≡ None
state_passes setup past d addr id count found paying clear last =
    subst (λ there. first_of (state_fails (view_of there (lines_there there) (last_id setup past)))
    (state_tests (command.Pay addr id count)) ≡ None) (sym found)
    (passes_by (last_id setup past) id (is_hopper d.body) (nat_le id (last_id setup past)) (job (lines_of d past))
    (order (lines_of d past)) (is_paying d.body paying) clear.0 clear.1 (grind (arith, nat_tests, last)))
  where
    lines_there : Option DeviceSetup → List Line
    lines_there None = []
    lines_there (Some e) = lines_of e past

room_passes : (capacity : ℕ) (setup : Setup) (past : List Entry) (d : DeviceSetup) (addr id count : ℕ) →
    device_at setup.devices addr ≡ Some d → coins_of setup addr count ≤ available setup past →
    length (records past) + held setup past + 2 ≤ capacity →
    room_refusal capacity setup past (command.Pay addr id count) ≡ None
room_passes capacity setup past d addr id count found affords room =
    subst (λ there. first_of (room_fails capacity setup past (need_for there (command.Pay addr id count)))
    (tests_of (command.Pay addr id count)) ≡ None) (sym found)
    (by_tests (nat_le (coins_of setup addr count) (available setup past))
    (nat_le (length (records past) + held setup past + 2) capacity)
    (le-leb (coins_of setup addr count) (available setup past) affords)
    (le-leb (length (records past) + held setup past + 2) capacity room))
  where
    by_tests : (money fits : Bool) → money ≡ true → fits ≡ true →
        option_or (cond money None (Some (Short (available setup past))))
        (cond fits None (Some (JournalFull (length (records past)) (held setup past) 2))) ≡ None
    by_tests true true first second = refl
    by_tests true false first second = cc second
    by_tests false fits first second = cc first

none_or : (first second : Option CommandNo) → first ≡ None → second ≡ None → option_or first second ≡ None
none_or None second is other = other
none_or (Some why) second is other = cc is

pub unrefused : (capacity : ℕ) (setup : Setup) (past : List Entry) (trays : List Tray) (s : Session) (p : Payment) →
    IsSoundSetup setup → AreTrays setup trays → PaysNext trays s p → IsFreeNow setup past s →
    length (records past) + held setup past + 2 ≤ capacity → refusal capacity setup past (pay_of p) ≡ None
unrefused capacity setup past trays s p sound are next is room =
    let first = first_is setup trays next.counts p.addr p.count are next.pays in
    let h = first.hopper in
    let own = ap (device_at setup.devices) (address_is setup p.addr h) ∙ h.found in
    let fits = first.fits in
    let whole = next.chosen.fewest.plan.pays in
    let money = is.money in
    let last = last_below setup s.next past sound is.ids in
    let same = next.id in
    none_or (state_refusal setup past (pay_of p)) (room_refusal capacity setup past (pay_of p))
    (state_passes setup past h.device p.addr p.id p.count h.found h.hopper (is.clear h.device own h.hopper)
    (omega (arith, last, same)))
    (room_passes capacity setup past h.device p.addr p.id p.count h.found (omega (arith, fits, whole, money)) room)

-- ---- a `serve` keeps it

-- a payment that was closed with all its coins paid is settled so
pub settles_free : (setup : Setup) (past : List Entry) (trays : List Tray) (s : Session) (p : Payment) (paid unpaid : ℕ) →
    (unpaid == 0) ≡ true → paid + unpaid ≡ p.count → IsFree setup past trays (with_due s p (Closed paid unpaid)) →
    IsFreeNow setup past
    (settled trays (record { payment = p; phase = Closed paid unpaid }) (with_due s p (Closed paid unpaid)))
settles_free setup past trays s p paid unpaid none exact is = record {
  ids = is.ids;
  money =
      let money = is.money in
      let zero_left = eqb-true unpaid 0 none in
      let all : paid ≡ p.count = omega (arith, exact, zero_left) in
      let worth_is = ap (λ n. n * value_in trays p.addr) all in
      omega (arith, money, worth_is);
  clear = λ d own paying. by_here d (p.addr == d.addr) (is.clear d own paying);
}
  where
    by_here : (d : DeviceSetup) (here : Bool) → MatchBool here (IsClear d past) (IsClear d past) → IsClear d past
    by_here d true at = at
    by_here d false at = at

-- one that is taken goes on to be paid
pays_free : (setup : Setup) (past : List Entry) (trays : List Tray) (s : Session) (p : Payment) →
    Facts setup past (entry.Taken (pay_of p) ∷ []) → BeginsPay setup past p.addr p.id p.count → AreTrays setup trays →
    PaysNext trays s p → IsFreeNow setup past s →
    IsFree setup (entry.Taken (pay_of p) ∷ past) trays (record {
      amount = s.amount;
      rest = s.rest;
      next = s.next + 1;
      due = Some (record { payment = p; phase = Begun });
    })
pays_free setup past trays s p f begins_it are next is = record {
  ids =
      let same = next.id in
      f.below (s.next + 1) (below_more setup s.next past is.ids)
      (All-cons (IsIdBelow (s.next + 1)) (pay_of p) [] (omega (arith, same)) (All-nil (IsIdBelow (s.next + 1))));
  money =
      let money = is.money in
      let sinks = available_on setup past (entry.Taken (pay_of p) ∷ past) (spent_in setup (pay_of p ∷ []))
      (needs_in setup (pay_of p ∷ [])) f.grows f.covered in
      let value : p.count * value_in trays p.addr ≡ coins_of setup p.addr p.count =
      ap (λ v. p.count * v) (first_is setup trays next.counts p.addr p.count are next.pays).value_is in
      omega (arith, money, sinks, value);
  clear = λ d own paying. by_here d own paying (p.addr == d.addr) refl;
}
  where
    by_here : (d : DeviceSetup) → IsOf setup d → IsHopper d.body → (here : Bool) → (p.addr == d.addr) ≡ here →
        MatchBool here (AtPhase d (entry.Taken (pay_of p) ∷ past) p Begun) (IsClear d (entry.Taken (pay_of p) ∷ past))
    by_here d own paying true test =
        let here = eqb-true p.addr d.addr test in
        let same : begins_it.device ≡ d =
        same_some begins_it.device d
        (sym begins_it.own ∙ ap (device_at setup.devices) (sym begins_it.here ∙ here) ∙ own) in (
          [],
          subst (λ x. job (lines_of x (entry.Taken (pay_of p) ∷ past)) ≡ works (pay_of p) []) same begins_it.begins,
          ap order (lines_taken d past (pay_of p) here) ∙ (is.clear d own paying).1,
        )
    by_here d own paying false test =
        let other : p.addr ≢ d.addr = λ same. clash (sym test ∙ eq-eqb p.addr d.addr same) in
        let as_it_was = same_taken d past (pay_of p) other in
        let clear = is.clear d own paying in
        (as_it_was.jobs ∙ clear.0, as_it_was.orders ∙ clear.1)
      where
        clash : false ≡ true → ⊥
        clash same = cc same

free_as : (setup : Setup) (past news is : List Entry) (desk : List Entry → Desk) → news ≡ is →
    FreeIn setup (is ++ past) (desk is).trays (desk is).session →
    FreeIn setup (news ++ past) (desk news).trays (desk news).session
free_as setup past news is desk same holds =
    subst (λ es. FreeIn setup (es ++ past) (desk es).trays (desk es).session) (sym same) holds

goes_on_free : (capacity : ℕ) (setup : Setup) (past news : List Entry) (trays : List Tray) (s : Session) →
    Entries capacity setup past step.Serve news → Facts setup past news → AreTrays setup trays →
    IsFreeNow setup past s → GoesOn capacity setup past trays s news →
    FreeIn setup (news ++ past) (gone_on news trays s).trays (gone_on news trays s).session
goes_on_free capacity setup past news trays s entries f are is goes = by_rest (s.rest == 0) goes
  where
    by_why : (p : Payment) → PaysNext trays s p → (why : Option CommandNo) → news ≡ pay_entries s p why →
        FreeIn setup (news ++ past) (gone_on news trays s).trays (gone_on news trays s).session
    by_why p next None told =
        free_as setup past news (entry.Taken (pay_of p) ∷ []) (λ es. gone_on es trays s) told
        (pays_free setup past trays s p (subst (Facts setup past) told f)
        (begins_pay capacity setup past p.addr p.id p.count (subst (Entries capacity setup past step.Serve) told entries))
        are next is)
    by_why p next (Some why) told =
        free_as setup past news (pay_entries s p (Some why)) (λ es. gone_on es trays s) told tt

    by_rest : (none : Bool) →
        MatchBool none (news ≡ entry.Served s.amount ∷ []) (PaysOn capacity setup past trays s news) →
        FreeIn setup (news ++ past) (gone_on news trays s).trays (gone_on news trays s).session
    by_rest true gives = free_as setup past news (entry.Served s.amount ∷ []) (λ es. gone_on es trays s) gives tt
    by_rest false (inl stuck) = free_as setup past news (short_entry s ∷ []) (λ es. gone_on es trays s) stuck.1 tt
    by_rest false (inr paid) = by_why paid.0 paid.1 (refusal capacity setup past (pay_of paid.0)) paid.2

waits_free : (setup : Setup) (past news : List Entry) (trays : List Tray) (bound made addr : ℕ) (s : Session) →
    Facts setup past news → FewBy (records past) trays bound made s.rest s.due → IsFree setup past trays s →
    news ≡ entry.ServeWait addr ∷ [] → FreeIn setup (news ++ past) trays (Some s)
waits_free setup past news trays bound made addr s f few is gives =
    free_as setup past news (entry.ServeWait addr ∷ []) (λ es. record { session = Some s; trays = trays }) gives
    (free_idle setup past (entry.ServeWait addr) trays bound made s (subst (Facts setup past) gives f) refl refl
    (λ at. refl) few is)

due_free : (capacity : ℕ) (setup : Setup) (past news : List Entry) (trays : List Tray) (bound made : ℕ) (s : Session)
    (p : Payment) (phase : Phase) → Entries capacity setup past step.Serve news → Facts setup past news →
    AreTrays setup trays → FewBy (records past) trays bound made s.rest (Some (record { payment = p; phase = phase })) →
    is_whole phase ≡ true → IsFree setup past trays (with_due s p phase) →
    Settles capacity setup past trays (with_due s p phase) (record { payment = p; phase = phase }) phase news →
    FreeIn setup (news ++ past)
    (served_due news trays (with_due s p phase) (record { payment = p; phase = phase }) phase).trays
    (served_due news trays (with_due s p phase) (record { payment = p; phase = phase }) phase).session
due_free capacity setup past news trays bound made s p Begun entries f are few whole is gives =
    waits_free setup past news trays bound made p.addr (with_due s p Begun) f few is gives
due_free capacity setup past news trays bound made s p Opened entries f are few whole is gives =
    waits_free setup past news trays bound made p.addr (with_due s p Opened) f few is gives
due_free capacity setup past news trays bound made s p Odd entries f are few whole is gives = cc whole
due_free capacity setup past news trays bound made s p (Closed paid unpaid) entries f are few whole is gives =
    let due : Due = record { payment = p; phase = Closed paid unpaid } in
    let now = with_due s p (Closed paid unpaid) in
    goes_on_free capacity setup past news (settled_trays due trays) (settled trays due now) entries f
    (restocked_trays setup p.addr (stock_left (Closed paid unpaid)) trays are)
    (settles_free setup past trays s p paid unpaid whole few.known is) gives
due_free capacity setup past news trays bound made s p Lost entries f are few whole is gives = cc whole

now_free : (setup : Setup) (past : List Entry) (trays : List Tray) (amount left next : ℕ) →
    IsFree setup past trays (record { amount = amount; rest = left; next = next; due = None }) →
    IsFreeNow setup past (record { amount = amount; rest = left; next = next; due = None })
now_free setup past trays amount left next is = record {
  ids = is.ids;
  money = let money = is.money in omega (arith, money);
  clear = is.clear;
}

by_free : (capacity : ℕ) (setup : Setup) (past news : List Entry) (trays : List Tray) (bound made : ℕ) (s : Session)
    (due : Option Due) → Entries capacity setup past step.Serve news → Facts setup past news → AreTrays setup trays →
    FewBy (records past) trays bound made s.rest due → is_whole_by due ≡ true →
    IsFree setup past trays (record { amount = s.amount; rest = s.rest; next = s.next; due = due }) →
    ServesDue capacity setup past trays (record { amount = s.amount; rest = s.rest; next = s.next; due = due }) due news →
    FreeIn setup (news ++ past)
    (served_by news trays (record { amount = s.amount; rest = s.rest; next = s.next; due = due }) due).trays
    (served_by news trays (record { amount = s.amount; rest = s.rest; next = s.next; due = due }) due).session
by_free capacity setup past news trays bound made s None entries f are few whole is gives =
    goes_on_free capacity setup past news trays (record { amount = s.amount; rest = s.rest; next = s.next; due = None })
    entries f are (now_free setup past trays s.amount s.rest s.next is) gives
by_free capacity setup past news trays bound made s (Some due) entries f are few whole is gives =
    due_free capacity setup past news trays bound made s due.payment due.phase entries f are few whole is gives

pub serve_free : (capacity : ℕ) (setup : Setup) (past news : List Entry) (trays : List Tray) (bound made : ℕ)
    (session : Option Session) → Entries capacity setup past step.Serve news → Facts setup past news →
    AreTrays setup trays → FewIn (records past) trays bound made session → is_whole_in session ≡ true →
    FreeIn setup past trays session → Serves capacity setup past trays session news →
    FreeIn setup (news ++ past) (served news trays session).trays (served news trays session).session
serve_free capacity setup past news trays bound made None entries f are few whole is gives = tt
serve_free capacity setup past news trays bound made (Some s) entries f are few whole is gives =
    by_free capacity setup past news trays bound made s s.due entries f are few whole is gives

-- ---- and none of its payments is refused

abbrev pub NotRefused : List Entry → Type 0
NotRefused news = list_any is_refusal news ≡ false

goes_on_taken : (capacity : ℕ) (setup : Setup) (past news : List Entry) (trays : List Tray) (s : Session) →
    IsSoundSetup setup → AreTrays setup trays → IsFreeNow setup past s →
    length (records past) + held setup past + 2 ≤ capacity → GoesOn capacity setup past trays s news → NotRefused news
goes_on_taken capacity setup past news trays s sound are is room goes = by_rest (s.rest == 0) goes
  where
    by_rest : (none : Bool) →
        MatchBool none (news ≡ entry.Served s.amount ∷ []) (PaysOn capacity setup past trays s news) → NotRefused news
    by_rest true gives = ap (list_any is_refusal) gives
    by_rest false (inl stuck) = ap (list_any is_refusal) stuck.1
    by_rest false (inr paid) =
        let none = unrefused capacity setup past trays s paid.0 sound are paid.1 is room in
        ap (list_any is_refusal) (paid.2 ∙ ap (pay_entries s paid.0) none)

due_taken : (capacity : ℕ) (setup : Setup) (past news : List Entry) (trays : List Tray) (bound made : ℕ) (s : Session)
    (p : Payment) (phase : Phase) → IsSoundSetup setup → AreTrays setup trays →
    FewBy (records past) trays bound made s.rest (Some (record { payment = p; phase = phase })) →
    is_whole phase ≡ true → IsFree setup past trays (with_due s p phase) →
    length (records past) + held setup past + 2 ≤ capacity →
    Settles capacity setup past trays (with_due s p phase) (record { payment = p; phase = phase }) phase news →
    NotRefused news
due_taken capacity setup past news trays bound made s p Begun sound are few whole is room gives =
    ap (list_any is_refusal) gives
due_taken capacity setup past news trays bound made s p Opened sound are few whole is room gives =
    ap (list_any is_refusal) gives
due_taken capacity setup past news trays bound made s p Odd sound are few whole is room gives = cc whole
due_taken capacity setup past news trays bound made s p (Closed paid unpaid) sound are few whole is room gives =
    let due : Due = record { payment = p; phase = Closed paid unpaid } in
    goes_on_taken capacity setup past news (settled_trays due trays)
    (settled trays due (with_due s p (Closed paid unpaid))) sound
    (restocked_trays setup p.addr (stock_left (Closed paid unpaid)) trays are)
    (settles_free setup past trays s p paid unpaid whole few.known is) room gives
due_taken capacity setup past news trays bound made s p Lost sound are few whole is room gives = cc whole

by_taken : (capacity : ℕ) (setup : Setup) (past news : List Entry) (trays : List Tray) (bound made : ℕ) (s : Session)
    (due : Option Due) → IsSoundSetup setup → AreTrays setup trays → FewBy (records past) trays bound made s.rest due →
    is_whole_by due ≡ true →
    IsFree setup past trays (record { amount = s.amount; rest = s.rest; next = s.next; due = due }) →
    length (records past) + held setup past + 2 ≤ capacity →
    ServesDue capacity setup past trays (record { amount = s.amount; rest = s.rest; next = s.next; due = due }) due news →
    NotRefused news
by_taken capacity setup past news trays bound made s None sound are few whole is room gives =
    goes_on_taken capacity setup past news trays (record { amount = s.amount; rest = s.rest; next = s.next; due = None })
    sound are (now_free setup past trays s.amount s.rest s.next is) room gives
by_taken capacity setup past news trays bound made s (Some due) sound are few whole is room gives =
    due_taken capacity setup past news trays bound made s due.payment due.phase sound are few whole is room gives

pub serve_taken : (capacity : ℕ) (setup : Setup) (past news : List Entry) (trays : List Tray) (bound made : ℕ)
    (session : Option Session) → IsSoundSetup setup → AreTrays setup trays →
    FewIn (records past) trays bound made session → is_whole_in session ≡ true → FreeIn setup past trays session →
    length (records past) + held setup past + 2 ≤ capacity → Serves capacity setup past trays session news →
    NotRefused news
serve_taken capacity setup past news trays bound made None sound are few whole is room gives =
    ap (list_any is_refusal) gives
serve_taken capacity setup past news trays bound made (Some s) sound are few whole is room gives =
    by_taken capacity setup past news trays bound made s s.due sound are few whole is room gives
