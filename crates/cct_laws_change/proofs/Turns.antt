-- How a step turns the job and the open order at one device: it leaves them, or begins a job, or the job there goes on, puts a
-- record or ends. So a hopper that no job and no order holds stays so, whatever else the operator asks for, but an
-- identification, a payment and a sale; and where a record closes the order of a hopper, its job is over.
use Rattle.std.proofs.Common.{◌≡◌, ◌⊎◌, inl, inr, ℕ, ◌==◌, true, false, List, [], ◌∷◌, ◌++◌, refl, ap, sym, ◌∙◌, subst, Option, Some, None, All, rules, eq-eqb}
use Rattle.std.specs.Prelude.{⊤}
use Rattle.std.specs.List.{list_any}
use Rattle.std.proofs.lemmas.Bool.{or_left}
use Rattle.std.proofs.lemmas.List.Elements.{All-head}
use Rattle.cct_model.specs.terms.device.DeviceBody.{DeviceBody}
use Rattle.cct_model.specs.terms.device.DeviceBody.TheVariants.{Acceptor, Bill, Hopper}
use Rattle.cct_model.specs.terms.device.DeviceSetup.{DeviceSetup}
use Rattle.cct_model.specs.terms.device.Setup.{Setup}
use Rattle.cct_model.specs.lines.record.Record.{Record}
use Rattle.cct_model.specs.lines.record.Record.TheVariants as record_of
use Rattle.cct_model.specs.declared.judging.Judged.{Judged}
use Rattle.cct_model.specs.declared.judging.OpenOrder.{OpenOrder}
use Rattle.cct_model.specs.lines.command.Command.{Command}
use Rattle.cct_model.specs.lines.command.Command.TheVariants as command
use Rattle.cct_model.specs.lines.command.Step.{Step}
use Rattle.cct_model.specs.lines.entry.End.{End}
use Rattle.cct_model.specs.lines.entry.Entry.{Entry}
use Rattle.cct_model.specs.lines.entry.Entry.TheVariants as entry
use Rattle.cct_model.specs.Change.{is_end_at}
use Rattle.cct_model.specs.Device.{IsHopper, is_hopper}
use Rattle.cct_model.specs.Exchange.{ask, asked, device_at, hopper_there}
use Rattle.cct_model.specs.Setup.{IsSoundSetup}
use Rattle.cct_model.specs.Line.{Line, exchange, put, taken}
use Rattle.cct_model.specs.Order.{close, order, order_by}
use Rattle.cct_model.specs.Job.{Job, Noted, address_of, end_of_close, epoch, free, ident_requests, job, judged_in, noted_in, puts, with_line, works}
use Rattle.cct_model.specs.Rows.{TableRow, asks_for, asks_once, can_halt, done, end_kept, first, from, if_closed, new_order, order_end, puts_due, rest, rows_of, waits_for_coins}
use Rattle.cct_model.specs.Records.{records}
use Rattle.cct_model.specs.Legal.{with_end}
use Rattle.cct_model.specs.Transcript.{got_by, heard_after, lines_of, owner}
use Rattle.cct_model.proofs.Rows.{EachRow, RowHolds, due_holds, each_after, each_told, state_holds}
use Rattle.cct_laws.specs.DeviceJobs.{suits}
use Rattle.cct_laws.specs.Ids.{Ids}
use Rattle.cct_laws.specs.KeptHopper.{IsOwed}
use Rattle.cct_laws.specs.Law.{IsOf}
use Rattle.cct_laws.proofs.jobs.StepBrings.{AtDevice, AtWork, Brought, begun_at_work, came, halted, idled, made_exchange, made_put, record_end, row_after, took, wire_end, wire_of}
use Rattle.cct_laws.proofs.jobs.SeenAtOne.{ArePassed, Lost, Seen, bare, kept_elsewhere, kept_here, lines_ended, lines_kept, lines_kept_elsewhere, lines_put, lines_taken, lines_wire, passed_same, seen_aside, seen_from, seen_here, seen_lost}
use Rattle.cct_laws.proofs.jobs.EntriesOfStep.{Telling, over_telling}
use Rattle.cct_laws.proofs.jobs.LeftAlone.{same_came, same_dosed}
use Rattle.cct_laws.proofs.orders.Ids.{put_owned}
use Rattle.cct_laws_change.specs.Course.{IsUnrelated, commands_in}
use Rattle.cct_laws_change.proofs.Closing.{IsClosing}
use Rattle.cct_laws_change.proofs.Counted.{some_none}

-- after a put the job goes on, or has ended
abbrev pub AfterPut : DeviceSetup → List Entry → List Entry → Command → List Line → Record → Type 0
AfterPut d past news c since r =
    ((job (lines_of d (news ++ past)) ≡ works c (put r ∷ since)) × (record_end d past c since r ≡ None))
    ⊎ ((job (lines_of d (news ++ past)) ≡ free) × (list_any (is_end_at d.addr) news ≡ true))

-- the open order at a device stays
abbrev SameOrder : DeviceSetup → List Entry → List Entry → Type 0
SameOrder d past news = order (lines_of d (news ++ past)) ≡ order (lines_of d past)

pub data Turn (d : DeviceSetup) (past news : List Entry) : Type 0 where
  stays : job (lines_of d (news ++ past)) ≡ job (lines_of d past) → SameOrder d past news → Turn d past news
  begins : (c : Command) → suits d.body c ≡ true → address_of c ≡ d.addr → job (lines_of d past) ≡ free →
      IsOwed c (order (lines_of d past)) → commands_in news ≡ c ∷ [] →
      job (lines_of d (news ++ past)) ≡ works c [] → SameOrder d past news → Turn d past news
  works_on : (c : Command) (since later : List Line) → job (lines_of d past) ≡ works c since →
      job (lines_of d (news ++ past)) ≡ works c later → SameOrder d past news → Turn d past news
  is_over : job (lines_of d (news ++ past)) ≡ free → list_any (is_end_at d.addr) news ≡ true →
      SameOrder d past news → Turn d past news
  has_put : (c : Command) (since : List Line) (r : Record) → AtWork d past c since → row_after d past c since ≡ puts r →
      records news ≡ r ∷ [] → order (lines_of d (news ++ past)) ≡ order_by r (order (lines_of d past)) →
      AfterPut d past news c since r → Turn d past news

-- an exchange, and a put
asked_turn : (setup : Setup) (d : DeviceSetup) (past : List Entry) (c : Command) (since : List Line) (e : Entry)
    (l : Line) (end : Option End) → job (lines_of d past) ≡ works c since →
    job (lines_of d (e ∷ past)) ≡ with_line l (job (lines_of d past)) →
    order (lines_of d (e ∷ past)) ≡ order (lines_of d past) → Turn d past (with_end d.addr e end)
asked_turn setup d past c since e l None is jobs orders =
    works_on c since (l ∷ since) is (jobs ∙ ap (with_line l) is) orders
asked_turn setup d past c since e l (Some end) is jobs orders =
    is_over (ap job (lines_ended d (e ∷ past) end))
    (or_left (d.addr == d.addr) (list_any (is_end_at d.addr) (e ∷ [])) (eq-eqb d.addr d.addr refl))
    (ap order (lines_ended d (e ∷ past) end) ∙ orders)

put_turn : (d : DeviceSetup) (past : List Entry) (c : Command) (since : List Line) (r : Record) (end : Option End) →
    AtWork d past c since → row_after d past c since ≡ puts r → record_end d past c since r ≡ end →
    owner past r ≡ d.addr → Turn d past (with_end d.addr (entry.Put r) end)
put_turn d past c since r None at_work is_row is_end own =
    has_put c since r at_work is_row refl (ap order (lines_put d past r own))
    (inl (ap job (lines_put d past r own) ∙ ap (with_line (put r)) at_work.job_is, is_end))
put_turn d past c since r (Some end) at_work is_row is_end own =
    has_put c since r at_work is_row refl
    (ap order (lines_ended d (entry.Put r ∷ past) end) ∙ ap order (lines_put d past r own))
    (inr (
      ap job (lines_ended d (entry.Put r ∷ past) end),
      or_left (d.addr == d.addr) (list_any (is_end_at d.addr) (entry.Put r ∷ [])) (eq-eqb d.addr d.addr refl),
    ))

halt_turn : (d : DeviceSetup) (past : List Entry) (j : Job) → job (lines_of d past) ≡ j → can_halt d j ≡ true →
    Turn d past (entry.Taken (command.Halt d.addr) ∷ [])
halt_turn d past free is can = cc can
halt_turn d past (works c since) is can =
    let lines_are = lines_taken d past (command.Halt d.addr) refl in
    works_on c since (taken (command.Halt d.addr) ∷ since) is
    (ap job lines_are ∙ ap (with_line (taken (command.Halt d.addr))) is) (ap order lines_are)

here_turn : (capacity : ℕ) (setup : Setup) (d : DeviceSetup) (past news : List Entry) (s : Step) → IsOf setup d →
    Ids setup past → AtDevice capacity setup d past s news → Turn d past news
here_turn capacity setup d past _ _ own ids (came s e m ls comes) =
    let same = same_came d past s e m ls comes in stays same.jobs same.orders
here_turn capacity setup d past _ _ own ids (took s c gives suited here is_free is_taken is_owed lets) =
    let lines_are = lines_taken d past c here in
    begins c suited here is_free is_owed refl
    (ap job lines_are ∙ begun_at_work d.body c (lines_of d past) suited) (ap order lines_are)
here_turn capacity setup d past _ _ own ids (halted paying can) = halt_turn d past (job (lines_of d past)) refl can
here_turn capacity setup d past _ _ own ids (idled is_free) = stays refl refl
here_turn capacity setup d past _ _ own ids (made_exchange c since q at_work is_row) =
    let sent = ask d.kind d.addr q in
    let lines_are = lines_wire d past sent (heard_after setup past sent) in
    let same = same_dosed d past sent in
    let l = exchange (asked d.kind sent) (got_by d sent (heard_after setup past sent)) in
    asked_turn setup d past c since (wire_of setup d past q) l (wire_end setup d past c since q) at_work.job_is
    (ap job lines_are ∙ ap (with_line l) same.jobs) (ap order lines_are ∙ same.orders)
here_turn capacity setup d past _ _ own ids (made_put c since r at_work is_row) =
    put_turn d past c since r (record_end d past c since r) at_work is_row refl
    (put_owned setup past d c since r own ids at_work is_row)

lost_turn : (d : DeviceSetup) (past news : List Entry) → Lost d past news → Turn d past news
lost_turn d past _ bare = is_over refl refl refl
lost_turn d past _ (kept_here c since r at_work is_row owned) =
    let lines_are = lines_kept d past r owned in
    has_put c since r at_work is_row refl (ap order lines_are) (inr (ap job lines_are, refl))
lost_turn d past _ (kept_elsewhere r away caused) =
    let lines_are = lines_kept_elsewhere d past r away in is_over (ap job lines_are) refl (ap order lines_are)

order_aside : (d : DeviceSetup) (past news : List Entry) → ArePassed d past news → SameOrder d past news
order_aside d past news passes =
    passed_same order (record { dosed = λ count lines. refl; stacked = λ coin lines. refl }) d past news passes

job_aside : (d : DeviceSetup) (past news : List Entry) → ArePassed d past news →
    job (lines_of d (news ++ past)) ≡ job (lines_of d past)
job_aside d past news passes =
    passed_same job (record { dosed = λ count lines. refl; stacked = λ coin lines. refl }) d past news passes

pub turn_brought : (capacity : ℕ) (setup : Setup) (d : DeviceSetup) (past news : List Entry) (s : Step) →
    IsSoundSetup setup → IsOf setup d → Ids setup past → Brought capacity setup past s news → Turn d past news
turn_brought capacity setup d past news s sound own ids told = by_seen (seen_from capacity setup d past news s sound own ids told)
  where
    by_seen : Seen capacity setup d past s news → Turn d past news
    by_seen (seen_here at) = here_turn capacity setup d past news s own ids at
    by_seen (seen_aside aside) = stays (job_aside d past news aside.passes) (order_aside d past news aside.passes)
    by_seen (seen_lost lost no_next) = lost_turn d past news lost

turn_forged : (d : DeviceSetup) (past es : List Entry) (addr : ℕ) → Turn d past es → Turn d past (entry.Forged addr ∷ es)
turn_forged d past es addr (stays jobs orders) = stays jobs orders
turn_forged d past es addr (begins c suited here is_free owed told jobs orders) =
    begins c suited here is_free owed told jobs orders
turn_forged d past es addr (works_on c since later is jobs orders) = works_on c since later is jobs orders
turn_forged d past es addr (is_over jobs ends orders) = is_over jobs ends orders
turn_forged d past es addr (has_put c since r at_work is_row only orders behind) =
    has_put c since r at_work is_row only orders behind

-- so it is over all that a step reports
pub turn_told : (capacity : ℕ) (setup : Setup) (d : DeviceSetup) (past news : List Entry) (s : Step) →
    IsSoundSetup setup → IsOf setup d → Ids setup past → Telling capacity setup past s news → Turn d past news
turn_told capacity setup d past news s sound own ids told =
    over_telling capacity setup past news s (Turn d past) (turn_forged d past) told
    (turn_brought capacity setup d past told.told s sound own ids told.brings)

-- ---- a hopper that nothing holds

-- no job is at a device, and no order is open there
abbrev pub IsClear : DeviceSetup → List Entry → Type 0
IsClear d past = (job (lines_of d past) ≡ free) × (order (lines_of d past) ≡ None)

busy_free : {A : Type 0} (c : Command) (since : List Line) → works c since ≡ free → A
busy_free c since is = absurd cc

-- what begins a job at such a hopper is a payment or an identification
begins_none : (setup : Setup) (d : DeviceSetup) (c : Command) (body : DeviceBody) → d.body ≡ body → IsHopper body →
    IsOf setup d → suits body c ≡ true → address_of c ≡ d.addr → IsOwed c None → IsUnrelated setup c → ⊥
begins_none setup d c (Acceptor accepts values ids) is paying own suited here owed apart = paying
begins_none setup d c (Bill accepts values ids) is paying own suited here owed apart = paying
begins_none setup d (command.Pay addr id count) (Hopper life value) is paying own suited here owed apart = apart
begins_none setup d (command.Ident addr) (Hopper life value) is paying own suited here owed apart =
    let found : hopper_there (device_at setup.devices addr) ≡ is_hopper d.body =
    ap hopper_there (ap (device_at setup.devices) here ∙ own) in
    let there : is_hopper d.body ≡ true = ap is_hopper is in
    clash (sym apart ∙ found ∙ there)
  where
    clash : false ≡ true → ⊥
    clash same = cc same
begins_none setup d (command.Settle addr) (Hopper life value) is paying own suited here owed apart = cc owed
begins_none setup d (command.Vend id price) (Hopper life value) is paying own suited here owed apart = apart
begins_none setup d c (Hopper life value) is paying own suited here owed apart = cc suited

pub clear_on : (setup : Setup) (d : DeviceSetup) (past news : List Entry) → IsOf setup d → IsHopper d.body →
    Turn d past news → All (IsUnrelated setup) (commands_in news) → IsClear d past → IsClear d (news ++ past)
clear_on setup d past news own paying (stays jobs orders) apart is = (jobs ∙ is.0, orders ∙ is.1)
clear_on setup d past news own paying (begins c suited here is_free owed told jobs orders) apart is =
    absurd (begins_none setup d c d.body refl paying own suited here (subst (IsOwed c) is.1 owed)
    (All-head (IsUnrelated setup) c [] (subst (All (IsUnrelated setup)) told apart)))
clear_on setup d past news own paying (works_on c since later at jobs orders) apart is =
    busy_free c since (sym at ∙ is.0)
clear_on setup d past news own paying (is_over jobs ends orders) apart is = (jobs, orders ∙ is.1)
clear_on setup d past news own paying (has_put c since r at_work is_row only orders behind) apart is =
    busy_free c since (sym at_work.job_is ∙ is.0)

-- ---- a record that closes the order of a hopper ends its job

-- a row of a hopper's job puts no reading, and ends it where it closes an order
abbrev EndsWhereCloses : TableRow → Type 0
EndsWhereCloses (puts_due order_end if_closed) = ⊤
EndsWhereCloses (puts_due (new_order id count) behind) = ⊤
EndsWhereCloses (puts_due due behind) = ⊥
EndsWhereCloses r = ⊤

hopper_rows : (d : DeviceSetup) (c : Command) (body : DeviceBody) → IsHopper body → suits body c ≡ true →
    EachRow EndsWhereCloses (rows_of d c)
hopper_rows d c (Acceptor accepts values ids) paying suited = absurd paying
hopper_rows d c (Bill accepts values ids) paying suited = absurd paying
hopper_rows d (command.Ident addr) (Hopper life value) paying suited =
    each_told EndsWhereCloses (λ q. tt) (λ q. tt) (ident_requests d.body)
hopper_rows d (command.Pay addr id count) (Hopper life value) paying suited = search rules
hopper_rows d (command.Settle addr) (Hopper life value) paying suited = search rules
hopper_rows d c (Hopper life value) paying suited = cc suited

abbrev EndsIfCloses : List TableRow → Record → Type 0
EndsIfCloses rows r = IsClosing r → end_kept rows r ≡ None → ⊥

closing_none : (r : Record) → IsClosing r → end_of_close r ≡ None → ⊥
closing_none (record_of.Closed id paid unpaid) closes none = cc none
closing_none (record_of.Odd id life_before life_after) closes none = cc none
closing_none r closes none = closes

first_ends : (rows : List TableRow) (addr : ℕ) (means : Judged) (p : Noted) → EachRow EndsWhereCloses rows →
    RowHolds (λ q. ⊤) (EndsIfCloses rows) (first addr means p (from rows means))
first_ends [] addr means p each = tt
first_ends (asks_for q behind ∷ rows) addr means p each = tt
first_ends (asks_once q behind without ∷ rows) addr means p each = tt
first_ends (waits_for_coins ∷ rows) addr means p each =
    state_holds (λ q. ⊤) (EndsIfCloses (waits_for_coins ∷ rows)) p.is_marked tt tt
first_ends (puts_due order_end if_closed ∷ rows) addr means p each =
    due_holds (λ q. ⊤) (EndsIfCloses (puts_due order_end if_closed ∷ rows)) addr means p order_end
    (λ o life owed read. closing_none (close o life))
first_ends (puts_due (new_order id count) behind ∷ rows) addr means p each =
    due_holds (λ q. ⊤) (EndsIfCloses (puts_due (new_order id count) behind ∷ rows)) addr means p (new_order id count)
    (λ life read closes none. closes)
first_ends (puts_due due behind ∷ rows) addr means p each = absurd each.0

closing_ends : (d : DeviceSetup) (past : List Entry) (c : Command) (since : List Line) (r : Record) → IsHopper d.body →
    suits d.body c ≡ true → row_after d past c since ≡ puts r → IsClosing r → record_end d past c since r ≡ None → ⊥
closing_ends d past c since r paying suited is_row =
    subst (RowHolds (λ q. ⊤) (EndsIfCloses (rest d c since))) is_row
    (first_ends (rest d c since) (address_of c) (judged_in c since (epoch (lines_of d past)))
    (noted_in since (order (lines_of d past)))
    (each_after EndsWhereCloses (rows_of d c) (done (rows_of d c) since) (hopper_rows d c d.body paying suited)))

closes_it : (r : Record) (o : OpenOrder) → order_by r (Some o) ≡ None → IsClosing r
closes_it (record_of.Closed id paid unpaid) o none = tt
closes_it (record_of.Odd id life_before life_after) o none = tt
closes_it (record_of.Opened id addr count life) o none = cc none
closes_it r o none = cc none

-- so where the open order of a hopper is closed, its job is over
pub closed_clear : (d : DeviceSetup) (past news : List Entry) (o : OpenOrder) → IsHopper d.body →
    ((c : Command) (since : List Line) → AtWork d past c since → suits d.body c ≡ true) → Turn d past news →
    order (lines_of d past) ≡ Some o → order (lines_of d (news ++ past)) ≡ None → IsClear d (news ++ past)
closed_clear d past news o paying suited (stays jobs orders) was none = absurd (some_none o (sym was ∙ sym orders ∙ none))
closed_clear d past news o paying suited (begins c suits_it here is_free owed told jobs orders) was none =
    absurd (some_none o (sym was ∙ sym orders ∙ none))
closed_clear d past news o paying suited (works_on c since later at jobs orders) was none =
    absurd (some_none o (sym was ∙ sym orders ∙ none))
closed_clear d past news o paying suited (is_over jobs ends orders) was none = (jobs, none)
closed_clear d past news o paying suited (has_put c since r at_work is_row only orders (inl goes)) was none =
    absurd (closing_ends d past c since r paying (suited c since at_work) is_row
    (closes_it r o (ap (order_by r) (sym was) ∙ sym orders ∙ none)) goes.1)
closed_clear d past news o paying suited (has_put c since r at_work is_row only orders (inr over)) was none =
    (over.0, none)
