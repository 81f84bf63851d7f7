-- A dispense is sent only for an open order that none was sent for, whatever the wire does: it is sent by the one row that
-- is sent once after an order was opened, and no exchange leads to that row.
use Rattle.std.proofs.Common.{◌≡◌, ℕ, suc, ◌≤◌, max, cond, true, false, Bool, List, [], ◌∷◌, ◌++◌, refl, ap, sym, ◌∙◌, subst, Option, Some, None, inl, inr, arith, rules, eq-eqb, true≢false}
use Rattle.std.specs.Prelude.{⊤}
use Rattle.cct_model.specs.terms.device.DeviceBody.{DeviceBody}
use Rattle.cct_model.specs.terms.device.DeviceSetup.{DeviceSetup}
use Rattle.cct_model.specs.terms.device.Setup.{Setup}
use Rattle.cct_model.specs.terms.request.Request.{Request}
use Rattle.cct_model.specs.terms.request.Request.TheVariants.{Dispense}
use Rattle.cct_model.specs.lines.record.Record.{Record}
use Rattle.cct_model.specs.lines.record.Record.TheVariants as record_of
use Rattle.cct_model.specs.declared.judging.Judged.{Judged}
use Rattle.cct_model.specs.declared.judging.EpochState.{EpochState}
use Rattle.cct_model.specs.declared.judging.OpenOrder.{OpenOrder}
use Rattle.cct_model.specs.lines.command.Command.{Command}
use Rattle.cct_model.specs.lines.command.Command.TheVariants as command
use Rattle.cct_model.specs.lines.command.Step.{Step}
use Rattle.cct_model.specs.lines.entry.End.{End}
use Rattle.cct_model.specs.lines.entry.Entry.{Entry}
use Rattle.cct_model.specs.lines.entry.Entry.TheVariants as entry
use Rattle.cct_model.specs.Device.{IsSound}
use Rattle.cct_model.specs.Exchange.{ask, asked, asks_of}
use Rattle.cct_model.specs.History.{Met}
use Rattle.cct_model.specs.Reply.{Reply}
use Rattle.cct_model.specs.Setup.{IsSoundSetup}
use Rattle.cct_model.specs.Line.{Line, exchange, put, taken}
use Rattle.cct_model.specs.Job.{Job, free, works, job, with_line, epoch, judged_in, sends, puts, Noted, noted_in, address_of, open_row, ident_requests}
use Rattle.cct_model.specs.Legal.{Legal}
use Rattle.cct_model.specs.Order.{order, order_by}
use Rattle.cct_model.specs.Paid.{anew_by, OfOrder}
use Rattle.cct_model.specs.Rows.{TableRow, asks_for, asks_once, waits_for_coins, puts_due, new_epoch, reading, epoch_end, new_order, order_end, sale, telling, rows_of, after, from, first, rest, row, done, sent_once, ends_first}
use Rattle.cct_model.specs.Transcript.{pending, met, own, lines_of, heard_by_devices, heard_after, got_by, doses, doses_of, onto}
use Rattle.cct_model.proofs.Doses.{AreDoses, IsAside, undosed, job_undosed, order_undosed}
use Rattle.cct_model.proofs.Requests.{is_asked_again}
use Rattle.cct_model.proofs.Rows.{but_first, after_none, after_next, EachBefore, before_on, fact_after, told_fact}
use Rattle.cct_model.proofs.RowEnds.{stays_again, rest_asks, fails_rest}
use Rattle.cct_model.proofs.Tries.{due_sends, same_request}
use Rattle.cct_msg.proofs.Exchanges.{asked_back}
use Rattle.cct_laws.specs.DeviceJobs.{with_ended}
use Rattle.cct_laws.specs.Ids.{Ids}
use Rattle.cct_laws.specs.Law.{IsOf, EachEntry, lines_in}
use Rattle.cct_laws.proofs.setups.DeviceAt.{found_in}
use Rattle.cct_laws.proofs.jobs.StepBrings.{Comes, takes_coin, leaves_coin, takes_bill, leaves_bill, leaves_alien, drops_coin, drops_none, jams, jams_none, is_reset, AtDevice, came, took, halted, idled, made_exchange, made_put, Brought, wire_of, wire_end, record_end, row_after, begun_at_work, IsOfNoJob, came_of_no_job}
use Rattle.cct_laws.proofs.jobs.SeenAtOne.{Passes, ArePassed, passed_same, passed_job, each_aside, each_with_end, loose, loose_line, Lost, bare, kept_here, kept_elsewhere, seen_here, seen_aside, seen_lost, seen_from, along, lines_wire, lines_with_end, lines_put, lines_taken, lines_kept, lines_kept_elsewhere}
use Rattle.cct_laws.proofs.jobs.EntriesOfStep.{any_steps}
use Rattle.cct_laws.proofs.jobs.Tries.{sent_fits}
use Rattle.cct_laws.proofs.orders.Ids.{put_owned}
use Rattle.cct_laws_live.specs.Sends.{one_by, sent_in, SentBy, SentAt}

-- a fact of what the first of these rows sends, if that is sent once
abbrev pub IfFirst : (Request → Type 0) → List TableRow → Type 0
IfFirst P (asks_once q behind without ∷ rows) = P q
IfFirst P rows = ⊤

pub first_weaker : (P Q : Request → Type 0) → ((q : Request) → P q → Q q) → (rows : List TableRow) → IfFirst P rows →
    IfFirst Q rows
first_weaker P Q weaker [] holds = tt
first_weaker P Q weaker (asks_for q behind ∷ rows) holds = tt
first_weaker P Q weaker (asks_once q behind without ∷ rows) holds = weaker q holds
first_weaker P Q weaker (waits_for_coins ∷ rows) holds = tt
first_weaker P Q weaker (puts_due due behind ∷ rows) holds = tt

pub first_again : (P : Request → Type 0) (rows : List TableRow) → sent_once rows ≡ false → IfFirst P rows
first_again P [] again = tt
first_again P (asks_for q behind ∷ rows) again = tt
first_again P (asks_once q behind without ∷ rows) again = absurd (true≢false again)
first_again P (waits_for_coins ∷ rows) again = tt
first_again P (puts_due due behind ∷ rows) again = tt

pub first_sent : (P : Request → Type 0) (addr : ℕ) (means : Judged) (p : Noted) (rows : List TableRow) (q : Request) →
    first addr means p rows ≡ sends q → sent_once rows ≡ true → IfFirst P rows → P q
first_sent P addr means p [] q is once holds = absurd cc
first_sent P addr means p (asks_for x behind ∷ rows) q is once holds = absurd cc
first_sent P addr means p (asks_once x behind without ∷ rows) q is once holds = subst P (same_request x q is) holds
first_sent P addr means p (waits_for_coins ∷ rows) q is once holds = absurd cc
first_sent P addr means p (puts_due due behind ∷ rows) q is once holds = absurd cc

-- a request dispenses nothing, or exactly so many coins of the device
abbrev DosesNone : Request → Type 0
DosesNone (Dispense serial count) = ⊥
DosesNone q = ⊤

abbrev DosesOnly : DeviceSetup → ℕ → Request → Type 0
DosesOnly d count (Dispense serial many) = (serial ≡ d.serial) × (many ≡ count)
DosesOnly d count q = ⊤

-- a dispense is only right after the row that opens an order of just its coins
abbrev Leads : DeviceSetup → TableRow → List TableRow → Type 0
Leads d (puts_due (new_order id count) behind) rows = IfFirst (DosesOnly d count) rows
Leads d r rows = IfFirst DosesNone rows

told_leads : (d : DeviceSetup) (qs : List Request) → IfFirst DosesNone (telling qs) × EachBefore (Leads d) (telling qs)
told_leads d =
    told_fact (λ rows. IfFirst DosesNone rows × EachBefore (Leads d) rows) (tt, tt)
    (λ q behind rows leads. (tt, (leads.0, leads.1)))

rows_lead : (d : DeviceSetup) (c : Command) → EachBefore (Leads d) (rows_of d c)
rows_lead d (command.Ident addr) = (told_leads d (ident_requests d.body)).1
rows_lead d c = search rules

rest_leads : (d : DeviceSetup) (c : Command) (since : List Line) → EachBefore (Leads d) (rest d c since)
rest_leads d c since = fact_after (EachBefore (Leads d)) (before_on (Leads d)) (rows_of d c) (done (rows_of d c) since) (rows_lead d c)

-- the first of these rows is ready, beside how many dispenses were sent and the open order
abbrev pub ReadyRows : DeviceSetup → ℕ → Option OpenOrder → List TableRow → Type 0
ReadyRows d sent owed rows = IfFirst (λ q. SentBy d sent owed (Some q)) rows

none_sent_by : (d : DeviceSetup) (sent : ℕ) (owed : Option OpenOrder) (q : Request) → DosesNone q →
    SentBy d sent owed (Some q)
none_sent_by d sent owed (Dispense serial count) none = absurd none
none_sent_by d sent owed q none = tt

none_ready : (d : DeviceSetup) (sent : ℕ) (owed : Option OpenOrder) (rows : List TableRow) → IfFirst DosesNone rows →
    ReadyRows d sent owed rows
none_ready d sent owed =
    first_weaker DosesNone (λ q. SentBy d sent owed (Some q)) (none_sent_by d sent owed)

only_sent_by : (d : DeviceSetup) (o : OpenOrder) (q : Request) → DosesOnly d o.count q → SentBy d 0 (Some o) (Some q)
only_sent_by d o (Dispense serial count) only = (only.0, (refl, only.1))
only_sent_by d o q only = tt

-- so no exchange leads to a dispense
asked_leads : (d : DeviceSetup) (addr : ℕ) (means : Judged) (p : Noted) (rows : List TableRow) (q : Request) →
    EachBefore (Leads d) rows → first addr means p rows ≡ sends q → IfFirst DosesNone (but_first rows)
asked_leads d addr means p [] q each is = tt
asked_leads d addr means p (asks_for x behind ∷ rows) q each is = each.0
asked_leads d addr means p (asks_once x behind without ∷ rows) q each is = each.0
asked_leads d addr means p (waits_for_coins ∷ rows) q each is = each.0
asked_leads d addr means p (puts_due due behind ∷ rows) q each is = absurd (due_sends addr means p due q is)

asked_ready : (d : DeviceSetup) (c : Command) (since : List Line) (state : EpochState) (owed : Option OpenOrder)
    (q : Request) (got : Option Reply) (sent : ℕ) (later : Option OpenOrder) → row d c since state owed ≡ sends q →
    ReadyRows d sent later (rest d c (exchange (Some q) got ∷ since))
asked_ready d c since state owed q got sent later is = by_end (ends_first (rest d c since) got) refl
  where
    leads : IfFirst DosesNone (but_first (rest d c since))
    leads =
        asked_leads d (address_of c) (judged_in c since state) (noted_in since owed) (rest d c since) q
        (rest_leads d c since) (rest_asks d c since state owed q is)

    by_end : (ends : Bool) → ends_first (rest d c since) got ≡ ends →
        ReadyRows d sent later (after (rows_of d c) (cond ends (suc (done (rows_of d c) since)) (done (rows_of d c) since)))
    by_end true test =
        subst (ReadyRows d sent later) (sym (after_next (rows_of d c) (done (rows_of d c) since)))
        (none_ready d sent later (but_first (rest d c since)) leads)
    by_end false test =
        first_again (λ x. SentBy d sent later (Some x)) (rest d c since) (stays_again (rest d c since) got test)

-- and a record leads to one only where it opens an order of its coins
opens_ready : (d : DeviceSetup) (addr id count : ℕ) (life : Option ℕ) (r : Record) (sent : ℕ) (owed : Option OpenOrder)
    (rows : List TableRow) → open_row addr id count life ≡ puts r → IfFirst (DosesOnly d count) rows →
    ReadyRows d (anew_by r sent) (order_by r owed) rows
opens_ready d addr id count None r sent owed rows is only = absurd cc
opens_ready d addr id count (Some life) r sent owed rows is only =
    let same : record_of.Opened id addr count life ≡ r = cc in
    subst (λ x. ReadyRows d (anew_by x sent) (order_by x owed) rows) same
    (first_weaker (DosesOnly d count) (λ q. SentBy d 0 (order_by (record_of.Opened id addr count life) owed) (Some q))
    (only_sent_by d (record { id = id; addr = addr; count = count; life = life })) rows only)

put_leads : (d : DeviceSetup) (addr : ℕ) (means : Judged) (p : Noted) (rows : List TableRow) (r : Record) (sent : ℕ)
    (owed : Option OpenOrder) → EachBefore (Leads d) rows → first addr means p (from rows means) ≡ puts r →
    ReadyRows d (anew_by r sent) (order_by r owed) (but_first rows)
put_leads d addr means p [] r sent owed each is = tt
put_leads d addr means p (puts_due (new_order id count) behind ∷ rows) r sent owed each is =
    opens_ready d addr id count p.life r sent owed rows is each.0
put_leads d addr means p (asks_for x behind ∷ rows) r sent owed each is = none_ready d _ _ rows each.0
put_leads d addr means p (asks_once x behind without ∷ rows) r sent owed each is = none_ready d _ _ rows each.0
put_leads d addr means p (waits_for_coins ∷ rows) r sent owed each is = none_ready d _ _ rows each.0
put_leads d addr means p (puts_due (new_epoch mask) behind ∷ rows) r sent owed each is = none_ready d _ _ rows each.0
put_leads d addr means p (puts_due reading behind ∷ rows) r sent owed each is = none_ready d _ _ rows each.0
put_leads d addr means p (puts_due epoch_end behind ∷ rows) r sent owed each is = none_ready d _ _ rows each.0
put_leads d addr means p (puts_due order_end behind ∷ rows) r sent owed each is = none_ready d _ _ rows each.0
put_leads d addr means p (puts_due (sale id price) behind ∷ rows) r sent owed each is = none_ready d _ _ rows each.0

put_ready : (d : DeviceSetup) (c : Command) (since : List Line) (state : EpochState) (owed : Option OpenOrder)
    (r : Record) (sent : ℕ) → row d c since state owed ≡ puts r →
    ReadyRows d (anew_by r sent) (order_by r owed) (rest d c (put r ∷ since))
put_ready d c since state owed r sent is =
    subst (ReadyRows d (anew_by r sent) (order_by r owed)) (sym (after_next (rows_of d c) (done (rows_of d c) since)))
    (put_leads d (address_of c) (judged_in c since state) (noted_in since owed) (rest d c since) r sent owed
    (rest_leads d c since) is)

-- no job begins with one
begins_ready : (d : DeviceSetup) (c : Command) (sent : ℕ) (owed : Option OpenOrder) → ReadyRows d sent owed (rest d c [])
begins_ready d (command.Ident addr) sent owed =
    subst (ReadyRows d sent owed) (sym (after_none (telling (ident_requests d.body))))
    (none_ready d sent owed (telling (ident_requests d.body)) (told_leads d (ident_requests d.body)).0)
begins_ready d c sent owed = search rules

-- so what a job asks that is ready is ready
again_sent_by : (d : DeviceSetup) (sent : ℕ) (owed : Option OpenOrder) (q : Request) → is_asked_again q ≡ true →
    SentBy d sent owed (Some q)
again_sent_by d sent owed (Dispense serial count) again = absurd cc
again_sent_by d sent owed q again = tt

ready_asked : (d : DeviceSetup) (c : Command) (since : List Line) (state : EpochState) (sent : ℕ)
    (owed : Option OpenOrder) (q : Request) → row d c since state owed ≡ sends q → ReadyRows d sent owed (rest d c since) →
    SentBy d sent owed (Some q)
ready_asked d c since state sent owed q is ready =
    elim (fails_rest d c since state owed q is) [
      | inl again ↦ again_sent_by d sent owed q again.0
      | inr once ↦ first_sent (λ x. SentBy d sent owed (Some x)) (address_of c) (judged_in c since state)
          (noted_in since owed) (rest d c since) q (rest_asks d c since state owed q is) once.1 ready
    ]

-- the row of a job is ready
abbrev pub ReadyJob : DeviceSetup → ℕ → Option OpenOrder → Job → Type 0
ReadyJob d sent owed free = ⊤
ReadyJob d sent owed (works c since) = ReadyRows d sent owed (rest d c since)

-- what holds of the lines of a device after every step: at most one dispense was sent, and the row of its job is ready
abbrev pub Goes : DeviceSetup → ℕ → Option OpenOrder → Job → Type 0
Goes d sent owed at_work = (sent ≤ 1) × ReadyJob d sent owed at_work

abbrev pub Ready : DeviceSetup → List Line → Type 0
Ready d lines = Goes d (sent_in lines) (order lines) (job lines)

few_anew : (r : Record) (sent : ℕ) → sent ≤ 1 → anew_by r sent ≤ 1
few_anew (record_of.Opened id addr count life) sent few = omega arith
few_anew (record_of.Closed id paid unpaid) sent few = omega arith
few_anew (record_of.Odd id life_before life_after) sent few = omega arith
few_anew r sent few = few

none_of_order : (sent count : ℕ) (owed : Option OpenOrder) → OfOrder owed (λ o. (sent ≡ 0) × (count ≡ o.count)) → sent ≡ 0
none_of_order sent count None none = absurd none
none_of_order sent count (Some o) none = none.0

few_sent : (d : DeviceSetup) (sent : ℕ) (owed : Option OpenOrder) (q : Request) → sent ≤ 1 →
    SentBy d sent owed (Some q) → one_by (Some q) sent ≤ 1
few_sent d sent owed (Dispense serial count) few by =
    let none = none_of_order sent count owed by.1 in omega (arith, none)
few_sent d sent owed q few by = few

-- lines that change neither
going_same : (d : DeviceSetup) (lines later : List Line) → sent_in later ≡ sent_in lines → order later ≡ order lines →
    job later ≡ job lines → Ready d lines → Ready d later
going_same d lines later sent owed at_work ready = rw (sent, owed, at_work) ready

free_ready : (d : DeviceSetup) (lines later : List Line) → sent_in later ≡ sent_in lines → job later ≡ free →
    Ready d lines → Ready d later
free_ready d lines later sent at_work ready =
    (subst (λ n. n ≤ 1) (sym sent) ready.0, subst (ReadyJob d (sent_in later) (order later)) (sym at_work) tt)

ready_ended : (d : DeviceSetup) (end : Option End) (lines : List Line) → Ready d lines → Ready d (with_ended end lines)
ready_ended d None lines ready = ready
ready_ended d (Some end) lines ready = (ready.0, tt)

sent_aside : IsAside sent_in
sent_aside = record { dosed = λ count lines. refl; stacked = λ coin lines. refl }

sent_undosed : (body : DeviceBody) (own : ℕ) (past : List Met) (asked : Option Request) (lines : List Line) →
    sent_in (doses body own past asked ++ lines) ≡ sent_in lines
sent_undosed = undosed sent_in sent_aside

ready_passed : (d : DeviceSetup) (past news : List Entry) → ArePassed d past news → Ready d (lines_of d past) →
    Ready d (lines_of d (news ++ past))
ready_passed d past news passes =
    going_same d (lines_of d past) (lines_of d (news ++ past)) (passed_same sent_in sent_aside d past news passes)
    (passed_same order (record { dosed = λ count lines. refl; stacked = λ coin lines. refl }) d past news passes)
    (passed_job d past news passes)

-- what comes to the device
came_ready : (d : DeviceSetup) (past : List Met) (s : Step) (e : Entry) (m : Met) (ls lines : List Line) →
    Comes d past s e m ls → Ready d lines → Ready d (ls ++ lines)
came_ready d past _ _ _ _ lines (takes_coin place accepting test) ready = ready
came_ready d past _ _ _ _ lines (leaves_coin place accepting test) ready = ready
came_ready d past _ _ _ _ lines (takes_bill place banking test) ready = ready
came_ready d past _ _ _ _ lines (leaves_bill place banking test) ready = ready
came_ready d past _ _ _ _ lines (leaves_alien accepting) ready = ready
came_ready d past _ _ _ _ lines (drops_coin paying test) ready = ready
came_ready d past _ _ _ _ lines (drops_none paying test) ready = ready
came_ready d past _ _ _ _ lines (jams paying test) ready = ready
came_ready d past _ _ _ _ lines (jams_none paying test) ready = ready
came_ready d past _ _ _ _ lines is_reset ready = ready

-- a halt changes no row
halted_ready : (d : DeviceSetup) (addr sent : ℕ) (owed : Option OpenOrder) (j : Job) → ReadyJob d sent owed j →
    ReadyJob d sent owed (with_line (taken (command.Halt addr)) j)
halted_ready d addr sent owed free ready = tt
halted_ready d addr sent owed (works c since) ready = ready

-- an exchange of its job, with what a device did in it
exchange_ready : (d : DeviceSetup) (lines since : List Line) (c : Command) (q : Request) (got : Option Reply)
    (state : EpochState) → job lines ≡ works c since → row d c since state (order lines) ≡ sends q →
    Ready d lines → Ready d (exchange (Some q) got ∷ lines)
exchange_ready d lines since c q got state is_job is ready =
    let at_row : ReadyRows d (sent_in lines) (order lines) (rest d c since) =
    subst (ReadyJob d (sent_in lines) (order lines)) is_job ready.1 in (
      few_sent d (sent_in lines) (order lines) q ready.0
          (ready_asked d c since state (sent_in lines) (order lines) q is at_row),
      subst (λ j. ReadyJob d (one_by (Some q) (sent_in lines)) (order lines) (with_line (exchange (Some q) got) j))
          (sym is_job)
          (asked_ready d c since state (order lines) q got (one_by (Some q) (sent_in lines)) (order lines) is),
    )

-- a record of its job
record_ready : (d : DeviceSetup) (lines since : List Line) (c : Command) (r : Record) (state : EpochState) →
    job lines ≡ works c since → row d c since state (order lines) ≡ puts r → Ready d lines → Ready d (put r ∷ lines)
record_ready d lines since c r state is_job is ready = (
  few_anew r (sent_in lines) ready.0,
  subst (λ j. ReadyJob d (anew_by r (sent_in lines)) (order_by r (order lines)) (with_line (put r) j)) (sym is_job)
      (put_ready d c since state (order lines) r (sent_in lines) is),
)

-- the line of an exchange says what the job asked
pub asks_it : (setup : Setup) (d : DeviceSetup) (past : List Entry) (c : Command) (since : List Line) (q : Request) →
    IsSoundSetup setup → IsOf setup d → row_after d past c since ≡ sends q →
    asked d.kind (ask d.kind d.addr q) ≡ Some q
asks_it setup d past c since q sound own is_row =
    let low = (found_in IsSound setup.devices d.addr d sound.devices own).0.serial in
    asked_back d.kind d.addr q (sent_fits d c since (epoch (lines_of d past)) (order (lines_of d past)) q low is_row)

-- what each step brings at the device
ready_there : (capacity : ℕ) (setup : Setup) (d : DeviceSetup) (past news : List Entry) (s : Step) →
    IsSoundSetup setup → IsOf setup d → Ids setup past → AtDevice capacity setup d past s news →
    Ready d (lines_of d past) → Ready d (lines_of d (news ++ past))
ready_there capacity setup d past _ _ sound own ids (came s e m ls comes) ready =
    subst (Ready d) (sym (loose_line d past s e m ls (loose d (met d past) s e m ls comes)))
    (came_ready d (met d past) s e m ls (lines_of d past) comes ready)
ready_there capacity setup d past _ _ sound own ids (took s c gives suited here is_free is_taken is_owed lets) ready =
    let lines = lines_of d past in
    subst (Ready d) (sym (lines_taken d past c here)) (
      ready.0,
      subst (ReadyJob d (sent_in lines) (order lines)) (sym (begun_at_work d.body c lines suited))
          (begins_ready d c (sent_in lines) (order lines)),
    )
ready_there capacity setup d past _ _ sound own ids (halted paying can) ready =
    let lines = lines_of d past in
    subst (Ready d) (sym (lines_taken d past (command.Halt d.addr) refl))
    (ready.0, halted_ready d d.addr (sent_in lines) (order lines) (job lines) ready.1)
ready_there capacity setup d past _ _ sound own ids (idled is_free) ready = ready
ready_there capacity setup d past _ _ sound own ids (made_exchange c since q at_work is_row) ready =
    let state = epoch (lines_of d past) in
    let sent = ask d.kind d.addr q in
    let piece = heard_after setup past sent in
    let got = got_by d sent piece in
    let heard_it = asks_of d (heard_by_devices (pending past) sent) in
    let dosed = doses_of d past sent ++ lines_of d past in
    let owed_is : order dosed ≡ order (lines_of d past) =
    order_undosed d.body d.serial (met d past) heard_it (lines_of d past) in
    let job_is : job dosed ≡ job (lines_of d past) =
    job_undosed d.body d.serial (met d past) heard_it (lines_of d past) in
    let before : Ready d dosed =
    going_same d (lines_of d past) dosed (sent_undosed d.body d.serial (met d past) heard_it (lines_of d past)) owed_is
    job_is ready in
    let at_row : row d c since state (order dosed) ≡ sends q =
    ap (λ owed. row d c since state owed) owed_is ∙ is_row in
    subst (Ready d) (sym (lines_with_end d past (wire_of setup d past q) (wire_end setup d past c since q) _
    (lines_wire d past sent piece)))
    (ready_ended d (wire_end setup d past c since q) (exchange (asked d.kind sent) got ∷ dosed)
    (subst (λ a. Ready d (exchange a got ∷ dosed)) (sym (asks_it setup d past c since q sound own is_row))
    (exchange_ready d dosed since c q got state (job_is ∙ at_work.job_is) at_row before)))
ready_there capacity setup d past _ _ sound own ids (made_put c since r at_work is_row) ready =
    subst (Ready d) (sym (lines_with_end d past (entry.Put r) (record_end d past c since r) (put r ∷ lines_of d past)
    (lines_put d past r (put_owned setup past d c since r own ids at_work is_row))))
    (ready_ended d (record_end d past c since r) (put r ∷ lines_of d past)
    (record_ready d (lines_of d past) since c r (epoch (lines_of d past)) at_work.job_is is_row ready))

-- a power cut: a start counts as a dispense
pub few_started : (sent : ℕ) → sent ≤ 1 → max 1 sent ≤ 1
few_started sent few = omega (arith, few)

ready_lost : (d : DeviceSetup) (past news : List Entry) → Lost d past news → Ready d (lines_of d past) →
    Ready d (lines_of d (news ++ past))
ready_lost d past _ bare ready = (few_started (sent_in (lines_of d past)) ready.0, tt)
ready_lost d past _ (kept_here c since r at_work is_row owned) ready =
    let few = few_started (sent_in (lines_of d past)) ready.0 in
    subst (Ready d) (sym (lines_kept d past r owned)) (few_anew r (max 1 (sent_in (lines_of d past))) few, tt)
ready_lost d past _ (kept_elsewhere r away caused) ready =
    subst (Ready d) (sym (lines_kept_elsewhere d past r away)) (few_started (sent_in (lines_of d past)) ready.0, tt)

-- what is none of the device sends it nothing
away_sent : (d : DeviceSetup) (past : List Entry) (e : Entry) → Passes d past e → SentAt d past e
away_sent d past (entry.Wire addr sent piece) passes = λ here.
    absurd (subst (λ b. AreDoses (cond b (exchange (asked d.kind sent) (got_by d sent piece) ∷ []) [] ++ doses_of d past sent))
    (eq-eqb addr d.addr here) passes.dosed)
away_sent d past e passes = tt

sent_of_no_job : (d : DeviceSetup) (past : List Entry) (e : Entry) → IsOfNoJob e → SentAt d past e
sent_of_no_job d past (entry.Wire addr sent piece) is = absurd is
sent_of_no_job d past e is = tt

sent_there : (capacity : ℕ) (setup : Setup) (d : DeviceSetup) (past news : List Entry) (s : Step) →
    IsSoundSetup setup → IsOf setup d → AtDevice capacity setup d past s news → Ready d (lines_of d past) →
    EachEntry (SentAt d) past → EachEntry (SentAt d) (news ++ past)
sent_there capacity setup d past _ _ sound own (came s e m ls comes) ready before =
    (sent_of_no_job d past e (came_of_no_job d (met d past) s e m ls comes), before)
sent_there capacity setup d past _ _ sound own (took s c gives suited here is_free is_taken is_owed lets) ready before =
    (tt, before)
sent_there capacity setup d past _ _ sound own (halted paying can) ready before = (tt, before)
sent_there capacity setup d past _ _ sound own (idled is_free) ready before = (tt, before)
sent_there capacity setup d past _ _ sound own (made_exchange c since q at_work is_row) ready before =
    let lines = lines_of d past in
    let by : SentBy d (sent_in lines) (order lines) (Some q) =
    ready_asked d c since (epoch lines) (sent_in lines) (order lines) q is_row
    (subst (ReadyJob d (sent_in lines) (order lines)) at_work.job_is ready.1) in
    each_with_end (SentAt d) past d.addr (wire_of setup d past q) (wire_end setup d past c since q)
    (λ here. subst (SentBy d (sent_in lines) (order lines)) (sym (asks_it setup d past c since q sound own is_row)) by)
    (λ older found. tt) before
sent_there capacity setup d past _ _ sound own (made_put c since r at_work is_row) ready before =
    each_with_end (SentAt d) past d.addr (entry.Put r) (record_end d past c since r) tt (λ older found. tt) before

sent_lost : (d : DeviceSetup) (past news : List Entry) → Lost d past news → EachEntry (SentAt d) past →
    EachEntry (SentAt d) (news ++ past)
sent_lost d past _ bare before = (tt, before)
sent_lost d past _ (kept_here c since r at_work is_row owned) before = (tt, (tt, before))
sent_lost d past _ (kept_elsewhere r away caused) before = (tt, (tt, before))

-- so each step keeps both
abbrev pub SendsWell : DeviceSetup → List Entry → Type 0
SendsWell d past = Ready d (lines_of d past) × EachEntry (SentAt d) past

pub sends_step : (capacity : ℕ) (setup : Setup) (d : DeviceSetup) → IsSoundSetup setup → IsOf setup d →
    (past news : List Entry) (s : Step) → ⊤ → Ids setup past → Brought capacity setup past s news →
    SendsWell d past → SendsWell d (news ++ past)
sends_step capacity setup d sound own past news s any ids told both =
    elim (seen_from capacity setup d past news s sound own ids told) [
      | seen_here at ↦ (ready_there capacity setup d past news s sound own ids at both.0, sent_there capacity setup d past news s sound own at both.0 both.1)
      | seen_aside aside ↦ (ready_passed d past news aside.passes both.0, each_aside (SentAt d) d past news (away_sent d) aside.passes both.1)
      | seen_lost lost no_next ↦ (ready_lost d past news lost both.0, sent_lost d past news lost both.1)
    ]

legal_sends : (capacity : ℕ) (setup : Setup) (steps : List Step) (transcript : List Entry) (d : DeviceSetup) →
    IsSoundSetup setup → IsOf setup d → Legal capacity setup steps transcript → SendsWell d (onto [] transcript)
legal_sends capacity setup steps transcript d sound own legal =
    along capacity setup (λ s. ⊤) (SendsWell d) sound (sends_step capacity setup d sound own)
    (λ past addr both. (both.0, (tt, both.1))) steps (onto [] transcript) (any_steps steps) legal ((omega arith, tt), tt)

-- each dispense that is sent is for an open order that none was sent for
pub legal_sent : (capacity : ℕ) (setup : Setup) (steps : List Step) (transcript : List Entry) (d : DeviceSetup) →
    IsSoundSetup setup → IsOf setup d → Legal capacity setup steps transcript →
    EachEntry (SentAt d) (onto [] transcript)
legal_sent capacity setup steps transcript d sound own legal =
    (legal_sends capacity setup steps transcript d sound own legal).1

-- and at most one is sent for each
pub legal_few_sent : (capacity : ℕ) (setup : Setup) (steps : List Step) (transcript : List Entry) (d : DeviceSetup) →
    IsSoundSetup setup → IsOf setup d → Legal capacity setup steps transcript → sent_in (lines_in d transcript) ≤ 1
legal_few_sent capacity setup steps transcript d sound own legal =
    (legal_sends capacity setup steps transcript d sound own legal).0.0
