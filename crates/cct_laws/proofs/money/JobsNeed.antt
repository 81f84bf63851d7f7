-- What the job at each device needs of its epoch and its open order is kept by each step, whatever the wire does: they
-- change only by the puts of that job.
use Rattle.std.proofs.Common.{◌≡◌, ℕ, Bool, true, false, List, [], ◌∷◌, ◌++◌, refl, ap, sym, ◌∙◌, subst, subst₂, Option, Some, None, rules}
use Rattle.std.specs.Prelude.{⊤}
use Rattle.std.proofs.lemmas.Bool.{and_parts}
use Rattle.cct_model.specs.terms.device.DeviceSetup.{DeviceSetup}
use Rattle.cct_model.specs.terms.device.Setup.{Setup}
use Rattle.cct_model.specs.terms.request.Request.{Request}
use Rattle.cct_model.specs.lines.record.Record.{Record}
use Rattle.cct_model.specs.lines.command.Command.{Command}
use Rattle.cct_model.specs.lines.record.Record.TheVariants as record_of
use Rattle.cct_model.specs.declared.judging.Judged.{Judged}
use Rattle.cct_model.specs.declared.judging.Judged.TheVariants.{Nothing, Moved, Reading, Broken}
use Rattle.cct_model.specs.lines.command.Command.TheVariants as command
use Rattle.cct_model.specs.lines.command.Step.{Step}
use Rattle.cct_model.specs.lines.entry.End.{End}
use Rattle.cct_model.specs.lines.entry.Entry.{Entry}
use Rattle.cct_model.specs.lines.entry.Entry.TheVariants as entry
use Rattle.cct_model.specs.declared.judging.EpochState.{EpochState}
use Rattle.cct_model.specs.declared.judging.EpochState.TheVariants.{Idle, Running}
use Rattle.cct_model.specs.declared.judging.OpenOrder.{OpenOrder}
use Rattle.cct_model.specs.Reply.{Reply}
use Rattle.cct_model.specs.Setup.{IsSoundSetup}
use Rattle.cct_model.specs.Exchange.{ask, asked}
use Rattle.cct_model.specs.Line.{Line, exchange, put, taken}
use Rattle.cct_model.specs.Order.{order_by, order}
use Rattle.cct_model.specs.Job.{Job, free, works, with_line, job, puts, counted, epoch_by, epoch, Noted, noted_in, judged_in, address_of, ident_requests}
use Rattle.cct_model.specs.Refusal.{start_refusal}
use Rattle.cct_model.specs.Rows.{Then, if_posted, Due, new_epoch, reading, epoch_end, new_order, order_end, sale, TableRow, asks_for, asks_once, waits_for_coins, puts_due, rows_of, from, done, rest, first, row, end_kept, end_of}
use Rattle.cct_model.specs.Following.{is_running}
use Rattle.cct_model.specs.Transcript.{lines_of, heard_after, got_by, doses_of}
use Rattle.cct_model.proofs.Rows.{but_first, after_none, after_next, after_line, fact_after, EachBefore, before_on, told_fact, each_told, puts_only}
use Rattle.cct_laws.specs.Ids.{Ids}
use Rattle.cct_laws.specs.DeviceJobs.{IsTaken, with_ended}
use Rattle.cct_laws.specs.KeptHopper.{IsOwed}
use Rattle.cct_laws.specs.Law.{IsOf}
use Rattle.cct_laws.proofs.jobs.StepBrings.{wire_of, wire_end, record_end, AtDevice, came, took, halted, idled, made_exchange, made_put, Brought, begun_at_work}
use Rattle.cct_laws.proofs.money.PutsFollow.{DueNeeds, IfPuts, NeedsOf, runs_by}
use Rattle.cct_laws.proofs.money.RecordsHeld.{IsReading, judged_reads, same_record, RowsHoldWell, rest_well, passed_ends}
use Rattle.cct_laws.proofs.orders.Ids.{put_owned}
use Rattle.cct_laws.proofs.jobs.SeenAtOne.{Lost, bare, kept_here, kept_elsewhere, seen_here, seen_aside, seen_lost, seen_from, passed_job, passed_same, lines_wire, lines_put, lines_taken, lines_kept, lines_kept_elsewhere, lines_with_end}
use Rattle.cct_laws.proofs.jobs.LeftAlone.{AreSame, same_came, same_dosed}

-- what the job of lines needs
abbrev pub Needs : DeviceSetup → Job → EpochState → Option OpenOrder → Type 0
Needs d free state owed = ⊤
Needs d (works c since) state owed = NeedsOf d (rest d c since) state owed

abbrev pub NeedsIn : DeviceSetup → List Line → Type 0
NeedsIn d lines = Needs d (job lines) (epoch lines) (order lines)

-- lines that show the same
needs_same : (d : DeviceSetup) (one other : List Line) → AreSame one other → NeedsIn d other → NeedsIn d one
needs_same d one other same needs =
    subst (λ j. Needs d j (epoch one) (order one)) (sym same.jobs)
    (subst₂ (λ state owed. Needs d (job other) state owed) (sym same.epochs) (sym same.orders) needs)

-- the job of lines, at hand
pub needs_as : (d : DeviceSetup) (lines : List Line) (j : Job) → job lines ≡ j → Needs d j (epoch lines) (order lines) →
    NeedsIn d lines
needs_as d lines j is needs = subst (λ x. Needs d x (epoch lines) (order lines)) (sym is) needs

pub needs_at : (d : DeviceSetup) (lines : List Line) (c : Command) (since : List Line) → job lines ≡ works c since →
    NeedsIn d lines → NeedsOf d (rest d c since) (epoch lines) (order lines)
needs_at d lines c since is needs = subst (λ x. Needs d x (epoch lines) (order lines)) is needs

-- an end
needs_ended : (d : DeviceSetup) (end : Option End) (lines : List Line) → NeedsIn d lines →
    NeedsIn d (with_ended end lines)
needs_ended d None lines needs = needs
needs_ended d (Some end) lines needs = tt

-- without the first of its rows a job needs no more
needs_next : (d : DeviceSetup) (rows : List TableRow) (state : EpochState) (owed : Option OpenOrder) →
    NeedsOf d rows state owed → NeedsOf d (but_first rows) state owed
needs_next d [] state owed needs = tt
needs_next d (r ∷ rows) state owed needs = needs.1

-- an exchange
needs_asked : (d : DeviceSetup) (q : Option Request) (got : Option Reply) (lines : List Line) → NeedsIn d lines →
    NeedsIn d (exchange q got ∷ lines)
needs_asked d q got lines needs = by_job (job lines) needs
  where
    by_job : (j : Job) → Needs d j (epoch lines) (order lines) →
        Needs d (with_line (exchange q got) j) (epoch lines) (order lines)
    by_job free holds = tt
    by_job (works c since) holds =
        after_line (λ rows. NeedsOf d rows (epoch lines) (order lines)) (rows_of d c) (exchange q got) since holds
        (needs_next d (rest d c since) (epoch lines) (order lines) holds)

-- a halt
needs_halted : (d : DeviceSetup) (addr : ℕ) (lines : List Line) → NeedsIn d lines →
    NeedsIn d (taken (command.Halt addr) ∷ lines)
needs_halted d addr lines needs = by_job (job lines) needs
  where
    by_job : (j : Job) → Needs d j (epoch lines) (order lines) →
        Needs d (with_line (taken (command.Halt addr)) j) (epoch lines) (order lines)
    by_job free holds = tt
    by_job (works c since) holds = holds

-- a command
needs_begun : (d : DeviceSetup) (c : Command) (state : EpochState) (owed : Option OpenOrder) → IsTaken d c state →
    IsOwed c owed → NeedsOf d (rows_of d c) state owed
needs_begun d (command.Round addr) state owed is_taken is_owed =
    let runs = runs_by state is_taken in search rules
needs_begun d (command.Stop addr) state owed is_taken is_owed =
    let runs = runs_by state is_taken in search rules
needs_begun d (command.Ident addr) state owed is_taken is_owed =
    each_told (IfPuts (DueNeeds d state owed)) (λ q. tt) (λ q. tt) (ident_requests d.body)
needs_begun d c state owed is_taken is_owed = search rules

-- what a put that ends no job leaves

-- a record that needs nothing
abbrev needs_none : Due → Bool
needs_none order_end = true
needs_none (sale id price) = true
needs_none due = false

none_needed : (d : DeviceSetup) (state : EpochState) (owed : Option OpenOrder) (due : Due) → needs_none due ≡ true →
    DueNeeds d state owed due
none_needed d state owed order_end none = tt
none_needed d state owed (sale id price) none = tt
none_needed d state owed due none = absurd cc

no_needs : (d : DeviceSetup) (state : EpochState) (owed : Option OpenOrder) (rows : List TableRow) →
    puts_only needs_none rows ≡ true → NeedsOf d rows state owed
no_needs d state owed [] only = tt
no_needs d state owed (puts_due due behind ∷ rows) only =
    let parts = and_parts (needs_none due) (puts_only needs_none rows) only in
    (none_needed d state owed due parts.0, no_needs d state owed rows parts.1)
no_needs d state owed (asks_for q behind ∷ rows) only = (tt, no_needs d state owed rows only)
no_needs d state owed (asks_once q behind without ∷ rows) only = (tt, no_needs d state owed rows only)
no_needs d state owed (waits_for_coins ∷ rows) only = (tt, no_needs d state owed rows only)

-- a break ends its job
abbrev BreakEnds : Then → Type 0
BreakEnds (if_posted of_reading) = ⊤
BreakEnds behind = ⊥

-- so it does after a reading, and after any other put nothing more is needed
abbrev NeedsWell : TableRow → List TableRow → Type 0
NeedsWell (puts_due reading behind) rows = BreakEnds behind
NeedsWell (puts_due due behind) rows = puts_only needs_none rows ≡ true
NeedsWell r rows = ⊤

needs_well : (d : DeviceSetup) (c : Command) → EachBefore NeedsWell (rows_of d c)
needs_well d (command.Ident addr) =
    told_fact (EachBefore NeedsWell) tt (λ q behind rows each. (tt, each)) (ident_requests d.body)
needs_well d c = search rules

-- a reading leaves an epoch as it is, but for its counters
counted_runs : (counter accepts : ℕ) (state : EpochState) → is_running (counted counter accepts state) ≡ is_running state
counted_runs counter accepts Idle = refl
counted_runs counter accepts (Running mask before earlier) = refl

counted_starts : (d : DeviceSetup) (mask counter accepts : ℕ) (state : EpochState) →
    start_refusal mask d (counted counter accepts state) ≡ start_refusal mask d state
counted_starts d mask counter accepts Idle = refl
counted_starts d mask counter accepts (Running running before earlier) = refl

due_counted : (d : DeviceSetup) (counter accepts : ℕ) (state : EpochState) (owed : Option OpenOrder) (due : Due) →
    DueNeeds d state owed due → DueNeeds d (counted counter accepts state) owed due
due_counted d counter accepts state owed (new_epoch mask) needs = counted_starts d mask counter accepts state ∙ needs
due_counted d counter accepts state owed reading needs = counted_runs counter accepts state ∙ needs
due_counted d counter accepts state owed epoch_end needs = counted_runs counter accepts state ∙ needs
due_counted d counter accepts state owed (new_order id count) needs = needs
due_counted d counter accepts state owed due needs = tt

needs_counted : (d : DeviceSetup) (counter accepts : ℕ) (state : EpochState) (owed : Option OpenOrder)
    (rows : List TableRow) → NeedsOf d rows state owed → NeedsOf d rows (counted counter accepts state) owed
needs_counted d counter accepts state owed [] needs = tt
needs_counted d counter accepts state owed (puts_due due behind ∷ rows) needs =
    (due_counted d counter accepts state owed due needs.0, needs_counted d counter accepts state owed rows needs.1)
needs_counted d counter accepts state owed (asks_for q behind ∷ rows) needs =
    (tt, needs_counted d counter accepts state owed rows needs.1)
needs_counted d counter accepts state owed (asks_once q behind without ∷ rows) needs =
    (tt, needs_counted d counter accepts state owed rows needs.1)
needs_counted d counter accepts state owed (waits_for_coins ∷ rows) needs =
    (tt, needs_counted d counter accepts state owed rows needs.1)

needs_read : (d : DeviceSetup) (state : EpochState) (owed : Option OpenOrder) (rows : List TableRow) (e r : Record) →
    e ≡ r → IsReading (Reading e) → NeedsOf d rows state owed → NeedsOf d rows (epoch_by r state) (order_by r owed)
needs_read d state owed rows (record_of.Reading addr counter lost accepts posted) r same reads needs =
    subst (λ x. NeedsOf d rows (epoch_by x state) (order_by x owed)) same
    (needs_counted d counter accepts state owed rows needs)
needs_read d state owed rows e r same reads needs = absurd reads

break_ends : (behind : Then) (rows : List TableRow) (e r : Record) → e ≡ r → IsReading (Broken e) → BreakEnds behind →
    end_kept (puts_due reading behind ∷ rows) r ≡ None → ⊥
break_ends (if_posted of_reading) rows (record_of.Broken addr seen counter lost accepts posted) r same reads breaks none =
    let all = puts_due reading (if_posted of_reading) ∷ rows in
    let over : end_kept all (record_of.Broken addr seen counter lost accepts posted) ≡ None = ap (end_kept all) same ∙ none in
    cc
break_ends (if_posted of_reading) rows e r same reads breaks none = reads
break_ends behind rows e r same reads breaks none = breaks

first_needs : (d : DeviceSetup) (addr : ℕ) (means : Judged) (p : Noted) (state : EpochState) (rows : List TableRow)
    (r : Record) → IsReading means → EachBefore NeedsWell rows → RowsHoldWell rows →
    first addr means p (from rows means) ≡ puts r → end_kept rows r ≡ None → NeedsOf d rows state p.owed →
    NeedsOf d (but_first rows) (epoch_by r state) (order_by r p.owed)
first_needs d addr means p state [] r reads well held is none needs = tt
first_needs d addr means p state (asks_for q behind ∷ rows) r reads well held is none needs = absurd cc
first_needs d addr means p state (asks_once q behind without ∷ rows) r reads well held is none needs = absurd cc
first_needs d addr means p state (waits_for_coins ∷ rows) r reads well held is none needs = absurd cc
first_needs d addr Nothing p state (puts_due reading behind ∷ rows) r reads well held is none needs =
    absurd (passed_ends addr p behind rows r held.0 is none)
first_needs d addr Moved p state (puts_due reading behind ∷ rows) r reads well held is none needs = absurd cc
first_needs d addr (Reading e) p state (puts_due reading behind ∷ rows) r reads well held is none needs =
    needs_read d state p.owed rows e r (same_record e r is) reads needs.1
first_needs d addr (Broken e) p state (puts_due reading behind ∷ rows) r reads well held is none needs =
    absurd (break_ends behind rows e r (same_record e r is) reads well.0 none)
first_needs d addr means p state (puts_due due behind ∷ rows) r reads well held is none needs =
    no_needs d (epoch_by r state) (order_by r p.owed) rows well.0

needs_put : (d : DeviceSetup) (c : Command) (since : List Line) (state : EpochState) (owed : Option OpenOrder)
    (r : Record) → row d c since state owed ≡ puts r → end_of d c (put r) since state ≡ None →
    NeedsOf d (rest d c since) state owed →
    NeedsOf d (rest d c (put r ∷ since)) (epoch_by r state) (order_by r owed)
needs_put d c since state owed r is none needs =
    let n = done (rows_of d c) since in
    subst (λ rows. NeedsOf d rows (epoch_by r state) (order_by r owed)) (sym (after_next (rows_of d c) n))
    (first_needs d (address_of c) (judged_in c since state) (noted_in since owed) state (rest d c since) r
    (judged_reads c since state)
    (fact_after (EachBefore NeedsWell) (before_on NeedsWell) (rows_of d c) n (needs_well d c)) (rest_well d c since) is
    none needs)

needs_record : (d : DeviceSetup) (c : Command) (since : List Line) (r : Record) (lines : List Line) →
    job lines ≡ works c since → row d c since (epoch lines) (order lines) ≡ puts r → NeedsIn d lines →
    NeedsIn d (with_ended (end_of d c (put r) since (epoch lines)) (put r ∷ lines))
needs_record d c since r lines is row_is needs = by_end (end_of d c (put r) since (epoch lines)) refl
  where
    by_end : (end : Option End) → end_of d c (put r) since (epoch lines) ≡ end → NeedsIn d (with_ended end (put r ∷ lines))
    by_end None none =
        needs_as d (put r ∷ lines) (works c (put r ∷ since)) (ap (with_line (put r)) is)
        (needs_put d c since (epoch lines) (order lines) r row_is none (needs_at d lines c since is needs))
    by_end (Some end) some = tt

-- what a step brought at the device
needs_there : (capacity : ℕ) (setup : Setup) (d : DeviceSetup) (past news : List Entry) (s : Step) →
    Ids setup past → IsOf setup d → AtDevice capacity setup d past s news → NeedsIn d (lines_of d past) →
    NeedsIn d (lines_of d (news ++ past))
needs_there capacity setup d past _ _ ids own (came s x m ls comes) needs =
    needs_same d (lines_of d (x ∷ past)) (lines_of d past) (same_came d past s x m ls comes) needs
needs_there capacity setup d past _ _ ids own (took s c gives suited here is_free is_taken is_owed lets) needs =
    subst (NeedsIn d) (sym (lines_taken d past c here))
    (needs_as d (taken c ∷ lines_of d past) (works c []) (begun_at_work d.body c (lines_of d past) suited)
    (subst (λ rows. NeedsOf d rows (epoch (lines_of d past)) (order (lines_of d past))) (sym (after_none (rows_of d c)))
    (needs_begun d c (epoch (lines_of d past)) (order (lines_of d past)) is_taken is_owed)))
needs_there capacity setup d past _ _ ids own (halted paying can) needs =
    subst (NeedsIn d) (sym (lines_taken d past (command.Halt d.addr) refl))
    (needs_halted d d.addr (lines_of d past) needs)
needs_there capacity setup d past _ _ ids own (idled is_free) needs = needs
needs_there capacity setup d past _ _ ids own (made_exchange c since q at_work is_row) needs =
    let sent = ask d.kind d.addr q in
    let piece = heard_after setup past sent in
    let dosed = doses_of d past sent ++ lines_of d past in
    subst (NeedsIn d)
    (sym (lines_with_end d past (wire_of setup d past q) (wire_end setup d past c since q)
    (exchange (asked d.kind sent) (got_by d sent piece) ∷ dosed) (lines_wire d past sent piece)))
    (needs_ended d (wire_end setup d past c since q) (exchange (asked d.kind sent) (got_by d sent piece) ∷ dosed)
    (needs_asked d (asked d.kind sent) (got_by d sent piece) dosed
    (needs_same d dosed (lines_of d past) (same_dosed d past sent) needs)))
needs_there capacity setup d past _ _ ids own (made_put c since r at_work is_row) needs =
    subst (NeedsIn d)
    (sym (lines_with_end d past (entry.Put r) (record_end d past c since r) (put r ∷ lines_of d past)
    (lines_put d past r (put_owned setup past d c since r own ids at_work is_row))))
    (needs_record d c since r (lines_of d past) at_work.job_is is_row needs)

needs_lost : (d : DeviceSetup) (past news : List Entry) → Lost d past news → NeedsIn d (lines_of d (news ++ past))
needs_lost d past _ bare = tt
needs_lost d past _ (kept_here c since r at_work is_row owned) =
    subst (NeedsIn d) (sym (lines_kept d past r owned)) tt
needs_lost d past _ (kept_elsewhere r away caused) = subst (NeedsIn d) (sym (lines_kept_elsewhere d past r away)) tt

-- every step keeps it
pub needs_step : (capacity : ℕ) (setup : Setup) (d : DeviceSetup) (past news : List Entry) (s : Step) →
    IsSoundSetup setup → IsOf setup d → Ids setup past → Brought capacity setup past s news →
    NeedsIn d (lines_of d past) → NeedsIn d (lines_of d (news ++ past))
needs_step capacity setup d past news s sound own ids told needs =
    elim (seen_from capacity setup d past news s sound own ids told) [
      | seen_here at ↦ needs_there capacity setup d past news s ids own at needs
      | seen_aside aside ↦ needs_same d (lines_of d (news ++ past)) (lines_of d past) (record {
        jobs = passed_job d past news aside.passes;
        epochs = passed_same epoch (record { dosed = λ count lines. refl; stacked = λ coin lines. refl }) d past news aside.passes;
        orders = passed_same order (record { dosed = λ count lines. refl; stacked = λ coin lines. refl }) d past news aside.passes;
      }) needs
      | seen_lost lost no_next ↦ needs_lost d past news lost
    ]
