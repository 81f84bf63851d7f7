-- No order is ever closed with life counts that don't fit it.
use Rattle.std.proofs.Common.{◌≡◌, ℕ, ◌==◌, ◌||◌, cond, true, false, Bool, List, [], ◌++◌, refl, subst, Option, Some, None, rules, sym, ap, ◌∷◌, ◌∙◌}
use Rattle.std.specs.Prelude.{⊤}
use Rattle.cct_model.specs.terms.wire.CheckKind.{CheckKind}
use Rattle.cct_model.specs.terms.wire.CheckKind.TheVariants.{Simple, Crc}
use Rattle.cct_model.specs.terms.device.DeviceBody.{DeviceBody}
use Rattle.cct_model.specs.terms.device.DeviceBody.TheVariants.{Acceptor, Bill, Hopper}
use Rattle.cct_model.specs.terms.device.DeviceSetup.{DeviceSetup}
use Rattle.cct_model.specs.terms.device.Setup.{Setup}
use Rattle.cct_model.specs.terms.request.Request.{Request}
use Rattle.cct_model.specs.lines.record.Record.{Record}
use Rattle.cct_model.specs.lines.record.Record.TheVariants as record_of
use Rattle.cct_model.specs.declared.judging.EpochState.{EpochState}
use Rattle.cct_model.specs.declared.judging.OpenOrder.{OpenOrder}
use Rattle.cct_model.specs.lines.command.Command.{Command}
use Rattle.cct_model.specs.lines.command.Command.TheVariants as command
use Rattle.cct_model.specs.lines.command.Step.{Step}
use Rattle.cct_model.specs.lines.entry.End.{End}
use Rattle.cct_model.specs.lines.entry.End.TheVariants.{NoAnswer, OddLife}
use Rattle.cct_model.specs.lines.entry.Entry.{Entry}
use Rattle.cct_model.specs.lines.entry.Entry.TheVariants as entry
use Rattle.cct_model.specs.Reply.{Reply}
use Rattle.cct_model.specs.Device.{IsHopper}
use Rattle.cct_model.specs.Setup.{IsSoundSetup}
use Rattle.cct_model.specs.Line.{Line, exchange, put}
use Rattle.cct_model.specs.Order.{order}
use Rattle.cct_model.specs.Job.{job, epoch, puts, judged_in, credits_read, mask_read, accepts_before, accepts_read, noted_in, ident_requests, end_of_close, address_of}
use Rattle.cct_model.specs.Rows.{row, end_of, TableRow, Due, puts_due, rows_of, Then, end_kept, new_epoch, ends_as, end_by_record, if_posted, if_closed, reading, asks_for, epoch_end, asks_once, waits_for_coins, new_order, rest, sale, order_end, done}
use Rattle.cct_model.specs.Scan.{end_of_scan, end_by_row, scan_row, scan_tries}
use Rattle.cct_model.specs.Legal.{with_end}
use Rattle.cct_model.specs.Script.{IsInRange}
use Rattle.cct_model.specs.Honest.{Honest, HonestPast}
use Rattle.cct_model.specs.Transcript.{met, lines_of, onto}
use Rattle.cct_laws.specs.Ids.{Ids}
use Rattle.cct_laws.specs.DeviceJobs.{is_for_taker, suits}
use Rattle.cct_laws.specs.Law.{IsOf, EachEntry}
use Rattle.cct_laws.specs.LifeCounts.{HasFittingLife, FitsLife}
use Rattle.cct_laws.specs.Scope.{EachTranscript}
use Rattle.cct_laws.proofs.jobs.StepBrings.{AtDevice, came, took, halted, idled, made_exchange, made_put, AtWork, Brought, of_device, faulted, refused, began_scan, began_sale, nobody, polled, sold, balanced, of_desk, ended_short, lost_power, lost_in_put, lost_in_sale, row_after, wire_of, wire_end, record_end, poll_wire, poll_end, IsOfNoJob, came_of_no_job, desk_of_no_job}
use Rattle.cct_laws.proofs.steps.EitherKind.{both_hopper, for_taker}
use Rattle.cct_laws.proofs.steps.EachKeeps.{IsRanged, ranged_step, kept_step}
use Rattle.cct_laws.proofs.orders.Paying.{pays_kept, never_odd}
use Rattle.cct_laws.proofs.orders.Payouts.{Pays}
use Rattle.cct_model.proofs.Rows.{IfEnd, RowHolds, JudgedHolds, judged_holds, EachRow, exchange_end, puts_only, AnswerEnds, BareEnds, DueHolds, each_told, told_only, each_put, each_after}
use Rattle.cct_laws.proofs.jobs.SeenAtOne.{along}
use Rattle.cct_laws.proofs.steps.AllKept.{honest_before}

-- an end but that one, if there is one
abbrev IsFitEnd : End → Type 0
IsFitEnd OddLife = ⊥
IsFitEnd end = ⊤

abbrev IsFit : Option End → Type 0
IsFit found = IfEnd IsFitEnd found

-- the ends of an exchange
answers_fit : (d : DeviceSetup) (c : Command) → EachRow (AnswerEnds IsFitEnd) (rows_of d c)
answers_fit d (command.Ident addr) = each_told (AnswerEnds IsFitEnd) (λ q. tt) (λ q. tt) (ident_requests d.body)
answers_fit d c = search rules

bare_fit : (d : DeviceSetup) (c : Command) → EachRow (BareEnds IsFitEnd) (rows_of d c)
bare_fit d (command.Ident addr) = each_told (BareEnds IsFitEnd) (λ q. tt) (λ q. tt) (ident_requests d.body)
bare_fit d c = search rules

exchange_fit : (d : DeviceSetup) (c : Command) (asked : Option Request) (got : Option Reply) (work : List Line)
    (state : EpochState) → IsFit (end_of d c (exchange asked got) work state)
exchange_fit d c asked got work state =
    exchange_end IsFitEnd d c asked got work state (answers_fit d c) (bare_fit d c) tt

listed_fit : (since : List Line) (due : Option (CheckKind × ℕ)) → IsFit (end_by_row since due)
listed_fit since (Some poll) = tt
listed_fit since None = tt

scan_fit : (since : List Line) → IsFit (end_of_scan since)
unfolding end_of_scan
scan_fit since = by_tries ((scan_tries Simple since == 3) || (scan_tries Crc since == 3))
  where
    by_tries : (third : Bool) → IsFit (cond third (Some NoAnswer) (end_by_row since (scan_row since)))
    by_tries true = tt
    by_tries false = listed_fit since (scan_row since)

-- the ends of a put
close_fit : (r : Record) → HasFittingLife r → IsFit (end_of_close r)
close_fit (record_of.Closed id paid unpaid) fine = tt
close_fit (record_of.Odd id life_before life_after) fine = absurd fine
close_fit r fine = tt

abbrev PutsFit : TableRow → Type 0
PutsFit (puts_due due (ends_as end)) = IsFitEnd end
PutsFit (puts_due due (if_posted of_reading)) = IsFit of_reading
PutsFit r = ⊤

puts_fit : (d : DeviceSetup) (c : Command) → EachRow PutsFit (rows_of d c)
puts_fit d (command.Ident addr) = each_told PutsFit (λ q. tt) (λ q. tt) (ident_requests d.body)
puts_fit d c = search rules

record_fit : (due : Due) (behind : Then) (r : Record) → PutsFit (puts_due due behind) → HasFittingLife r →
    IsFit (end_by_record behind r)
record_fit due (ends_as end) r fit fine = fit
record_fit due (if_posted of_reading) (record_of.Reading addr counter lost accepts coins) fit fine = fit
record_fit due (if_posted of_reading) (record_of.Broken addr seen counter lost accepts coins) fit fine = tt
record_fit due (if_posted of_reading) r fit fine = tt
record_fit due if_closed r fit fine = close_fit r fine
record_fit due behind r fit fine = tt

kept_fit : (rows : List TableRow) (r : Record) → EachRow PutsFit rows → HasFittingLife r → IsFit (end_kept rows r)
kept_fit [] r each fine = tt
kept_fit (puts_due reading behind ∷ rows) (record_of.Reading addr counter lost accepts coins) each fine =
    record_fit reading behind (record_of.Reading addr counter lost accepts coins) each.0 fine
kept_fit (puts_due reading behind ∷ rows) (record_of.Broken addr seen counter lost accepts coins) each fine =
    record_fit reading behind (record_of.Broken addr seen counter lost accepts coins) each.0 fine
kept_fit (puts_due reading behind ∷ rows) r each fine = kept_fit rows r each.1 fine
kept_fit (puts_due (new_epoch mask) behind ∷ rows) r each fine = record_fit (new_epoch mask) behind r each.0 fine
kept_fit (puts_due epoch_end behind ∷ rows) r each fine = record_fit epoch_end behind r each.0 fine
kept_fit (puts_due (new_order id count) behind ∷ rows) r each fine =
    record_fit (new_order id count) behind r each.0 fine
kept_fit (puts_due order_end behind ∷ rows) r each fine = record_fit order_end behind r each.0 fine
kept_fit (puts_due (sale id price) behind ∷ rows) r each fine = record_fit (sale id price) behind r each.0 fine
kept_fit (asks_for q behind ∷ rows) r each fine = tt
kept_fit (asks_once q behind without ∷ rows) r each fine = tt
kept_fit (waits_for_coins ∷ rows) r each fine = tt

put_fit : (d : DeviceSetup) (c : Command) (r : Record) (since : List Line) (state : EpochState) → HasFittingLife r →
    IsFit (end_of d c (put r) since state)
put_fit d c r since state fine =
    kept_fit (rest d c since) r (each_after PutsFit (rows_of d c) (done (rows_of d c) since) (puts_fit d c)) fine

-- an entry, and an end after it
entries_fit : (past : List Entry) (addr : ℕ) (e : Entry) (end : Option End) → FitsLife past e → IsFit end →
    EachEntry FitsLife past → EachEntry FitsLife (with_end addr e end ++ past)
entries_fit past addr e None fine fit before = (fine, before)
entries_fit past addr e (Some OddLife) fine fit before = absurd fit
entries_fit past addr e (Some end) fine fit before = (tt, (fine, before))

-- a job of a device that takes money puts no such record
judged_fit : (c : Command) (since : List Line) (state : EpochState) → JudgedHolds HasFittingLife (judged_in c since state)
judged_fit c since state =
    judged_holds HasFittingLife (address_of c) state (credits_read since) (mask_read since) (accepts_before since)
    (accepts_read since) (λ counter lost accepts posted. tt) (λ mask counter lost accepts posted. tt)

abbrev is_reading_due : Due → Bool
is_reading_due (new_epoch mask) = true
is_reading_due reading = true
is_reading_due epoch_end = true
is_reading_due due = false

taker_dues : (d : DeviceSetup) (c : Command) →
    cond (is_for_taker c) (puts_only is_reading_due (rows_of d c)) true ≡ true
taker_dues d (command.Ident addr) = told_only is_reading_due (ident_requests d.body)
taker_dues d c = refl

taker_fit : (d : DeviceSetup) (c : Command) (since : List Line) (state : EpochState) (owed : Option OpenOrder)
    (r : Record) → is_for_taker c ≡ true → row d c since state owed ≡ puts r → HasFittingLife r
taker_fit d c since state owed r suited is_row =
    let judged = judged_in c since state in
    let p = noted_in since owed in
    let only : puts_only is_reading_due (rows_of d c) ≡ true =
    sym (ap (λ b. cond b (puts_only is_reading_due (rows_of d c)) true) suited) ∙ taker_dues d c in
    subst (RowHolds (λ q. ⊤) HasFittingLife) is_row
    (each_put HasFittingLife is_reading_due d c (done (rows_of d c) since) judged p only due_fit)
  where
    due_fit : (due : Due) → is_reading_due due ≡ true →
        DueHolds HasFittingLife (address_of c) (judged_in c since state) (noted_in since owed) due
    due_fit (new_epoch mask) is = λ accepts read. tt
    due_fit reading is = judged_fit c since state
    due_fit epoch_end is = tt
    due_fit due is = absurd cc

-- what holds of every hopper of a setup beside
record AllFit (setup : Setup) (past : List Entry) : Type 0 where
  ranged : (d : DeviceSetup) → IsOf setup d → IsRanged d (job (lines_of d past))
  holds : HonestPast past → ((d : DeviceSetup) → IsOf setup d → IsHopper d.body → Pays d (met d past) (lines_of d past))
      × EachEntry FitsLife past

row_fit : (setup : Setup) (past : List Entry) (d : DeviceSetup) (c : Command) (since : List Line) (r : Record)
    (body : DeviceBody) → body ≡ d.body → suits body c ≡ true →
    (IsHopper body → Pays d (met d past) (lines_of d past)) → AtWork d past c since → row_after d past c since ≡ puts r →
    HasFittingLife r
row_fit setup past d c since r (Acceptor accepts values ids) is suited pays at_work is_row =
    taker_fit d c since (epoch (lines_of d past)) (order (lines_of d past)) r
    (for_taker (Acceptor accepts values ids) c tt suited) is_row
row_fit setup past d c since r (Hopper life value) is suited pays at_work is_row =
    never_odd d (met d past) (lines_of d past) c since r (pays tt) at_work.job_is is_row
row_fit setup past d c since r (Bill accepts values ids) is suited pays at_work is_row =
    taker_fit d c since (epoch (lines_of d past)) (order (lines_of d past)) r
    (for_taker (Bill accepts values ids) c tt suited) is_row

device_fit : (setup : Setup) (past : List Entry) (d : DeviceSetup) (c : Command) (since : List Line) (r : Record) →
    IsOf setup d → AllFit setup past → HonestPast past → AtWork d past c since → row_after d past c since ≡ puts r →
    HasFittingLife r
device_fit setup past d c since r own all honest at_work is_row =
    row_fit setup past d c since r d.body refl (subst (IsRanged d) at_work.job_is (all.ranged d own)).1
    ((all.holds honest).0 d own) at_work is_row

-- what is of no job
fit_of_no_job : (past : List Entry) (e : Entry) → IsOfNoJob e → FitsLife past e
fit_of_no_job past (entry.Put r) is = absurd is
fit_of_no_job past (entry.Kept r) is = absurd is
fit_of_no_job past (entry.Ended addr end) is = absurd is
fit_of_no_job past e is = tt

there_fit : (capacity : ℕ) (setup : Setup) (d : DeviceSetup) (past news : List Entry) (s : Step) → IsOf setup d →
    AllFit setup past → HonestPast past → AtDevice capacity setup d past s news → EachEntry FitsLife past →
    EachEntry FitsLife (news ++ past)
there_fit capacity setup d past _ _ own all honest (came s e m ls comes) before =
    (fit_of_no_job past e (came_of_no_job d (met d past) s e m ls comes), before)
there_fit capacity setup d past _ _ own all honest (took s c gives suited here is_free is_taken is_owed lets) before = (tt, before)
there_fit capacity setup d past _ _ own all honest (halted paying can) before = (tt, before)
there_fit capacity setup d past _ _ own all honest (idled is_free) before = (tt, before)
there_fit capacity setup d past _ _ own all honest (made_exchange c since q at_work is_row) before =
    entries_fit past d.addr (wire_of setup d past q) (wire_end setup d past c since q) tt
    (exchange_fit d c _ _ since (epoch (lines_of d past))) before
there_fit capacity setup d past _ _ own all honest (made_put c since r at_work is_row) before =
    let fine = device_fit setup past d c since r own all honest at_work is_row in
    entries_fit past d.addr (entry.Put r) (record_end d past c since r) fine (put_fit d c r since (epoch (lines_of d past)) fine) before

life_fit : (capacity : ℕ) (setup : Setup) (past news : List Entry) (s : Step) → AllFit setup past → HonestPast past →
    Brought capacity setup past s news → EachEntry FitsLife past → EachEntry FitsLife (news ++ past)
life_fit capacity setup past _ _ all honest (of_device d s news own told) before =
    there_fit capacity setup d past news s own all honest told before
life_fit capacity setup past _ _ all honest (faulted f) before = (tt, before)
life_fit capacity setup past _ _ all honest (refused c why was) before = (tt, before)
life_fit capacity setup past _ _ all honest (began_scan is_free) before = (tt, before)
life_fit capacity setup past _ _ all honest (began_sale id price is_free lets) before = (tt, before)
life_fit capacity setup past _ _ all honest (nobody addr none) before = (tt, before)
life_fit capacity setup past _ _ all honest (polled c since check addr none is_job is_row) before =
    entries_fit past 0 (poll_wire setup past check addr) (poll_end setup past since check addr) tt (scan_fit _) before
life_fit capacity setup past _ _ all honest (sold id price since none selling) before = (tt, (tt, before))
life_fit capacity setup past _ _ all honest balanced before = (tt, before)
life_fit capacity setup past _ _ all honest (of_desk s e is) before = (fit_of_no_job past e (desk_of_no_job s e is), before)
life_fit capacity setup past _ _ all honest (ended_short addr id count why paid rest small range was) before =
    (tt, (tt, before))
life_fit capacity setup past _ _ all honest (lost_power at choice) before = (tt, before)
life_fit capacity setup past _ _ all honest (lost_in_put at choice d c since r own at_work is_row) before =
    (device_fit setup past d c since r own all honest at_work is_row, (tt, before))
life_fit capacity setup past _ _ all honest (lost_in_sale at choice id price since none selling) before =
    (tt, (tt, before))

fit_step : (capacity : ℕ) (setup : Setup) → IsSoundSetup setup → (past news : List Entry) (s : Step) →
    IsInRange s → Ids setup past → Brought capacity setup past s news → AllFit setup past → AllFit setup (news ++ past)
fit_step capacity setup sound past news s range ids told all = record {
  ranged = λ d own. ranged_step capacity setup d past news s sound own range ids told (all.ranged d own);
  holds = λ honest. let was = honest_before news past honest in (
    λ d own paying. kept_step capacity setup d (λ since met lines. Pays d met lines) past news s sound own
        (both_hopper d (Pays d) paying (pays_kept d paying)) range (all.ranged d own) ids told honest
        ((all.holds was).0 d own paying),
    life_fit capacity setup past news s all was told (all.holds was).1,
  );
}

fit_forged : (setup : Setup) (past : List Entry) (addr : ℕ) → AllFit setup past → AllFit setup (entry.Forged addr ∷ past)
fit_forged setup past addr all = record {
  ranged = all.ranged;
  holds = λ honest. let both = all.holds honest.1 in (both.0, (tt, both.1));
}

pub legal_life : EachTranscript (λ capacity setup transcript. Honest transcript → EachEntry FitsLife (onto []
    transcript))
legal_life capacity setup steps transcript sound in_range legal honest =
    ((along capacity setup IsInRange (AllFit setup) sound (fit_step capacity setup sound) (fit_forged setup) steps
    (onto [] transcript) in_range legal (record {
      ranged = λ d own. tt;
      holds = λ none. (λ d own paying. (pays_kept d paying).starts, tt);
    })).holds honest).1
