-- A job whose exchanges no fault disturbs ends within so many `next` as it has rows, whatever else comes between them.
use Rattle.std.proofs.Common.{◌≡◌, ℕ, zero, suc, ◌+◌, ◌<◌, ◌≤◌, ◌==◌, cond, true, false, Bool, List, [], ◌∷◌, ◌++◌, refl, ap, sym, ◌∙◌, subst, Option, Some, None, ◌⊎◌, inl, inr, arith, eq-eqb, append_assoc}
use Rattle.std.specs.Prelude.{⊤}
use Rattle.cct_model.specs.terms.device.DeviceBody.{DeviceBody}
use Rattle.cct_model.specs.terms.device.DeviceBody.TheVariants.{Acceptor, Bill, Hopper}
use Rattle.cct_model.specs.terms.device.DeviceSetup.{DeviceSetup}
use Rattle.cct_model.specs.terms.device.Setup.{Setup}
use Rattle.cct_model.specs.terms.request.Request.{Request}
use Rattle.cct_model.specs.terms.request.Request.TheVariants.{GetStatus, StopNow}
use Rattle.cct_model.specs.terms.request.ReplyForm.{ReplyForm}
use Rattle.cct_model.specs.lines.record.Record.{Record}
use Rattle.cct_model.specs.declared.judging.Judged.{Judged}
use Rattle.cct_model.specs.lines.command.Command.{Command}
use Rattle.cct_model.specs.lines.command.Command.TheVariants as command
use Rattle.cct_model.specs.lines.command.WireFault.TheVariants as fault
use Rattle.cct_model.specs.lines.command.Step.{Step}
use Rattle.cct_model.specs.lines.command.Step.TheVariants as step
use Rattle.cct_model.specs.lines.entry.End.{End}
use Rattle.cct_model.specs.lines.entry.Entry.{Entry}
use Rattle.cct_model.specs.lines.entry.Entry.TheVariants as entry
use Rattle.cct_model.specs.Request.{form_of, header_of}
use Rattle.cct_model.specs.Reply.{Reply}
use Rattle.cct_model.specs.History.{Met}
use Rattle.cct_model.specs.Hopper.{remaining, status_of}
use Rattle.cct_model.specs.Device.{IsHopper, IsTaker, reply_of}
use Rattle.cct_model.specs.Setup.{IsSoundSetup}
use Rattle.cct_model.specs.Exchange.{ask, asked, asks_of}
use Rattle.cct_model.specs.Line.{Line, exchange, put, taken}
use Rattle.cct_model.specs.Order.{order, is_marked, is_stopped}
use Rattle.cct_model.specs.Job.{free, works, job, with_line, epoch, sends, puts, Noted, noted_in, state_row, ident_requests, judged_in, address_of, tries}
use Rattle.cct_model.specs.Rows.{end_of, end_answered, rows_of, first, waits_for_coins, can_halt, has_waits, rest, done, ends_first, after, end_failed}
use Rattle.cct_model.specs.Script.{IsCommand}
use Rattle.cct_model.specs.Honest.{forged_after}
use Rattle.cct_model.specs.Legal.{with_end, LegalFrom}
use Rattle.cct_model.specs.Transcript.{pending, met, lines_of, heard_by_devices, heard_after, doses_of, got_by}
use Rattle.cct_msg.specs.Forms.{form_shown}
use Rattle.cct_msg.proofs.Exchanges.{asked_back}
use Rattle.cct_laws.specs.Ending.{nexts_after, nexts_at, halts_after, halts_at, is_payment, row_count, nexts_needed, ShowsEnd, EndsAs, EndsRound, HasNoEnd, EachWhileRunning, LeavesAlone, IsUndisturbed, FindsNoneLeft, AlwaysFindsNoneLeft}
use Rattle.cct_laws.specs.Ids.{Ids}
use Rattle.cct_laws.specs.DeviceJobs.{suits}
use Rattle.cct_laws.specs.Law.{IsOf}
use Rattle.cct_laws.proofs.jobs.AskedAndAnswered.{answers_at, refusable}
use Rattle.cct_laws.proofs.jobs.StepBrings.{AtDevice, came, took, halted, idled, made_exchange, made_put, AtWork, row_after, wire_of, wire_end, record_end, Brought}
use Rattle.cct_model.proofs.Doses.{job_undosed}
use Rattle.cct_laws.proofs.wire.Exchanges.{Replied, Refused, undisturbed_got, undisturbed_refused}
use Rattle.cct_laws.proofs.steps.OneMore.{grown}
use Rattle.cct_laws.proofs.orders.Ids.{ids_start, put_owned}
use Rattle.cct_model.proofs.Rows.{waits_before, told_no_waits}
use Rattle.cct_laws.proofs.jobs.EntriesOfStep.{Telling, tells, GoesOverForged, over_telling, any_steps}
use Rattle.cct_laws.proofs.jobs.SeenAtOne.{ArePassed, loose, loose_line, Lost, bare, kept_here, kept_elsewhere, seen_here, seen_aside, seen_lost, seen_from, passed_job, lines_wire, lines_put, lines_taken, along_from, ids_told}
use Rattle.cct_laws.proofs.jobs.Tries.{IfEndOf, ends_of_answer, ends_of_put}
use Rattle.cct_laws.proofs.jobs.LastRows.{few_failed, few_put, few_answered, refused_ends, refused_once}
use Rattle.cct_laws.proofs.money.RecordsHeld.{judged_reads}
use Rattle.cct_model.proofs.Tries.{same_request, left_asks}
use Rattle.cct_model.proofs.RowEnds.{AnswersAs, answers_as, once_ends, once_goes, row_once, rest_asks}
use Rattle.cct_laws.proofs.wire.Replies.{replied_status, same_reply}

-- a job that is to end within so many `next`: one for each of its rows that aren't done, and one for a halt
record JobAt (d : DeviceSetup) (c : Command) (nexts : ℕ) (past : List Entry) : Type 0 where
  since : List Line
  job_is : job (lines_of d past) ≡ works c since
  few : done (rows_of d c) since < row_count d c
  enough : row_count d c + cond (is_marked since) 1 0 ≤ done (rows_of d c) since + nexts

-- what a step makes of it: it ends, or has so many `next` left, and no job ended at its address
Goes : DeviceSetup → Command → ℕ → List Entry → List Entry → Type 0
Goes d c nexts past news =
    ShowsEnd c d.addr news ⊎ (JobAt d c nexts (news ++ past) × HasNoEnd d.addr news)

job_left : (d : DeviceSetup) (c : Command) (nexts more : ℕ) (past news : List Entry) → nexts ≤ more →
    job (lines_of d (news ++ past)) ≡ job (lines_of d past) → HasNoEnd d.addr news → JobAt d c nexts past →
    Goes d c more past news
unfolding Goes
job_left d c nexts more past news fewer same no_end at =
    let left : JobAt d c more (news ++ past) = record {
      since = at.since;
      job_is = same ∙ at.job_is;
      few = at.few;
      enough = omega (arith, fewer, at.enough);
    } in
    inr (left, no_end)

-- an entry of it, with its end or without
goes_by : (d : DeviceSetup) (c : Command) (nexts : ℕ) (past : List Entry) (since : List Line) (l : Line) (e : Entry)
    (found : Option End) → job (lines_of d (e ∷ past)) ≡ works c (l ∷ since) → HasNoEnd d.addr (e ∷ []) →
    IfEndOf c found → (found ≡ None → done (rows_of d c) (l ∷ since) < row_count d c) →
    row_count d c + cond (is_marked (l ∷ since)) 1 0 ≤ done (rows_of d c) (l ∷ since) + nexts →
    Goes d c nexts past (with_end d.addr e found)
unfolding Goes
goes_by d c nexts past since l e None is_job no_end ends few enough =
    let after : JobAt d c nexts (e ∷ past) =
    record { since = l ∷ since; job_is = is_job; few = few refl; enough = enough } in
    inr (after, no_end)
goes_by d c nexts past since l e (Some end) is_job no_end ends few enough = inl (inl (refl, ends))

paying_of : (body : DeviceBody) (c : Command) → suits body c ≡ true → is_payment c ≡ true → IsHopper body
paying_of (Hopper life value) c suited pays = tt
paying_of (Acceptor accepts values ids) (command.Pay addr id count) suited pays = absurd cc
paying_of (Acceptor accepts values ids) c suited pays = absurd cc
paying_of (Bill accepts values ids) (command.Pay addr id count) suited pays = absurd cc
paying_of (Bill accepts values ids) c suited pays = absurd cc

-- the premise that all coins have fallen where a status is asked
abbrev FoundNoneLeft : DeviceSetup → List Met → Request → Type 0
FoundNoneLeft d past q = q ≡ GetStatus → remaining d.serial past ≡ 0

-- a job that waits for a payout is a payment or a settlement
payment_waits : (d : DeviceSetup) (c : Command) → has_waits (rows_of d c) ≡ is_payment c
payment_waits d (command.Ident addr) = told_no_waits (ident_requests d.body)
payment_waits d c = refl

halted_pays : (d : DeviceSetup) (c : Command) (since : List Line) → can_halt d (works c since) ≡ true →
    is_payment c ≡ true
halted_pays d c since can = sym (payment_waits d c) ∙ waits_before (rows_of d c) (done (rows_of d c) since) can

-- an answer brings the job on: it ends the row, or the mark of a halt
on_by : (ended stopped marked : Bool) (rows n nexts : ℕ) → ended ≡ true → rows + cond marked 1 0 ≤ n + suc nexts →
    rows + cond (cond stopped false marked) 1 0 ≤ cond ended (suc n) n + nexts
on_by true true marked rows n nexts is enough = omega (arith, enough)
on_by true false marked rows n nexts is enough = omega (arith, enough)
on_by false stopped marked rows n nexts is enough = absurd cc

off_by : (ended : Bool) (rows n nexts : ℕ) → rows + 1 ≤ n + suc nexts → rows + 0 ≤ cond ended (suc n) n + nexts
off_by true rows n nexts enough = omega (arith, enough)
off_by false rows n nexts enough = omega (arith, enough)

-- where all coins have fallen, a status ends the row that waits for them
state_ends : (d : DeviceSetup) (past : List Met) (q : Request) (y : Reply) → IsHopper d.body → GetStatus ≡ q →
    reply_of d past q ≡ Some y → remaining d.serial past ≡ 0 → ends_first (waits_for_coins ∷ []) (Some y) ≡ true
state_ends d past q y paying is replied none =
    let told : status_of d.serial past ≡ y =
    same_reply (status_of d.serial past) y
    (sym (replied_status d past paying) ∙ ap (reply_of d past) is ∙ replied) in
    subst (λ x. ends_first (waits_for_coins ∷ []) (Some x) ≡ true) told (eq-eqb (remaining d.serial past) 0 none)

-- the answer to a stop ends the mark, and that to a status the row
state_brings : (d : DeviceSetup) (past : List Met) (q : Request) (y : Reply) (marked ended : Bool) (rows n nexts : ℕ) →
    IsHopper d.body → state_row marked ≡ sends q → reply_of d past q ≡ Some y → FoundNoneLeft d past q →
    ended ≡ ends_first (waits_for_coins ∷ []) (Some y) → rows + cond marked 1 0 ≤ n + suc nexts →
    rows + cond (cond (is_stopped (Some q) (Some y)) false marked) 1 0 ≤ cond ended (suc n) n + nexts
state_brings d past q y true ended rows n nexts paying is replied found ends enough =
    subst (λ x. rows + cond (cond (is_stopped (Some x) (Some y)) false true) 1 0 ≤ cond ended (suc n) n + nexts)
    (same_request StopNow q is) (off_by ended rows n nexts enough)
state_brings d past q y false ended rows n nexts paying is replied found ends enough =
    let asks = same_request GetStatus q is in
    on_by ended (is_stopped (Some q) (Some y)) false rows n nexts
    (ends ∙ state_ends d past q y paying asks replied (found (sym asks))) enough

answer_brings : (d : DeviceSetup) (past : List Met) (c : Command) (since : List Line) (q : Request) (y : Reply)
    (nexts : ℕ) → suits d.body c ≡ true → AnswersAs (rest d c since) (is_marked since) q →
    reply_of d past q ≡ Some y → (is_payment c ≡ true → FoundNoneLeft d past q) →
    row_count d c + cond (is_marked since) 1 0 ≤ done (rows_of d c) since + suc nexts →
    row_count d c + cond (is_marked (exchange (Some q) (Some y) ∷ since)) 1 0 ≤
    done (rows_of d c) (exchange (Some q) (Some y) ∷ since) + nexts
answer_brings d past c since q y nexts suited (inl ends) replied found enough =
    on_by (ends_first (rest d c since) (Some y)) (is_stopped (Some q) (Some y)) (is_marked since) (row_count d c)
    (done (rows_of d c) since) nexts (ends y) enough
answer_brings d past c since q y nexts suited (inr waits) replied found enough =
    let pays = halted_pays d c since waits.0 in
    state_brings d past q y (is_marked since) (ends_first (rest d c since) (Some y)) (row_count d c)
    (done (rows_of d c) since) nexts (paying_of d.body c suited pays) waits.1 replied (found pays) (waits.2 y) enough

-- an exchange of a job, what it got being reported
exchanged : (setup : Setup) (d : DeviceSetup) (c : Command) (nexts : ℕ) (past : List Entry) (since : List Line)
    (q : Request) (found : Option Reply) → job (lines_of d past) ≡ works c since →
    asked d.kind (ask d.kind d.addr q) ≡ Some q →
    got_by d (ask d.kind d.addr q) (heard_after setup past (ask d.kind d.addr q)) ≡ found →
    IfEndOf c (end_of d c (exchange (Some q) found) since (epoch (lines_of d past))) →
    (end_of d c (exchange (Some q) found) since (epoch (lines_of d past)) ≡ None →
    done (rows_of d c) (exchange (Some q) found ∷ since) < row_count d c) →
    row_count d c + cond (is_marked (exchange (Some q) found ∷ since)) 1 0 ≤
    done (rows_of d c) (exchange (Some q) found ∷ since) + nexts →
    Goes d c nexts past (with_end d.addr (wire_of setup d past q) (wire_end setup d past c since q))
exchanged setup d c nexts past since q found is_job asks_it got_is ends few enough =
    let sent = ask d.kind d.addr q in
    let got = got_by d sent (heard_after setup past sent) in
    let l = exchange (Some q) found in
    let line_is : exchange (asked d.kind sent) got ≡ l =
    ap (λ a. exchange a got) asks_it ∙ ap (exchange (Some q)) got_is in
    let same = job_undosed d.body d.serial (met d past) (asks_of d (heard_by_devices (pending past) sent))
    (lines_of d past) in
    let is_after : job (lines_of d (wire_of setup d past q ∷ past)) ≡ works c (l ∷ since) =
    ap job (lines_wire d past sent (heard_after setup past sent))
    ∙ ap (λ x. with_line x (job (doses_of d past sent ++ lines_of d past))) line_is
    ∙ ap (with_line l) (same ∙ is_job) in
    subst (λ x. Goes d c nexts past (with_end d.addr (wire_of setup d past q)
    (end_of d c x since (epoch (lines_of d past))))) (sym line_is)
    (goes_by d c nexts past since l (wire_of setup d past q) (end_of d c l since (epoch (lines_of d past))) is_after tt
    ends few enough)

-- an answered one brings it on
few_left : (ended : Bool) (d : DeviceSetup) (c : Command) (rows : ℕ) (judged means : Judged) (p : Noted)
    (q : Request) (y : Reply) (wanted : ReplyForm) →
    first (address_of c) judged p (after (rows_of d c) rows) ≡ sends q → form_of q ≡ Some wanted →
    form_shown y ≡ Some wanted → rows < row_count d c → end_answered (after (rows_of d c) rows) y means ≡ None →
    cond ended (suc rows) rows < row_count d c
few_left true d c rows judged means p q y wanted is wants shown few none =
    few_answered d c rows judged means p q y wanted is wants shown few none
few_left false d c rows judged means p q y wanted is wants shown few none = few

answered_there : (setup : Setup) (d : DeviceSetup) (c : Command) (nexts : ℕ) (past : List Entry) (since : List Line)
    (q : Request) → IsSoundSetup setup → IsOf setup d → suits d.body c ≡ true → job (lines_of d past) ≡ works c since →
    done (rows_of d c) since < row_count d c →
    row_count d c + cond (is_marked since) 1 0 ≤ done (rows_of d c) since + suc nexts →
    row_after d past c since ≡ sends q → pending past ≡ fault.Clear →
    (is_payment c ≡ true → FoundNoneLeft d (met d past) q) → Replied d (met d past) q →
    Goes d c nexts past (with_end d.addr (wire_of setup d past q) (wire_end setup d past c since q))
answered_there setup d c nexts past since q sound own suited is_job few enough is_row clear found is =
    let state = epoch (lines_of d past) in
    let owed = order (lines_of d past) in
    let means = judged_in c (exchange (Some q) (Some is.y) ∷ since) state in
    exchanged setup d c nexts past since q (Some is.y) is_job (asked_back d.kind d.addr q is.fits)
    (undisturbed_got setup d past q is sound own clear)
    (ends_of_answer d c (Some q) is.y since state)
    (λ no_end.
    few_left (ends_first (rest d c since) (Some is.y)) d c (done (rows_of d c) since) (judged_in c since state) means
    (noted_in since owed) q is.y is.form (rest_asks d c since state owed q is_row) is.wants is.shown few
    (subst (λ rows. end_answered rows is.y means ≡ None) (left_asks d c since state owed q is_row) no_end))
    (answer_brings d (met d past) c since q is.y nexts suited (answers_as d c since state owed q is_row) is.replied found
    enough)

-- and so does what the device refuses
refused_there : (setup : Setup) (d : DeviceSetup) (c : Command) (nexts : ℕ) (past : List Entry) (since : List Line)
    (q : Request) → IsSoundSetup setup → IsOf setup d → job (lines_of d past) ≡ works c since →
    done (rows_of d c) since < row_count d c → row_count d c + cond (is_marked since) 1 0 ≤ done (rows_of d c) since + suc nexts →
    row_after d past c since ≡ sends q → pending past ≡ fault.Clear → Refused d (met d past) q →
    Goes d c nexts past (with_end d.addr (wire_of setup d past q) (wire_end setup d past c since q))
refused_there setup d c nexts past since q sound own is_job few enough is_row clear is =
    let state = epoch (lines_of d past) in
    let owed = order (lines_of d past) in
    let may = refusable d (met d past) q is.refuses in
    let once = row_once d c since state owed q is_row (refused_once q may) in
    let failed = tries (header_of q) (exchange (Some q) None ∷ since) in
    exchanged setup d c nexts past since q None is_job (asked_back d.kind d.addr q is.fits)
    (undisturbed_refused setup d past q is sound own clear) (refused_ends d c since state owed q may is_row)
    (λ no_end.
    subst (λ n. n < row_count d c) (sym (once_goes (rows_of d c) (Some q) None since once))
    (few_failed d c (done (rows_of d c) since) failed once few
    (subst (λ rows. end_failed rows failed ≡ None) (left_asks d c since state owed q is_row) no_end)))
    (on_by (ends_first (rest d c since) None) (is_stopped (Some q) None) (is_marked since) (row_count d c)
    (done (rows_of d c) since) nexts (once_ends (rest d c since) None once) enough)

asks_there : (setup : Setup) (d : DeviceSetup) (c : Command) (nexts : ℕ) (past : List Entry) (since : List Line)
    (q : Request) → IsSoundSetup setup → IsOf setup d → IsCommand c → suits d.body c ≡ true →
    job (lines_of d past) ≡ works c since → done (rows_of d c) since < row_count d c →
    row_count d c + cond (is_marked since) 1 0 ≤ done (rows_of d c) since + suc nexts →
    row_after d past c since ≡ sends q → pending past ≡ fault.Clear →
    (is_payment c ≡ true → FoundNoneLeft d (met d past) q) →
    Goes d c nexts past (with_end d.addr (wire_of setup d past q) (wire_end setup d past c since q))
asks_there setup d c nexts past since q sound own known suited is_job few enough is_row clear found =
    elim (answers_at setup past d c (done (rows_of d c) since) (judged_in c since (epoch (lines_of d past)))
    (noted_in since (order (lines_of d past))) q sound own suited known is_row) [
      | inl is ↦ answered_there setup d c nexts past since q sound own suited is_job few enough is_row clear found is
      | inr is ↦ refused_there setup d c nexts past since q sound own is_job few enough is_row clear is
    ]

-- a put brings it on
puts_there : (setup : Setup) (d : DeviceSetup) (c : Command) (nexts : ℕ) (past : List Entry) (since : List Line)
    (r : Record) → IsOf setup d → Ids setup past → AtWork d past c since → done (rows_of d c) since < row_count d c →
    row_count d c + cond (is_marked since) 1 0 ≤ done (rows_of d c) since + suc nexts → row_after d past c since ≡ puts r →
    Goes d c nexts past (with_end d.addr (entry.Put r) (record_end d past c since r))
puts_there setup d c nexts past since r own ids at_work few enough is_row =
    let state = epoch (lines_of d past) in
    let reads = judged_reads c since state in
    goes_by d c nexts past since (put r) (entry.Put r) (end_of d c (put r) since state)
    (ap job (lines_put d past r (put_owned setup past d c since r own ids at_work is_row))
    ∙ ap (with_line (put r)) at_work.job_is) tt (ends_of_put d c r since state)
    (few_put d c (done (rows_of d c) since) (judged_in c since state) (noted_in since (order (lines_of d past))) r is_row reads few)
    (on_by true false (is_marked since) (row_count d c) (done (rows_of d c) since) nexts refl enough)

-- how many `next` are left after a step
abbrev one_fewer : ℕ → ℕ
one_fewer zero = zero
one_fewer (suc n) = n

needed_after : Bool → ℕ → Step → ℕ → ℕ
needed_after pays addr (step.Next other) n = cond (other == addr) (one_fewer n) n
needed_after pays addr (step.Command (command.Halt other)) n = cond (other == addr) (cond pays (suc n) n) n
needed_after pays addr s n = n

not_fewer : (here : Bool) (n : ℕ) → cond here (suc n) n ≡ n → n ≤ cond here (one_fewer n) n
not_fewer true n same = absurd (omega (arith, same))
not_fewer false n same = omega arith

halt_more : (here pays : Bool) (n : ℕ) → n ≤ cond here (cond pays (suc n) n) n
halt_more true true n = omega arith
halt_more true false n = omega arith
halt_more false pays n = omega arith

other_needs : (pays : Bool) (addr : ℕ) (s : Step) (n : ℕ) → nexts_after addr s n ≡ n → n ≤ needed_after pays addr s n
unfolding needed_after
other_needs pays addr (step.Next other) n same = not_fewer (other == addr) n same
other_needs pays addr (step.Command (command.Halt other)) n same = halt_more (other == addr) pays n
other_needs pays addr s n same = omega arith

-- a halt is a line of it, for which one `next` more is needed
marked_more : (marked : Bool) (rows n nexts : ℕ) → rows + cond marked 1 0 ≤ n + nexts → rows + 1 ≤ n + suc nexts
marked_more true rows n nexts enough = omega (arith, enough)
marked_more false rows n nexts enough = omega (arith, enough)

halt_there : (d : DeviceSetup) (c : Command) (nexts : ℕ) (past : List Entry) → JobAt d c nexts past →
    Goes d c (suc nexts) past (entry.Taken (command.Halt d.addr) ∷ [])
unfolding Goes
halt_there d c nexts past at =
    let l = taken (command.Halt d.addr) in
    let after : JobAt d c (suc nexts) (entry.Taken (command.Halt d.addr) ∷ past) = record {
      since = l ∷ at.since;
      job_is = ap job (lines_taken d past (command.Halt d.addr) refl) ∙ ap (with_line l) at.job_is;
      few = at.few;
      enough = marked_more (is_marked at.since) (row_count d c) (done (rows_of d c) at.since) nexts at.enough;
    } in
    inr (after, tt)

-- the command of the running job
pub works_same : (c at_work : Command) (since others : List Line) → works c since ≡ works at_work others →
    (at_work ≡ c) × (others ≡ since)
works_same c at_work since others is = (cc, cc)

pub no_free : (c : Command) (since : List Line) → works c since ≡ free → ⊥
no_free c since is = cc

-- no fault was set for its exchange, and where that asked how a payout goes, nothing was left
pub first_clear : (addr : ℕ) (past : List Entry) (sent piece : List ℕ) (end : Option End) →
    EachWhileRunning (LeavesAlone addr) addr past (with_end addr (entry.Wire addr sent piece) end) →
    pending past ≡ fault.Clear
first_clear addr past sent piece None alone = alone.0 tt refl
first_clear addr past sent piece (Some end) alone = alone.1.0 tt refl

first_found : (d : DeviceSetup) (past : List Entry) (sent piece : List ℕ) (end : Option End) →
    EachWhileRunning (FindsNoneLeft d) d.addr past (with_end d.addr (entry.Wire d.addr sent piece) end) →
    asked d.kind sent ≡ Some GetStatus → remaining d.serial (met d past) ≡ 0
first_found d past sent piece None finds = finds.0 tt refl
first_found d past sent piece (Some end) finds = finds.1.0 tt refl

-- what each step brings at the device
pub record IsPlayed (setup : Setup) (d : DeviceSetup) (c : Command) : Type 0 where
  pub sound : IsSoundSetup setup
  pub own : IsOf setup d
  pub known : IsCommand c
  pub suited : suits d.body c ≡ true

asked_there : (setup : Setup) (d : DeviceSetup) (c at_work : Command) (nexts : ℕ) (past : List Entry)
    (since others : List Line) (q : Request) → IsPlayed setup d c → (at_work ≡ c) × (others ≡ since) →
    job (lines_of d past) ≡ works c since → done (rows_of d c) since < row_count d c →
    row_count d c + cond (is_marked since) 1 0 ≤ done (rows_of d c) since + suc nexts →
    row_after d past at_work others ≡ sends q →
    EachWhileRunning (LeavesAlone d.addr) d.addr past
    (with_end d.addr (wire_of setup d past q) (wire_end setup d past at_work others q)) →
    (is_payment c ≡ true → EachWhileRunning (FindsNoneLeft d) d.addr past
    (with_end d.addr (wire_of setup d past q) (wire_end setup d past at_work others q))) →
    Goes d c nexts past (with_end d.addr (wire_of setup d past q) (wire_end setup d past at_work others q))
asked_there setup d c at_work nexts past since others q played same is_job few enough is_row alone finds =
    let sent = ask d.kind d.addr q in
    let clear = first_clear d.addr past sent (heard_after setup past sent) (wire_end setup d past at_work others q)
    alone in
    let same_row : row_after d past c since ≡ sends q =
    subst (λ x. row_after d past x since ≡ sends q) same.0
    (subst (λ x. row_after d past at_work x ≡ sends q) same.1 is_row) in
    let asks : is_payment c ≡ true → FoundNoneLeft d (met d past) q =
    λ pays is. first_found d past sent (heard_after setup past sent) (wire_end setup d past at_work others q)
    (finds pays) (read_back is) in
    subst (λ x. Goes d c nexts past (with_end d.addr (wire_of setup d past q) (wire_end setup d past x others q)))
    (sym same.0)
    (subst (λ x. Goes d c nexts past (with_end d.addr (wire_of setup d past q) (wire_end setup d past c x q)))
    (sym same.1)
    (asks_there setup d c nexts past since q played.sound played.own played.known played.suited is_job few enough
    same_row clear asks))
  where
    read_back : q ≡ GetStatus → asked d.kind (ask d.kind d.addr q) ≡ Some GetStatus
    read_back is =
        ap (λ x. asked d.kind (ask d.kind d.addr x)) is
        ∙ asked_back d.kind d.addr GetStatus (λ serial count e. cc)

put_there : (setup : Setup) (d : DeviceSetup) (c at_work : Command) (nexts : ℕ) (past : List Entry)
    (since others : List Line) (r : Record) → IsPlayed setup d c → Ids setup past →
    (at_work ≡ c) × (others ≡ since) → AtWork d past c since → done (rows_of d c) since < row_count d c →
    row_count d c + cond (is_marked since) 1 0 ≤ done (rows_of d c) since + suc nexts →
    row_after d past at_work others ≡ puts r →
    Goes d c nexts past (with_end d.addr (entry.Put r) (record_end d past at_work others r))
put_there setup d c at_work nexts past since others r played ids same is_work few enough is_row =
    let same_row : row_after d past c since ≡ puts r =
    subst (λ x. row_after d past x since ≡ puts r) same.0
    (subst (λ x. row_after d past at_work x ≡ puts r) same.1 is_row) in
    subst (λ x. Goes d c nexts past (with_end d.addr (entry.Put r) (record_end d past x others r))) (sym same.0)
    (subst (λ x. Goes d c nexts past (with_end d.addr (entry.Put r) (record_end d past c x r))) (sym same.1)
    (puts_there setup d c nexts past since r played.own ids is_work few enough same_row))

-- and what it makes of the job
job_there : (capacity : ℕ) (setup : Setup) (d : DeviceSetup) (c : Command) (nexts : ℕ) (past news : List Entry)
    (s : Step) → IsPlayed setup d c → Ids setup past → JobAt d c (suc nexts) past →
    EachWhileRunning (LeavesAlone d.addr) d.addr past news →
    (is_payment c ≡ true → EachWhileRunning (FindsNoneLeft d) d.addr past news) → AtDevice capacity setup d past s news →
    Goes d c (needed_after (is_payment c) d.addr s (suc nexts)) past news
unfolding needed_after
job_there capacity setup d c nexts past _ _ played ids at alone finds (came s e m ls comes) =
    let is = loose d (met d past) s e m ls comes in
    job_left d c (suc nexts) (needed_after (is_payment c) d.addr s (suc nexts)) past (e ∷ [])
    (other_needs (is_payment c) d.addr s (suc nexts) (is.no_next d.addr (suc nexts)))
    (ap job (loose_line d past s e m ls is) ∙ is.same_job (lines_of d past)) (is.no_end d.addr) at
job_there capacity setup d c nexts past _ _ played ids at alone finds
    (took s x gives suited here is_free is_taken is_owed lets) = absurd (no_free c at.since (sym at.job_is ∙ is_free))
job_there capacity setup d c nexts past _ _ played ids at alone finds (halted paying can) =
    let pays = halted_pays d c at.since (subst (λ j. can_halt d j ≡ true) at.job_is can) in
    rw (eq-eqb d.addr d.addr refl, pays) (halt_there d c (suc nexts) past at)
job_there capacity setup d c nexts past _ _ played ids at alone finds (idled is_free) =
    absurd (no_free c at.since (sym at.job_is ∙ is_free))
job_there capacity setup d c nexts past _ _ played ids at alone finds (made_exchange x others q at_work is_row) =
    rw (eq-eqb d.addr d.addr refl)
    (asked_there setup d c x nexts past at.since others q played
    (works_same c x at.since others (sym at.job_is ∙ at_work.job_is)) at.job_is at.few at.enough is_row alone finds)
job_there capacity setup d c nexts past _ _ played ids at alone finds (made_put x others r at_work is_row) =
    let same = works_same c x at.since others (sym at.job_is ∙ at_work.job_is) in
    let is_work : AtWork d past c at.since =
    record { job_is = at.job_is; is_here = subst (λ y. address_of y ≡ d.addr) same.0 at_work.is_here } in
    rw (eq-eqb d.addr d.addr refl)
    (put_there setup d c x nexts past at.since others r played ids same is_work at.few at.enough is_row)

-- entries that are none of the device
no_end_more : (addr : ℕ) (e : Entry) (news : List Entry) → HasNoEnd addr (e ∷ []) → HasNoEnd addr news →
    HasNoEnd addr (e ∷ news)
no_end_more addr (entry.Ended other end) news first others = (first.0, others)
no_end_more addr e news first others = others

pub passed_no_end : (d : DeviceSetup) (past news : List Entry) → ArePassed d past news → HasNoEnd d.addr news
passed_no_end d past [] passes = tt
passed_no_end d past (e ∷ news) passes = no_end_more d.addr e news passes.0.no_end (passed_no_end d past news passes.1)

-- the power isn't cut while the job is running
pub none_lost : (d : DeviceSetup) (past news : List Entry) → Lost d past news →
    EachWhileRunning (LeavesAlone d.addr) d.addr past news → ⊥
none_lost d past _ bare alone = alone.0 tt
none_lost d past _ (kept_here c since r at_work is_row owned) alone = alone.1.0 tt
none_lost d past _ (kept_elsewhere r away caused) alone = alone.1.0 tt

job_step : (capacity : ℕ) (setup : Setup) (d : DeviceSetup) (c : Command) (nexts : ℕ) (past news : List Entry)
    (s : Step) → IsPlayed setup d c → Ids setup past → JobAt d c (suc nexts) past →
    EachWhileRunning (LeavesAlone d.addr) d.addr past news →
    (is_payment c ≡ true → EachWhileRunning (FindsNoneLeft d) d.addr past news) → Brought capacity setup past s news →
    Goes d c (needed_after (is_payment c) d.addr s (suc nexts)) past news
job_step capacity setup d c nexts past news s played ids at alone finds told =
    elim (seen_from capacity setup d past news s played.sound played.own ids told) [
      | seen_here here ↦ job_there capacity setup d c nexts past news s played ids at alone finds here
      | seen_aside aside ↦ job_left d c (suc nexts) (needed_after (is_payment c) d.addr s (suc nexts)) past news
          (other_needs (is_payment c) d.addr s (suc nexts) (aside.no_next (suc nexts)))
          (passed_job d past news aside.passes) (passed_no_end d past news aside.passes) at
      | seen_lost lost no_next ↦ absurd (none_lost d past news lost alone)
    ]

-- an entry that reports a forged exchange is no end, and no line of the job
goes_forged : (d : DeviceSetup) (c : Command) (nexts : ℕ) (past : List Entry) → GoesOverForged (Goes d c nexts past)
unfolding Goes
goes_forged d c nexts past news addr (inl shows) = inl shows
goes_forged d c nexts past news addr (inr goes) = inr (after, goes.1)
  where
    after : JobAt d c nexts (entry.Forged addr ∷ news ++ past)
    after = record { since = goes.0.since; job_is = goes.0.job_is; few = goes.0.few; enough = goes.0.enough }

-- what holds of entries of a running job holds of their parts
pub work_first : (P : List Entry → Entry → Type 0) (addr : ℕ) (past news later : List Entry) →
    EachWhileRunning P addr past (later ++ news) → EachWhileRunning P addr past news
work_first P addr past news [] each = each
work_first P addr past news (e ∷ later) each = work_first P addr past news later each.1

pub told_first : (P : List Entry → Entry → Type 0) (addr : ℕ) (capacity : ℕ) (setup : Setup) (past news : List Entry)
    (s : Step) (told : Telling capacity setup past s news) → EachWhileRunning P addr past news →
    EachWhileRunning P addr past told.told
told_first P addr capacity setup past news s told each =
    work_first P addr past told.told (forged_after past told.told) (subst (EachWhileRunning P addr past) told.whole each)

no_end_both : (addr : ℕ) (news later : List Entry) → HasNoEnd addr later → HasNoEnd addr news →
    HasNoEnd addr (later ++ news)
no_end_both addr news [] first none = none
no_end_both addr news (entry.Ended other end ∷ later) first none = (first.0, no_end_both addr news later first.1 none)
no_end_both addr news (e ∷ later) first none = no_end_both addr news later first none

pub work_later : (P : List Entry → Entry → Type 0) (addr : ℕ) (past news later : List Entry) → HasNoEnd addr news →
    EachWhileRunning P addr past (later ++ news) → EachWhileRunning P addr (news ++ past) later
work_later P addr past news [] none each = tt
work_later P addr past news (e ∷ later) none each = (
  λ first. subst (λ es. P es e) (append_assoc later news past) (each.0 (no_end_both addr news later first none)),
  work_later P addr past news later none each.1,
)

-- a step, by all that it reports
job_told : (capacity : ℕ) (setup : Setup) (d : DeviceSetup) (c : Command) (nexts : ℕ) (past news : List Entry)
    (s : Step) → IsPlayed setup d c → Ids setup past → JobAt d c (suc nexts) past →
    EachWhileRunning (LeavesAlone d.addr) d.addr past news →
    (is_payment c ≡ true → EachWhileRunning (FindsNoneLeft d) d.addr past news) → Telling capacity setup past s news →
    Goes d c (needed_after (is_payment c) d.addr s (suc nexts)) past news
job_told capacity setup d c nexts past news s played ids at alone finds told =
    let goes = needed_after (is_payment c) d.addr s (suc nexts) in
    over_telling capacity setup past news s (Goes d c goes past) (goes_forged d c goes past) told
    (job_step capacity setup d c nexts past told.told s played ids at
    (told_first (LeavesAlone d.addr) d.addr capacity setup past news s told alone)
    (λ pays. told_first (FindsNoneLeft d) d.addr capacity setup past news s told (finds pays)) told.brings)

-- an end that entries show, they show before and after others
shows_more : (c : Command) (addr : ℕ) (more news : List Entry) → ShowsEnd c addr news → ShowsEnd c addr (more ++ news)
shows_more c addr [] news shows = shows
shows_more c addr (entry.Ended other end ∷ more) news shows = inr (shows_more c addr more news shows)
shows_more c addr (e ∷ more) news shows = shows_more c addr more news shows

shows_front : (c : Command) (addr : ℕ) (news past : List Entry) → ShowsEnd c addr news → ShowsEnd c addr (news ++ past)
shows_front c addr [] past shows = absurd shows
shows_front c addr (entry.Ended other end ∷ news) past (inl here) = inl here
shows_front c addr (entry.Ended other end ∷ news) past (inr later) = inr (shows_front c addr news past later)
shows_front c addr (e ∷ news) past shows = shows_front c addr news past shows

-- enough `next` are to come
next_by : (here : Bool) (n halts come : ℕ) → suc n + halts ≤ cond here (suc come) come →
    cond here n (suc n) + halts ≤ come
next_by true n halts come enough = omega (arith, enough)
next_by false n halts come enough = enough

halt_by : (here pays : Bool) (n halts come : ℕ) → suc n + cond pays (cond here (suc halts) halts) 0 ≤ come →
    cond here (cond pays (suc (suc n)) (suc n)) (suc n) + cond pays halts 0 ≤ come
halt_by true true n halts come enough = omega (arith, enough)
halt_by true false n halts come enough = enough
halt_by false pays n halts come enough = enough

step_needs : (pays : Bool) (addr : ℕ) (s : Step) (n halts come : ℕ) →
    suc n + cond pays (halts_after addr s halts) 0 ≤ nexts_after addr s come →
    needed_after pays addr s (suc n) + cond pays halts 0 ≤ come
unfolding needed_after
step_needs pays addr (step.Next other) n halts come enough = next_by (other == addr) n (cond pays halts 0) come enough
step_needs pays addr (step.Command (command.Halt other)) n halts come enough =
    halt_by (other == addr) pays n halts come enough
step_needs pays addr s n halts come enough = enough

-- one step after the other
ends_along : (capacity : ℕ) (setup : Setup) (d : DeviceSetup) (c : Command) (nexts : ℕ) (past : List Entry)
    (steps : List Step) (end : List Entry) → IsPlayed setup d c →
    nexts + cond (is_payment c) (halts_at d.addr steps) 0 ≤ nexts_at d.addr steps → Ids setup past →
    JobAt d c nexts past → LegalFrom capacity setup past steps end → IsUndisturbed d.addr past end →
    (is_payment c ≡ true → AlwaysFindsNoneLeft d past end) → EndsAs c d.addr past end
unfolding Goes
ends_along capacity setup d c zero past steps end played come ids at legal undisturbed paid =
    absurd (omega (arith, at.few, at.enough))
ends_along capacity setup d c (suc nexts) past [] end played come ids at legal undisturbed paid =
    absurd (omega (arith, come))
ends_along capacity setup d c (suc nexts) past (s ∷ steps) end played come ids at legal undisturbed paid =
    let pays = is_payment c in
    let news = legal.0 in
    let told = tells capacity setup past news s legal.1 in
    let later = grown capacity setup (news ++ past) steps end legal.2 in
    let whole : end ≡ (later.0 ++ news) ++ past = later.1 ∙ sym (append_assoc later.0 news past) in
    let alone = work_first (LeavesAlone d.addr) d.addr past news later.0 (undisturbed (later.0 ++ news) whole) in
    let finds : pays ≡ true → EachWhileRunning (FindsNoneLeft d) d.addr past news =
    λ is. work_first (FindsNoneLeft d) d.addr past news later.0 (paid is (later.0 ++ news) whole) in
    elim (job_told capacity setup d c nexts past news s played ids at alone finds told) [
      | inl shows ↦ (later.0 ++ news, whole, shows_more c d.addr later.0 news shows)
      | inr goes ↦ (
          let rest : IsUndisturbed d.addr (news ++ past) end =
          λ more is. work_later (LeavesAlone d.addr) d.addr past news more goes.1
          (undisturbed (more ++ news) (is ∙ sym (append_assoc more news past))) in
          let rest_paid : pays ≡ true → AlwaysFindsNoneLeft d (news ++ past) end =
          λ yes more is. work_later (FindsNoneLeft d) d.addr past news more goes.1
          (paid yes (more ++ news) (is ∙ sym (append_assoc more news past))) in
          let ends = ends_along capacity setup d c (needed_after pays d.addr s (suc nexts)) (news ++ past) steps end
          played (step_needs pays d.addr s nexts (halts_at d.addr steps) (nexts_at d.addr steps) come)
          (ids_told capacity setup past news s played.sound told ids) goes.0 legal.2 rest rest_paid in
          (ends.0 ++ news, ends.1 ∙ sym (append_assoc ends.0 news past), shows_front c d.addr ends.0 news ends.2))
    ]

-- a job has a row
has_rows : (d : DeviceSetup) (body : DeviceBody) (c : Command) → suits body c ≡ true → 0 < row_count d c
has_rows d (Acceptor accepts values ids) (command.Halt addr) suited = absurd cc
has_rows d (Acceptor accepts values ids) command.Scan suited = absurd cc
has_rows d (Acceptor accepts values ids) (command.Vend id price) suited = absurd cc
has_rows d (Hopper life value) (command.Halt addr) suited = absurd cc
has_rows d (Hopper life value) command.Scan suited = absurd cc
has_rows d (Hopper life value) (command.Vend id price) suited = absurd cc
has_rows d (Bill accepts values ids) (command.Halt addr) suited = absurd cc
has_rows d (Bill accepts values ids) command.Scan suited = absurd cc
has_rows d (Bill accepts values ids) (command.Vend id price) suited = absurd cc
has_rows d body c suited = omega arith

needs_by : (pays : Bool) (rows halts come : ℕ) → cond pays (rows + halts) rows ≤ come → rows + cond pays halts 0 ≤ come
needs_by true rows halts come enough = enough
needs_by false rows halts come enough = omega (arith, enough)

-- a job that was just taken ends, where no fault is set for its exchanges, and the host keeps its power
pub job_ends : (capacity : ℕ) (setup : Setup) (before : List Step) (past : List Entry) (d : DeviceSetup)
    (c : Command) (steps : List Step) (end : List Entry) → IsSoundSetup setup → IsOf setup d → IsCommand c →
    suits d.body c ≡ true → LegalFrom capacity setup [] before past → job (lines_of d past) ≡ works c [] →
    nexts_needed d c steps ≤ nexts_at d.addr steps → LegalFrom capacity setup past steps end →
    IsUndisturbed d.addr past end → (is_payment c ≡ true → AlwaysFindsNoneLeft d past end) → EndsAs c d.addr past end
job_ends capacity setup before past d c steps end sound own known suited was is_job enough legal undisturbed paid =
    let played : IsPlayed setup d c = record { sound = sound; own = own; known = known; suited = suited } in
    let ids = (along_from capacity setup (λ s. ⊤) (λ es. ⊤) sound (λ es news s any ids told holds. tt)
    (λ es addr holds. tt) [] before past
    (any_steps before) (ids_start setup) was tt).0 in
    let at : JobAt d c (row_count d c) past = record {
      since = [];
      job_is = is_job;
      few = has_rows d d.body c suited;
      enough = omega arith;
    } in
    ends_along capacity setup d c (row_count d c) past steps end played
    (needs_by (is_payment c) (row_count d c) (halts_at d.addr steps) (nexts_at d.addr steps) enough) ids at legal
    undisturbed paid

-- a round does so within five `next`
pub round_suits : (body : DeviceBody) (addr : ℕ) → IsTaker body → suits body (command.Round addr) ≡ true
round_suits (Acceptor accepts values ids) addr taking = refl
round_suits (Hopper life value) addr taking = absurd taking
round_suits (Bill accepts values ids) addr taking = refl

pub round_ends : (capacity : ℕ) (setup : Setup) (before : List Step) (past : List Entry) (d : DeviceSetup)
    (steps : List Step) (end : List Entry) → IsSoundSetup setup → IsOf setup d → IsTaker d.body →
    LegalFrom capacity setup [] before past → job (lines_of d past) ≡ works (command.Round d.addr) [] →
    5 ≤ nexts_at d.addr steps → LegalFrom capacity setup past steps end → IsUndisturbed d.addr past end →
    EndsRound d.addr past end
round_ends capacity setup before past d steps end sound own taking was is_job enough legal undisturbed =
    job_ends capacity setup before past d (command.Round d.addr) steps end sound own tt
    (round_suits d.body d.addr taking) was is_job enough legal undisturbed (λ pays. absurd cc)
