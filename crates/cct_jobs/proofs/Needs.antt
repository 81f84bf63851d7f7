-- What a job needs, and that a put brings fewer to come.
use Rattle.std.specs.Prelude.{⊤, IfSome}
use Rattle.std.proofs.Common.{◌≡◌, ℕ, ◌<◌, ◌≤◌, List, refl, sym, ap, subst, ◌∙◌, Option, Some, None, arith}
use Rattle.cct_model.specs.terms.device.DeviceSetup.{DeviceSetup}
use Rattle.cct_model.specs.lines.command.Command.{Command}
use Rattle.cct_model.specs.lines.entry.End.{End}
use Rattle.cct_model.specs.declared.judging.EpochState.{EpochState}
use Rattle.cct_model.specs.declared.judging.OpenOrder.{OpenOrder}
use Rattle.cct_model.specs.lines.record.Record.{Record}
use Rattle.cct_model.specs.lines.record.Record.TheVariants.{Epoch, EpochEnd}
use Rattle.cct_model.specs.terms.request.Request.{Request}
use Rattle.cct_model.specs.terms.wire.CheckKind.{CheckKind}
use Rattle.cct_model.specs.terms.wire.CheckKind.TheVariants.{Simple, Crc}
use Rattle.cct_model.specs.Exchange.{ask}
use Rattle.cct_model.specs.Job.{address_of, accepts_before, accepts_read, credits_read, mask_read, sends, puts}
use Rattle.cct_model.specs.Rows.{left, puts_in, row}
use Rattle.cct_model.specs.Line.{Line}
use Rattle.cct_model.specs.Scan.{end_of_scan, poll_of, scan_row}
use Rattle.cct_model.specs.Transcript.{owner}
use Rattle.cct_model.proofs.Tries.{same_request}
use Rattle.cct_jobs.specs.declared.job.Need.{Need}
use Rattle.cct_jobs.specs.declared.job.Need.TheVariants as need
use Rattle.cct_jobs.specs.declared.job.Sending.{Sending}
use Rattle.cct_jobs.specs.declared.job.Job.{Job}
use Rattle.cct_jobs.specs.declared.job.Job.TheVariants.{Asks, StartPuts, RoundPuts, StopPuts, StopEnds, OrderOpens, OrderCloses, SalePuts, ScanCallsSimple, ScanCallsCrc, ScanPollsSimple, ScanPollsCrc, Done}
use Rattle.cct_jobs.specs.declared.stage.Stage.{Stage}
use Rattle.cct_jobs.specs.declared.target.Target.{Target}
use Rattle.cct_jobs.specs.Ahead.{ahead}
use Rattle.cct_jobs.specs.Jobs.{Asking, ClosesItsOwn, IsPut, Needs, Stands, after_put, asks_at, end_in, end_of_job, need_of, newest_end, put_in, request_of, sending_of}
use Rattle.cct_jobs.specs.Scans.{NeedsScan, StandsScan}
use Rattle.cct_jobs.proofs.Left.{left_known}
use Rattle.cct_jobs.proofs.Owners.{closing_owner, reading_owner}
use Rattle.cct_jobs.proofs.Puts.{round_row, stop_row}
use Rattle.cct_jobs.proofs.Scans.{calls_simple_row, calls_crc_row, calls_simple_on, calls_crc_on, polls_row, polls_on}
use Rattle.cct_jobs.proofs.Stages.{stage_row}

-- what a job at a device needs

needs_by : (d : DeviceSetup) (job : Job) (c : Command) (since : List Line) (state : EpochState)
    (owed : Option OpenOrder) → Stands d job c since state owed → Needs (need_of job) d c since state owed
needs_by d (Asks device stage failed) c since state owed at = record {
  request = request_of device.family stage;
  row_is = stage_row at;
}
needs_by d (StartPuts device mask counted) c since state owed (device_is, rest_is, at) = record {
  is_here = at.is_here;
  row_is = at.row_is ∙ ap (λ (t : Target). puts (Epoch t.addr mask counted.accepts)) (sym device_is);
  owned = λ past owns. ap (λ (t : Target). t.addr) device_is;
}
needs_by d (RoundPuts entry end) c since state owed at = record {
  is_here = at.is_here;
  row_is = at.row_is;
  owned = λ past owns.
      reading_owner past (address_of c) state (credits_read since) (mask_read since) (accepts_before since) (accepts_read since) entry
      (round_row d entry end c since state owed at)
      ∙ at.is_here;
}
needs_by d (StopPuts device entry end) c since state owed (device_is, rest_is, at) = record {
  is_here = at.is_here;
  row_is = at.row_is;
  owned = λ past owns.
      reading_owner past (address_of c) state (credits_read since) (mask_read since) (accepts_before since) (accepts_read since) entry
      (stop_row d device entry end c since state owed at)
      ∙ at.is_here;
}
needs_by d (StopEnds device) c since state owed (device_is, at) = record {
  is_here = at.is_here;
  row_is = at.row_is ∙ ap (λ (t : Target). puts (EpochEnd t.addr)) (sym device_is);
  owned = λ past owns. ap (λ (t : Target). t.addr) device_is;
}
needs_by d (OrderOpens device own halted) c since state owed at = record {
  is_here = at.at.is_here;
  row_is = at.at.row_is;
  owned = λ past owns. at.is_here;
}
needs_by d (OrderCloses entry end) c since state owed at = record {
  is_here = at.at.is_here;
  row_is = at.at.row_is;
  owned = λ past owns.
      subst (λ r. ClosesItsOwn past d.addr r → owner past r ≡ d.addr) (sym at.closes)
      (closing_owner past d.addr at.order at.life) owns;
}
needs_by d (Done end) c since state owed at = at
needs_by d job c since state owed at = absurd at

pub need_known : (d : DeviceSetup) (job : Job) (c : Command) (since : List Line) (state : EpochState)
    (owed : Option OpenOrder) (n : Need)
    → n ≡ need_of job → Stands d job c since state owed → Needs n d c since state owed
need_known d job c since state owed n is at =
    subst (λ m. Needs m d c since state owed) (sym is) (needs_by d job c since state owed at)

-- its end is what its newest line brought
end_by : (d : DeviceSetup) (job : Job) (c : Command) (since : List Line) (state : EpochState)
    (owed : Option OpenOrder) → Stands d job c since state owed → end_of_job job ≡ newest_end d c since state
end_by d (Asks device stage failed) c since state owed at = sym at.goes_on
end_by d (StartPuts device mask counted) c since state owed at = sym at.2.goes_on
end_by d (RoundPuts entry end) c since state owed at = sym at.goes_on
end_by d (StopPuts device entry end) c since state owed at = sym at.2.goes_on
end_by d (StopEnds device) c since state owed at = sym at.1.goes_on
end_by d (OrderOpens device own halted) c since state owed at = sym at.at.goes_on
end_by d (OrderCloses entry end) c since state owed at = sym at.at.goes_on
end_by d (Done end) c since state owed at = sym at
end_by d job c since state owed at = absurd at

pub end_known : (d : DeviceSetup) (job : Job) (c : Command) (since : List Line) (state : EpochState)
    (owed : Option OpenOrder) (end : Option End)
    → end ≡ end_of_job job → Stands d job c since state owed → end ≡ newest_end d c since state
end_known d job c since state owed end is at = is ∙ end_by d job c since state owed at

-- what a scan needs

scan_needs_by : (job : Job) (since : List Line) → StandsScan job since → NeedsScan (need_of job) since
scan_needs_by (ScanCallsSimple failed) since at =
    record { check = Simple; addr = 0; row_is = calls_simple_row failed since at }
scan_needs_by (ScanCallsCrc failed due) since at =
    record { check = Crc; addr = 0; row_is = calls_crc_row failed due since at }
scan_needs_by (ScanPollsSimple addr due listed) since at =
    record { check = Simple; addr = addr; row_is = polls_row Simple addr due listed since at }
scan_needs_by (ScanPollsCrc addr due listed) since at =
    record { check = Crc; addr = addr; row_is = polls_row Crc addr due listed since at }
scan_needs_by (Done end) since at = at
scan_needs_by job since at = absurd at

pub scan_need_known : (job : Job) (since : List Line) (n : Need) → n ≡ need_of job → StandsScan job since
    → NeedsScan n since
scan_need_known job since n is at = subst (λ m. NeedsScan m since) (sym is) (scan_needs_by job since at)

scan_end_by : (job : Job) (since : List Line) → StandsScan job since → end_of_job job ≡ end_of_scan since
scan_end_by (ScanCallsSimple failed) since at = sym (calls_simple_on failed since at)
scan_end_by (ScanCallsCrc failed due) since at = sym (calls_crc_on failed due since at)
scan_end_by (ScanPollsSimple addr due listed) since at = sym (polls_on Simple addr due listed since at)
scan_end_by (ScanPollsCrc addr due listed) since at = sym (polls_on Crc addr due listed since at)
scan_end_by (Done end) since at = sym at
scan_end_by job since at = absurd at

pub scan_end_known : (job : Job) (since : List Line) (end : Option End) → end ≡ end_of_job job → StandsScan job since
    → end ≡ end_of_scan since
scan_end_known job since end is at = is ∙ scan_end_by job since at

-- what is needed, by its end and by the record that is needed to be put

pub done_is : (n : Need) (end : End) → Some end ≡ end_in n → need.Done end ≡ n
done_is need.Exchange end is = absurd cc
done_is (need.Put entry) end is = absurd cc
done_is (need.Done other) end is = cc

pub put_is : (n : Need) (entry : Record) → Some entry ≡ put_in n → need.Put entry ≡ n
put_is need.Exchange entry is = absurd cc
put_is (need.Put other) entry is = cc
put_is (need.Done end) entry is = absurd cc

pub exchange_is : (n : Need) → None ≡ end_in n → None ≡ put_in n → need.Exchange ≡ n
exchange_is need.Exchange no_end no_put = refl
exchange_is (need.Put entry) no_end no_put = absurd cc
exchange_is (need.Done end) no_end no_put = absurd cc

-- what may still be put

put_has_room : (job : Job) (entry : Record) → need_of job ≡ need.Put entry → 1 ≤ puts_in (ahead job)
put_has_room (StartPuts device mask counted) entry e = omega arith
put_has_room (RoundPuts own end) entry e = omega arith
put_has_room (StopPuts device own end) entry e = omega arith
put_has_room (StopEnds device) entry e = omega arith
put_has_room (OrderOpens device own halted) entry e = omega arith
put_has_room (OrderCloses own end) entry e = omega arith
put_has_room (SalePuts id price) entry e = omega arith
put_has_room job entry e = absurd cc

pub put_allowed : (job : Job) (n : Need) (entry : Record) → n ≡ need_of job → n ≡ need.Put entry → 1 ≤ puts_in (ahead job)
put_allowed job n entry is e = put_has_room job entry (sym is ∙ e)

due_by : (job : Job) → IfSome (put_in (need_of job)) (λ r. 1 ≤ puts_in (ahead job))
due_by (StartPuts device mask counted) = omega arith
due_by (RoundPuts own end) = omega arith
due_by (StopPuts device own end) = omega arith
due_by (StopEnds device) = omega arith
due_by (OrderOpens device own halted) = omega arith
due_by (OrderCloses own end) = omega arith
due_by (SalePuts id price) = omega arith
due_by job = tt

pub due_allowed : (job : Job) (due : Option Record) → due ≡ put_in (need_of job)
    → IfSome due (λ r. 1 ≤ puts_in (ahead job))
due_allowed job due is = subst (λ o. IfSome o (λ r. 1 ≤ puts_in (ahead job))) (sym is) (due_by job)

put_falls : (job : Job) → IsPut (need_of job) → puts_in (ahead (after_put job)) < puts_in (ahead job)
put_falls (StartPuts device mask counted) put = omega arith
put_falls (RoundPuts own end) put = omega arith
put_falls (StopPuts device own None) put = omega arith
put_falls (StopPuts device own (Some end)) put = omega arith
put_falls (StopEnds device) put = omega arith
put_falls (OrderOpens device own halted) put = omega arith
put_falls (OrderCloses own end) put = omega arith
put_falls (SalePuts id price) put = omega arith
put_falls job put = absurd put

pub fewer_after : (job after : Job) → after ≡ after_put job → IsPut (need_of job) → puts_in (ahead after) < puts_in (ahead job)
fewer_after job after is put = subst (λ j. puts_in (ahead j) < puts_in (ahead job)) (sym is) (put_falls job put)

pub may_put_known : (d : DeviceSetup) (job : Job) (c : Command) (since : List Line) (state : EpochState)
    (owed : Option OpenOrder) (n : ℕ)
    → n ≡ puts_in (ahead job) → Stands d job c since state owed → newest_end d c since state ≡ None
    → n ≡ puts_in (left d c since state)
may_put_known d job c since state owed n is at on = is ∙ ap puts_in (left_known d job c since state owed at on).0

-- what is sent

-- the request of a row is that of its stage
pub stage_asked : {d : DeviceSetup} {device : Target} {stage : Stage} {failed : ℕ} {c : Command} {since : List Line}
    {state : EpochState} (owed : Option OpenOrder) (q : Request) → Asking d device stage failed c since state owed
    → row d c since state owed ≡ sends q
    → q ≡ request_of device.family stage
stage_asked owed q at is = same_request q _ (sym is ∙ stage_row at)

-- what a job sends to its device
pub sending_is : (d : DeviceSetup) (job : Job) (c : Command) (since : List Line) (state : EpochState)
    (owed : Option OpenOrder) (q : Request) (s : Sending) → Some s ≡ sending_of job → Stands d job c since state owed
    → row d c since state owed ≡ sends q
    → s ≡ record { to = d.addr; kind = d.kind; request = q }
sending_is d (Asks device stage failed) c since state owed q s e at is =
    let sent : s ≡ record { to = device.addr; kind = device.kind; request = request_of device.family stage } = cc in
    sent
    ∙ ap (λ (t : Target). record { to = t.addr; kind = t.kind; request = request_of device.family stage }) at.device_is
    ∙ ap (λ r. record { to = d.addr; kind = d.kind; request = r }) (sym (stage_asked owed q at is))
sending_is d (StartPuts device mask counted) c since state owed q s e at is = absurd cc
sending_is d (RoundPuts entry end) c since state owed q s e at is = absurd cc
sending_is d (StopPuts device entry end) c since state owed q s e at is = absurd cc
sending_is d (StopEnds device) c since state owed q s e at is = absurd cc
sending_is d (OrderOpens device own halted) c since state owed q s e at is = absurd cc
sending_is d (OrderCloses entry end) c since state owed q s e at is = absurd cc
sending_is d (Done end) c since state owed q s e at is = absurd cc
sending_is d job c since state owed q s e at is = absurd at

-- the poll of a row is the one that its scan sends

abbrev pub SamePoll : CheckKind → ℕ → CheckKind → ℕ → Type 0
SamePoll check addr other polled = (other ≡ check) × (polled ≡ addr)

same_poll : (r : Option (CheckKind × ℕ)) (check other : CheckKind) (addr polled : ℕ) → r ≡ Some (check, addr)
    → r ≡ Some (other, polled) → SamePoll check addr other polled
same_poll r check other addr polled first second =
    let both : Some (check, addr) ≡ Some (other, polled) = sym first ∙ second in
    let pairs : (check, addr) ≡ (other, polled) = cc in
    (sym (ap (λ (p : CheckKind × ℕ). p.0) pairs), sym (ap (λ (p : CheckKind × ℕ). p.1) pairs))

-- the poll that a scan sends, and its check
abbrev pub PollSent : Job → CheckKind → ℕ → Type 0
PollSent (ScanCallsSimple failed) check addr = SamePoll Simple 0 check addr
PollSent (ScanCallsCrc failed due) check addr = SamePoll Crc 0 check addr
PollSent (ScanPollsSimple polled due listed) check addr = SamePoll Simple polled check addr
PollSent (ScanPollsCrc polled due listed) check addr = SamePoll Crc polled check addr
PollSent job check addr = ⊤

pub poll_asked : (job : Job) (since : List Line) (check : CheckKind) (addr : ℕ) → StandsScan job since
    → scan_row since ≡ Some (check, addr) → PollSent job check addr
poll_asked (ScanCallsSimple failed) since check addr at is =
    same_poll _ Simple check 0 addr (calls_simple_row failed since at) is
poll_asked (ScanCallsCrc failed due) since check addr at is =
    same_poll _ Crc check 0 addr (calls_crc_row failed due since at) is
poll_asked (ScanPollsSimple polled due listed) since check addr at is =
    same_poll _ Simple check polled addr (polls_row Simple polled due listed since at) is
poll_asked (ScanPollsCrc polled due listed) since check addr at is =
    same_poll _ Crc check polled addr (polls_row Crc polled due listed since at) is
poll_asked job since check addr at is = tt

polled_by : (own check : CheckKind) (polled addr : ℕ) (s : Sending) → SamePoll own polled check addr
    → Some s ≡ Some (asks_at own polled) → s ≡ record { to = addr; kind = check; request = poll_of addr }
polled_by own check polled addr s same is =
    let sent : s ≡ asks_at own polled = cc in
    sent ∙ ap (λ k. asks_at k polled) (sym same.0) ∙ ap (asks_at check) (sym same.1)

pub poll_sent : (own check : CheckKind) (polled addr : ℕ) (sent : List ℕ) → SamePoll own polled check addr
    → sent ≡ ask check addr (poll_of addr) → sent ≡ ask own polled (poll_of polled)
poll_sent own check polled addr sent same is_ask =
    is_ask ∙ ap (λ k. ask k addr (poll_of addr)) same.0 ∙ ap (λ a. ask own a (poll_of a)) same.1

-- what a scan sends
pub poll_is : (job : Job) (since : List Line) (check : CheckKind) (addr : ℕ) (s : Sending) → Some s ≡ sending_of job
    → StandsScan job since → scan_row since ≡ Some (check, addr)
    → s ≡ record { to = addr; kind = check; request = poll_of addr }
poll_is (ScanCallsSimple failed) since check addr s e at is =
    polled_by Simple check 0 addr s (poll_asked (ScanCallsSimple failed) since check addr at is) e
poll_is (ScanCallsCrc failed due) since check addr s e at is =
    polled_by Crc check 0 addr s (poll_asked (ScanCallsCrc failed due) since check addr at is) e
poll_is (ScanPollsSimple polled due listed) since check addr s e at is =
    polled_by Simple check polled addr s (poll_asked (ScanPollsSimple polled due listed) since check addr at is) e
poll_is (ScanPollsCrc polled due listed) since check addr s e at is =
    polled_by Crc check polled addr s (poll_asked (ScanPollsCrc polled due listed) since check addr at is) e
poll_is (Done end) since check addr s e at is = absurd cc
poll_is job since check addr s e at is = absurd at
