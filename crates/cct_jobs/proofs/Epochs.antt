-- The accept counters, credits and masks that a start, a round and a stop read, and what their puts leave.
use Rattle.std.proofs.Common.{◌≡◌, ℕ, ◌==◌, Bool, true, false, cond, List, ◌∷◌, refl, sym, ap, ap₂, subst, ◌∙◌, Option, Some, None, arith, []}
use Rattle.cct_model.specs.terms.coin.Credits.{Credits}
use Rattle.cct_model.specs.terms.device.DeviceSetup.{DeviceSetup}
use Rattle.cct_model.specs.terms.request.Request.TheVariants.{AcceptCount}
use Rattle.cct_model.specs.declared.judging.EpochState.{EpochState}
use Rattle.cct_model.specs.lines.record.Record.{Record}
use Rattle.cct_model.specs.lines.record.Record.TheVariants.{Epoch, EpochEnd}
use Rattle.cct_model.specs.declared.judging.OpenOrder.{OpenOrder}
use Rattle.cct_model.specs.declared.judging.Judged.{Judged}
use Rattle.cct_model.specs.declared.judging.Judged.TheVariants.{Nothing, Moved, Reading, Broken}
use Rattle.cct_model.specs.lines.command.Command.{Command}
use Rattle.cct_model.specs.lines.entry.End.{End}
use Rattle.cct_model.specs.lines.entry.End.TheVariants.{Broke, Posted, Stopped, Unquiet}
use Rattle.cct_model.specs.Line.{Line, exchange, put}
use Rattle.cct_model.specs.Job.{puts, Noted, noted_in, judged_in, judged_by, accepts_before, address_of, credits_read, credits_request, mask_read, end_of_moving, end_of_reading}
use Rattle.cct_model.specs.Rows.{epoch_end, ends_as, TableRow, end_answered, end_kept, after, first, from, left, puts_due, rest, reading, if_posted}
use Rattle.cct_model.specs.Order.{order_by}
use Rattle.cct_model.specs.Reading.{judge}
use Rattle.cct_model.specs.Reply as reply
use Rattle.cct_jobs.specs.declared.counted.Counted.{Counted}
use Rattle.cct_jobs.specs.declared.stage.Recorded.{Recorded}
use Rattle.cct_jobs.specs.declared.stage.Stage.TheVariants.{CountsAfter, Pays, StartCounts, StartReads, StartSets}
use Rattle.cct_jobs.specs.declared.owed.Owed.{Owed}
use Rattle.cct_jobs.specs.declared.payout.Payout.TheVariants.{Dispenses}
use Rattle.cct_jobs.specs.declared.stage.ReadBy.{ReadBy}
use Rattle.cct_jobs.specs.declared.stage.ReadBy.TheVariants as by_job
use Rattle.cct_jobs.specs.declared.target.Target.{Target}
use Rattle.cct_jobs.specs.declared.job.Job.{Job}
use Rattle.cct_jobs.specs.declared.job.Need.TheVariants as need
use Rattle.cct_jobs.specs.declared.job.Job.TheVariants.{Asks, StartPuts, RoundPuts, StopPuts, StopEnds, OrderOpens, OrderCloses, Done}
use Rattle.cct_jobs.specs.Ahead.{ahead, body_of, reading_ahead}
use Rattle.cct_jobs.specs.Jobs.{Asking, Opening, Putting, Stands, after_put, need_of, newest_end, opened_by, round_after, runs, stop_after, target_of}
use Rattle.cct_model.proofs.Rows.{but_first}
use Rattle.cct_jobs.proofs.Moves.{put_moves}
use Rattle.cct_jobs.proofs.Puts.{end_row, start_row}
use Rattle.cct_jobs.proofs.Stages.{answered_rest, end_after, stage_on}
use Rattle.cct_model.specs.Reply.{Reply}

-- a start that read its credits

module _ {d : DeviceSetup} {device : Target} {mask failed : ℕ} {c : Command} {since : List Line} {state : EpochState}
    {owed : Option OpenOrder} (at : Asking d device (StartReads mask) failed c since state owed) (read : Credits) where
  pub start_counts : (job : Job) → job ≡ Asks device (StartCounts mask) 0 → (read.counter == 0) ≡ true
      → Stands d job c (exchange (Some (credits_request (body_of device.family))) (Some (reply.credits read)) ∷ since) state owed
  start_counts job begun quiet =
      stage_on at job (StartCounts mask) begun tt (reply.credits read) refl tt tt
      (ap (λ b. cond b None (Some (Unquiet read.counter))) quiet)

  pub start_unquiet : (read.counter == 0) ≡ false
      → newest_end d c (exchange (Some (credits_request (body_of device.family))) (Some (reply.credits read)) ∷ since) state ≡ Some
      (Unquiet read.counter)
  start_unquiet counts =
      end_after at (credits_request (body_of device.family)) (reply.credits read) ∙ ap (λ b. cond b None (Some (Unquiet read.counter))) counts

-- the line of an accept counter that was read
abbrev count_told : ℕ → Line
count_told count = exchange (Some AcceptCount) (Some (reply.accepts count))

-- a start that read its accept counter
pub start_puts : {d : DeviceSetup} {device : Target} {mask failed : ℕ} {c : Command} {since : List Line}
    {state : EpochState} {owed : Option OpenOrder} → Asking d device (StartCounts mask) failed c since state owed
    → (counted : Counted) → Stands d (StartPuts device mask counted) c (count_told counted.accepts ∷ since) state owed
start_puts {d} {device} {mask} {c = c} {since = since} {state = state} {owed = owed} at counted =
    let line = count_told counted.accepts in
    let rest_is : rest d c (line ∷ since) ≡ ahead (StartPuts device mask counted) =
    answered_rest at tt (reply.accepts counted.accepts) in
    let left_is : left d c (line ∷ since) state ≡ ahead (StartPuts device mask counted) =
    ap (λ rows. from rows (judged_in c (line ∷ since) state)) rest_is in (
      at.device_is,
      rest_is,
      record {
        is_here = at.is_here;
        ahead_is = left_is;
        row_is = start_row d device mask counted c (line ∷ since) state owed at.is_here refl left_is;
        ends = ap (λ rows. end_kept rows (Epoch d.addr mask counted.accepts)) rest_is;
        goes_on = end_after at AcceptCount (reply.accepts counted.accepts);
      },
    )

-- a round and a stop that judge

by_reading : (m b z : Bool) (x r entry : Record)
    → cond m Moved (cond b (Broken x) (cond z Nothing (Reading r))) ≡ Reading entry → r ≡ entry
by_reading true b z x r entry e = absurd cc
by_reading false true z x r entry e = absurd cc
by_reading false false true x r entry e = absurd cc
by_reading false false false x r entry e = cc

by_broken : (m b z : Bool) (x r entry : Record)
    → cond m Moved (cond b (Broken x) (cond z Nothing (Reading r))) ≡ Broken entry → x ≡ entry
by_broken true b z x r entry e = absurd cc
by_broken false true z x r entry e = cc
by_broken false false true x r entry e = absurd cc
by_broken false false false x r entry e = absurd cc

-- the end that the put of a reading or of a break brings

reading_posts : (of_reading : Option End) (rows : List TableRow) (addr mask counter accepts : ℕ) (read : Credits)
    (seen before now : ℕ) (entry : Record) → judge addr mask counter accepts read seen before now ≡ Reading entry
    → end_kept (puts_due reading (if_posted of_reading) ∷ rows) entry ≡ of_reading
unfolding judge
reading_posts of_reading rows addr mask counter accepts read seen before now entry e =
    ap (end_kept (puts_due reading (if_posted of_reading) ∷ rows)) (sym (by_reading _ _ _ _ _ entry e))

break_ends : (of_reading : Option End) (rows : List TableRow) (addr mask counter accepts : ℕ) (read : Credits)
    (seen before now : ℕ) (entry : Record) → judge addr mask counter accepts read seen before now ≡ Broken entry
    → end_kept (puts_due reading (if_posted of_reading) ∷ rows) entry ≡ Some Broke
unfolding judge
break_ends of_reading rows addr mask counter accepts read seen before now entry e =
    ap (end_kept (puts_due reading (if_posted of_reading) ∷ rows)) (sym (by_broken _ _ _ _ _ entry e))

-- the end that the last accept counter of a reading brings
abbrev end_of_judging : ReadBy → Judged → Option End
end_of_judging by_job.Round means = end_of_reading means
end_of_judging by_job.Stop means = end_of_moving means

count_judges : (read_by : ReadBy) (device : Target) (meant means : Judged) (y : Reply)
    → end_answered (from (after (reading_ahead device read_by) 3) meant) y means ≡ end_of_judging read_by means
count_judges by_job.Round device meant means y = refl
count_judges by_job.Stop device meant means y = refl

-- what a reading means to a job, beside what is recorded of its epoch
abbrev meaning_of : Target → Recorded → Counted → Credits → ℕ → ℕ → Judged
meaning_of device recorded before read seen now =
    judge device.addr recorded.mask recorded.counter recorded.counted.accepts read seen before.accepts now

module _ {d : DeviceSetup} {device : Target} {read_by : ReadBy} {recorded : Recorded} {before : Counted} {read : Credits}
    {seen failed : ℕ} {c : Command} {since : List Line} {state : EpochState} {owed : Option OpenOrder}
    (at : Asking d device (CountsAfter read_by recorded before read seen) failed c since state owed) (now : ℕ)
    (means : Judged) (meant : meaning_of device recorded before read seen now ≡ means) where
  -- what was read means to the job what it means beside what is recorded
  judged_is : judged_in c (count_told now ∷ since) state ≡ means
  judged_is =
      ap (λ a. judged_by a state (credits_read since) (mask_read since) (accepts_before since) (Some now)) at.is_here
      ∙ ap (λ s. judged_by d.addr s (credits_read since) (mask_read since) (accepts_before since) (Some now)) at.knows.0
      ∙ ap (λ r. judged_by d.addr (runs recorded) r (mask_read since) (accepts_before since) (Some now)) at.knows.1
      ∙ ap (λ n. judged_by d.addr (runs recorded) (Some read) (mask_read since) n (Some now)) at.knows.2
      ∙ ap (λ m. judged_by d.addr (runs recorded) (Some read) m (Some before.accepts) (Some now)) at.knows.3
      ∙ ap (λ (t : Target). meaning_of t recorded before read seen now) (sym at.device_is)
      ∙ meant

  judged_end : newest_end d c (count_told now ∷ since) state ≡ end_of_judging read_by means
  judged_end =
      end_after at AcceptCount (reply.accepts now)
      ∙ count_judges read_by device (judged_in c since state) (judged_in c (count_told now ∷ since) state)
      (reply.accepts now)
      ∙ ap (end_of_judging read_by) judged_is

  -- the rows that are left then
  judged_rest : rest d c (count_told now ∷ since) ≡ but_first (after (reading_ahead device read_by) 3)
  judged_rest = answered_rest at tt (reply.accepts now)

  -- a record that is put
  put_at : (job : Job) (entry : Record) (end : Option End)
      → from (but_first (after (reading_ahead device read_by) 3)) means ≡ ahead job
      → ((p : Noted) → first d.addr means p (ahead job) ≡ puts entry) → end_of_judging read_by means ≡ None
      → end_kept (but_first (after (reading_ahead device read_by) 3)) entry ≡ end
      → Putting d job entry end c (count_told now ∷ since) state owed
  put_at job entry end rows_are is_row on ends =
      let left_is : left d c (count_told now ∷ since) state ≡ ahead job = ap₂ from judged_rest judged_is ∙ rows_are in
      let p = noted_in (count_told now ∷ since) owed in
      record {
        is_here = at.is_here;
        ahead_is = left_is;
        row_is =
            ap₂ (λ m rows. first (address_of c) m p rows) judged_is left_is
            ∙ ap (λ a. first a means p (ahead job)) at.is_here
            ∙ is_row p;
        ends = ap (λ rows. end_kept rows entry) judged_rest ∙ ends;
        goes_on = judged_end ∙ on;
      }

pub round_judges : {d : DeviceSetup} {device : Target} {recorded : Recorded} {before : Counted} {read : Credits}
    {seen failed : ℕ} {c : Command} {since : List Line} {state : EpochState} {owed : Option OpenOrder}
    → Asking d device (CountsAfter by_job.Round recorded before read seen) failed c since state owed
    → (now : ℕ) (means : Judged) → meaning_of device recorded before read seen now ≡ means
    → Stands d (round_after means) c (count_told now ∷ since) state owed
round_judges at now Nothing e = judged_end at now Nothing e
round_judges at now Moved e = judged_end at now Moved e
round_judges {read = read} {seen = seen} at now (Reading entry) e =
    put_at at now (Reading entry) e (RoundPuts entry Posted) entry (Some Posted) refl (λ p. refl) refl
    (reading_posts (Some Posted) [] _ _ _ _ read seen _ now entry e)
round_judges {read = read} {seen = seen} at now (Broken entry) e =
    put_at at now (Broken entry) e (RoundPuts entry Broke) entry (Some Broke) refl (λ p. refl) refl
    (break_ends (Some Posted) [] _ _ _ _ read seen _ now entry e)

pub stop_judges : {d : DeviceSetup} {device : Target} {recorded : Recorded} {before : Counted} {read : Credits}
    {seen failed : ℕ} {c : Command} {since : List Line} {state : EpochState} {owed : Option OpenOrder}
    → Asking d device (CountsAfter by_job.Stop recorded before read seen) failed c since state owed
    → (now : ℕ) (means : Judged) → meaning_of device recorded before read seen now ≡ means
    → Stands d (stop_after device means) c (count_told now ∷ since) state owed
stop_judges {d} {device} at now Nothing e =
    (at.device_is, put_at at now Nothing e (StopEnds device) (EpochEnd d.addr) (Some Stopped) refl (λ p. refl) refl refl)
stop_judges at now Moved e = judged_end at now Moved e
stop_judges {d} {device} {read = read} {seen = seen} at now (Reading entry) e = (
  at.device_is,
  judged_rest at now (Reading entry) e,
  put_at at now (Reading entry) e (StopPuts device entry None) entry None refl (λ p. refl) refl
      (reading_posts None (puts_due epoch_end (ends_as Stopped) ∷ []) _ _ _ _ read seen _ now entry e),
)
stop_judges {d} {device} {read = read} {seen = seen} at now (Broken entry) e = (
  at.device_is,
  judged_rest at now (Broken entry) e,
  put_at at now (Broken entry) e (StopPuts device entry (Some Broke)) entry (Some Broke) refl (λ p. refl) refl
      (break_ends None (puts_due epoch_end (ends_as Stopped) ∷ []) _ _ _ _ read seen _ now entry e),
)

-- what a put leaves, whatever the epoch is then

start_sets : (d : DeviceSetup) (device : Target) (mask : ℕ) (counted : Counted) (c : Command) (since : List Line)
    (state after : EpochState) (owed owed_after : Option OpenOrder) → Stands d (StartPuts device mask counted) c since state owed
    → Asking d device (StartSets mask) 0 c (put (Epoch d.addr mask counted.accepts) ∷ since) after owed_after
start_sets d device mask counted c since state after owed owed_after (device_is, rest_is, at) = record {
  device_is = device_is;
  is_here = at.is_here;
  ahead_is = put_moves d c since (Epoch d.addr mask counted.accepts) _ rest_is;
  suits = tt;
  knows = tt;
  trying = record { counted = refl; few = omega arith };
  goes_on = at.ends;
}

stop_closes : (d : DeviceSetup) (device : Target) (entry : Record) (c : Command) (since : List Line)
    (state after : EpochState) (owed owed_after : Option OpenOrder)
    → Stands d (StopPuts device entry None) c since state owed
    → Stands d (StopEnds device) c (put entry ∷ since) after owed_after
stop_closes d device entry c since state after owed owed_after (device_is, rest_is, at) =
    let now : rest d c (put entry ∷ since) ≡ ahead (StopEnds device) = put_moves d c since entry _ rest_is in
    let left_is : left d c (put entry ∷ since) after ≡ ahead (StopEnds device) =
    ap (λ rows. from rows (judged_in c (put entry ∷ since) after)) now in (
      device_is,
      record {
        is_here = at.is_here;
        ahead_is = left_is;
        row_is = end_row d device c (put entry ∷ since) after owed_after at.is_here left_is;
        ends = ap (λ rows. end_kept rows (EpochEnd d.addr)) now;
        goes_on = at.ends;
      },
    )

own_record : (d : DeviceSetup) (device : Target) (make : ℕ → Record) (entry : Record) → device ≡ target_of d
    → need.Put (make device.addr) ≡ need.Put entry → make d.addr ≡ entry
own_record d device make entry device_is e =
    let same : make device.addr ≡ entry = cc in
    ap (λ (t : Target). make t.addr) (sym device_is) ∙ same

opened_dispenses : (d : DeviceSetup) (device : Target) (own : Owed) (halted : Bool) (c : Command) (since : List Line)
    (state after : EpochState) (owed : Option OpenOrder) → Opening d device own halted c since state owed
    → Asking d device (Pays (Dispenses device.serial own halted)) 0 c (put (opened_by own.order) ∷ since) after
    (Some own.order)
opened_dispenses d device own halted c since state after owed at = record {
  device_is = at.device_is;
  is_here = at.at.is_here;
  ahead_is = put_moves d c since (opened_by own.order) _ at.rest_is;
  suits = (at.serial, refl);
  knows = (at.marked, refl);
  trying = record { counted = refl; few = omega arith };
  goes_on = at.at.ends;
}

-- the put of a job's record
pub put_leaves : (d : DeviceSetup) (job : Job) (c : Command) (since : List Line) (state after : EpochState)
    (owed : Option OpenOrder) (entry : Record) → need_of job ≡ need.Put entry → Stands d job c since state owed
    → Stands d (after_put job) c (put entry ∷ since) after (order_by entry owed)
put_leaves d (StartPuts device mask counted) c since state after owed entry e at =
    subst (λ r. Asking d device (StartSets mask) 0 c (put r ∷ since) after (order_by entry owed))
    (own_record d device (λ a. Epoch a mask counted.accepts) entry at.0 e)
    (start_sets d device mask counted c since state after owed _ at)
put_leaves d (RoundPuts own end) c since state after owed entry e at =
    let same : own ≡ entry = cc in
    subst (λ r. newest_end d c (put r ∷ since) after ≡ Some end) same
    at.ends
put_leaves d (StopPuts device own None) c since state after owed entry e at =
    let same : own ≡ entry = cc in
    subst (λ r. Stands d (StopEnds device) c (put r ∷ since) after (order_by entry owed)) same
    (stop_closes d device own c since state after owed _ at)
put_leaves d (StopPuts device own (Some end)) c since state after owed entry e at =
    let same : own ≡ entry = cc in
    subst (λ r. newest_end d c (put r ∷ since) after ≡ Some end) same
    at.2.ends
put_leaves d (StopEnds device) c since state after owed entry e at =
    subst (λ r. newest_end d c (put r ∷ since) after ≡ Some Stopped) (own_record d device EpochEnd entry at.0 e)
    at.1.ends
put_leaves d (OrderOpens device own halted) c since state after owed entry e at =
    let same : opened_by own.order ≡ entry = cc in
    subst (λ r. Stands d (after_put (OrderOpens device own halted)) c (put r ∷ since) after (order_by r owed)) same
    (opened_dispenses d device own halted c since state after owed at)
put_leaves d (OrderCloses own end) c since state after owed entry e at =
    let same : own ≡ entry = cc in
    subst (λ r. newest_end d c (put r ∷ since) after ≡ Some end) same
    at.at.ends
put_leaves d (Asks device stage failed) c since state after owed entry e at = absurd cc
put_leaves d (Done end) c since state after owed entry e at = absurd cc
put_leaves d job c since state after owed entry e at = absurd at
