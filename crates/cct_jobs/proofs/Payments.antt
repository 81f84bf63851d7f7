-- What an exchange with its hopper makes of a payment and of a settlement.
use Rattle.std.proofs.Common.{◌≡◌, ℕ, suc, ◌==◌, Bool, true, false, cond, List, ◌∷◌, refl, sym, ap, ◌∙◌, Option, Some, None}
use Rattle.cct_model.specs.lines.command.Command.{Command}
use Rattle.cct_model.specs.lines.command.Command.TheVariants as command
use Rattle.cct_model.specs.lines.entry.End.{End}
use Rattle.cct_model.specs.lines.record.Record.{Record}
use Rattle.cct_model.specs.lines.record.Record.TheVariants as record_of
use Rattle.cct_model.specs.terms.device.DeviceSetup.{DeviceSetup}
use Rattle.cct_model.specs.terms.request.TheConstants.{ENABLE_CODE}
use Rattle.cct_model.specs.terms.request.Request.{Request}
use Rattle.cct_model.specs.terms.request.Request.TheVariants.{Dispense, Enable, GetLife, GetStatus, StopNow}
use Rattle.cct_model.specs.declared.judging.EpochState.{EpochState}
use Rattle.cct_model.specs.declared.judging.OpenOrder.{OpenOrder}
use Rattle.cct_model.specs.Reply.{Reply}
use Rattle.cct_model.specs.Reply as reply
use Rattle.cct_model.specs.Line.{Line, exchange}
use Rattle.cct_model.specs.Order.{close}
use Rattle.cct_model.specs.Job.{end_of_close, judged_in, puts, tries}
use Rattle.cct_model.specs.Rows.{end_failed, end_kept, after, from, left, rest}
use Rattle.cct_jobs.specs.declared.job.Job.TheVariants.{Asks, OrderCloses, OrderOpens}
use Rattle.cct_jobs.specs.declared.owed.Owed.{Owed}
use Rattle.cct_jobs.specs.declared.payout.Closing.{Closing}
use Rattle.cct_jobs.specs.declared.payout.Closing.TheVariants as closing_of
use Rattle.cct_jobs.specs.declared.payout.Payout.{Payout}
use Rattle.cct_jobs.specs.declared.payout.Payout.TheVariants.{Enables, Counts, Dispenses, Waits, Stops, Recounts}
use Rattle.cct_jobs.specs.declared.stage.Stage.TheVariants.{Pays}
use Rattle.cct_jobs.specs.declared.target.Target.{Target}
use Rattle.cct_model.specs.terms.request.ReplyForm.TheVariants as form
use Rattle.cct_msg.specs.Forms.{form_shown}
use Rattle.cct_jobs.specs.Ahead.{ahead, nothing_left, table_of}
use Rattle.cct_jobs.specs.Jobs.{Asking, Stands, closing_end, newest_end, opened_by, settling}
use Rattle.cct_jobs.proofs.Moves.{exchange_moves, exchange_stays, stop_stays}
use Rattle.cct_jobs.proofs.Payouts.{payout_goes_on}
use Rattle.cct_jobs.proofs.Puts.{close_row_is, open_row_is}
use Rattle.cct_jobs.proofs.Stages.{end_after, line_on}
use Rattle.cct_model.specs.Request.{header_of}

module _ {d : DeviceSetup} {device : Target} {row : Payout} {failed : ℕ} {c : Command} {since : List Line}
    {state : EpochState} {owed : Option OpenOrder} (at : Asking d device (Pays row) failed c since state owed) where
  -- no answer ends the job
  answer_goes_on : (q : Request) (y : Reply) → newest_end d c (exchange (Some q) (Some y) ∷ since) state ≡ None
  answer_goes_on q y =
      end_after at q y
      ∙ payout_goes_on row device y (judged_in c since state) (judged_in c (exchange (Some q) (Some y) ∷ since) state)

-- the hopper is enabled
pub enabled_counts : {d : DeviceSetup} {device : Target} {id count failed : ℕ} {halted : Bool} {c : Command}
    {since : List Line} {state : EpochState} {owed : Option OpenOrder} (y : Reply)
    → Asking d device (Pays (Enables id count halted)) failed c since state owed
    → Asking d device (Pays (Counts id count halted)) 0 c (exchange (Some (Enable ENABLE_CODE)) (Some y) ∷ since) state
    owed
enabled_counts {d} {id = id} {count = count} {halted = halted} {c = c} {since = since} y at =
    line_on at (Pays (Counts id count halted)) (exchange (Some (Enable ENABLE_CODE)) (Some y))
    (exchange_moves d c since (Enable ENABLE_CODE) (Some y) _ at.ahead_is refl) at.suits at.knows refl
    (answer_goes_on at (Enable ENABLE_CODE) y)

-- its life count is read
pub count_opens : {d : DeviceSetup} {device : Target} {id count failed : ℕ} {halted : Bool} {c : Command}
    {since : List Line} {state : EpochState} {owed : Option OpenOrder} (own : Owed) (life : ℕ)
    → own.order ≡ record { id = id; addr = device.addr; count = count; life = life }
    → Asking d device (Pays (Counts id count halted)) failed c since state owed
    → Stands d (OrderOpens device own halted) c (exchange (Some GetLife) (Some (reply.life life)) ∷ since) state owed
count_opens {d} {device} {id} {count} {halted = halted} {c = c} {since = since} {state = state} {owed = owed} own life is at =
    let line = exchange (Some GetLife) (Some (reply.life life)) in
    let here : own.order.addr ≡ d.addr =
    ap (λ (o : OpenOrder). o.addr) is ∙ ap (λ (t : Target). t.addr) at.device_is in
    let rest_is : rest d c (line ∷ since) ≡ ahead (OrderOpens device own halted) =
    exchange_moves d c since GetLife (Some (reply.life life)) _ at.ahead_is refl
    ∙ ap (λ (o : OpenOrder). after (table_of device (command.Pay device.addr o.id o.count)) 2) (sym is) in
    let left_is : left d c (line ∷ since) state ≡ ahead (OrderOpens device own halted) =
    ap (λ rows. from rows (judged_in c (line ∷ since) state)) rest_is in
    let read : Some life ≡ Some own.order.life = ap (λ (o : OpenOrder). Some o.life) (sym is) in
    record {
      device_is = at.device_is;
      serial = at.suits;
      rest_is = rest_is;
      marked = at.knows;
      read = read;
      is_here = here;
      at = record {
        is_here = at.is_here;
        ahead_is = left_is;
        row_is = open_row_is d device own halted c (line ∷ since) state owed at.is_here here read left_is;
        ends = ap (λ rows. end_kept rows (opened_by own.order)) rest_is;
        goes_on = answer_goes_on at GetLife (reply.life life);
      };
    }

-- the row at which a payout is settled

-- no try of another row failed then
none_failed : (asked q : Request) (got : Option Reply) (since : List Line) → (header_of asked == header_of q) ≡ false
    → 0 ≡ tries (header_of q) (exchange (Some asked) got ∷ since)
none_failed asked q None since other = sym (ap (λ b. cond b (suc (tries (header_of q) since)) 0) other)
none_failed asked q (Some y) since other = refl

module _ {d : DeviceSetup} {device : Target} {own : Owed} {serial failed : ℕ} {c : Command} {since : List Line}
    {state : EpochState} {owed : Option OpenOrder} where
  -- nor does a dispense end it, whatever is heard of it
  dispense_goes_on : {halted : Bool} (got : Option Reply) → Asking d device (Pays (Dispenses serial own halted)) failed c since state owed
      → newest_end d c (exchange (Some (Dispense serial own.order.count)) got ∷ since) state ≡ None
  dispense_goes_on None at =
      let line = exchange (Some (Dispense serial own.order.count)) None in
      ap (λ rows. end_failed (from rows (judged_in c since state))
      (tries (header_of (Dispense serial own.order.count)) (line ∷ since))) at.ahead_is
  dispense_goes_on (Some y) at = answer_goes_on at (Dispense serial own.order.count) y

-- the dispense is sent, whatever was heard of it
pub dispense_leaves : (d : DeviceSetup) (device : Target) (own : Owed) (halted : Bool) (serial failed : ℕ) (c : Command)
    (since : List Line) (state : EpochState) (owed : Option OpenOrder) (got : Option Reply)
    → Asking d device (Pays (Dispenses serial own halted)) failed c since state owed
    → Stands d (Asks device (Pays (settling closing_of.Payment own halted)) 0) c
    (exchange (Some (Dispense serial own.order.count)) got ∷ since) state owed
dispense_leaves d device own true serial failed c since state owed got at =
    line_on at (Pays (Stops closing_of.Payment own)) (exchange (Some (Dispense serial own.order.count)) got)
    (exchange_moves d c since (Dispense serial own.order.count) got _ at.ahead_is refl) tt at.knows
    (none_failed (Dispense serial own.order.count) StopNow got since refl) (dispense_goes_on got at)
dispense_leaves d device own false serial failed c since state owed got at =
    line_on at (Pays (Waits closing_of.Payment own)) (exchange (Some (Dispense serial own.order.count)) got)
    (exchange_moves d c since (Dispense serial own.order.count) got _ at.ahead_is refl) tt
    (at.knows.0, at.knows.1, sym (none_failed (Dispense serial own.order.count) StopNow got since refl)) (none_failed (Dispense serial own.order.count) GetStatus got since refl) (dispense_goes_on got at)

-- how the payout goes

module _ {d : DeviceSetup} {device : Target} {closing : Closing} {own : Owed} {failed : ℕ} {c : Command}
    {since : List Line} {state : EpochState} {owed : Option OpenOrder} where
  pub status_paid : (y : Reply) (paid : Bool) → paid ≡ nothing_left y → paid ≡ true
      → Asking d device (Pays (Waits closing own)) failed c since state owed
      → Asking d device (Pays (Recounts closing own)) 0 c (exchange (Some GetStatus) (Some y) ∷ since) state owed
  status_paid y paid told is at =
      line_on at (Pays (Recounts closing own)) (exchange (Some GetStatus) (Some y))
      (exchange_moves d c since GetStatus (Some y) _ at.ahead_is (sym told ∙ is)) tt at.knows.1 refl
      (answer_goes_on at GetStatus y)

  pub status_goes_on : (y : Reply) (paid : Bool) → paid ≡ nothing_left y → paid ≡ false
      → Asking d device (Pays (Waits closing own)) failed c since state owed
      → Asking d device (Pays (Waits closing own)) 0 c (exchange (Some GetStatus) (Some y) ∷ since) state owed
  status_goes_on y paid told is at =
      line_on at (Pays (Waits closing own)) (exchange (Some GetStatus) (Some y))
      (exchange_stays d c since GetStatus (Some y) _ at.ahead_is (sym told ∙ is)) tt (at.knows.0, at.knows.1, refl) refl
      (answer_goes_on at GetStatus y)

  -- the hopper is stopped
  pub stop_waits : (y : Reply) → form_shown y ≡ Some form.Remaining
      → Asking d device (Pays (Stops closing own)) failed c since state owed
      → Asking d device (Pays (Waits closing own)) 0 c (exchange (Some StopNow) (Some y) ∷ since) state owed
  stop_waits y wanted at =
      line_on at (Pays (Waits closing own)) (exchange (Some StopNow) (Some y))
      (exchange_stays d c since StopNow (Some y) _ at.ahead_is (stop_stays y wanted)) tt (refl, at.knows.1, refl) refl
      (answer_goes_on at StopNow y)

-- the end that a record brings which closes an order

close_ends_by : (b : Bool) (id paid unpaid before after : ℕ)
    → end_of_close (cond b (record_of.Closed id paid unpaid) (record_of.Odd id before after)) ≡ Some
    (closing_end (cond b (record_of.Closed id paid unpaid) (record_of.Odd id before after)))
close_ends_by true id paid unpaid before after = refl
close_ends_by false id paid unpaid before after = refl

close_ends : (o : OpenOrder) (life : ℕ) → end_of_close (close o life) ≡ Some (closing_end (close o life))
unfolding close
close_ends o life = close_ends_by _ o.id _ _ o.life life

-- its life count is read again
pub recount_closes : {d : DeviceSetup} {device : Target} {closing : Closing} {failed : ℕ} {c : Command}
    {since : List Line} {state : EpochState} {owed : Option OpenOrder} (own : Owed) (life : ℕ) (entry : Record)
    (end : End)
    → entry ≡ close own.order life → end ≡ closing_end entry
    → Asking d device (Pays (Recounts closing own)) failed c since state owed
    → Stands d (OrderCloses entry end) c (exchange (Some GetLife) (Some (reply.life life)) ∷ since) state owed
recount_closes {d} {device} {closing} {failed} {c} {since} {state} {owed} own life entry end closes ends at =
    let line = exchange (Some GetLife) (Some (reply.life life)) in
    let rest_is : rest d c (line ∷ since) ≡ ahead (OrderCloses entry end) =
    exchange_moves d c since GetLife (Some (reply.life life)) _ at.ahead_is refl in
    let left_is : left d c (line ∷ since) state ≡ ahead (OrderCloses entry end) =
    ap (λ rows. from rows (judged_in c (line ∷ since) state)) rest_is in
    record {
      order = own.order;
      life = life;
      closes = closes;
      at = record {
        is_here = at.is_here;
        ahead_is = left_is;
        row_is =
            close_row_is d entry end c (line ∷ since) state owed own.order life at.knows refl left_is
            ∙ ap puts (sym closes);
        ends =
            ap (λ rows. end_kept rows entry) rest_is
            ∙ ap end_of_close closes
            ∙ close_ends own.order life
            ∙ ap (λ r. Some (closing_end r)) (sym closes)
            ∙ ap Some (sym ends);
        goes_on = answer_goes_on at GetLife (reply.life life);
      };
    }
