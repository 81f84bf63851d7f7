-- What a desk keeps, by the lines of its place.
use Rattle.std.specs.Prelude.{unwrap_or}
use Rattle.std.proofs.Common.{◌≡◌, ℕ, true, List, [], ◌∷◌, ◌++◌, refl, sym, ap, subst, ◌∙◌, Option, Some, None}
use Rattle.cct_model.specs.terms.device.DeviceSetup.{DeviceSetup}
use Rattle.cct_model.specs.lines.record.Record.{Record}
use Rattle.cct_model.specs.lines.command.Command.{Command}
use Rattle.cct_model.specs.lines.command.Command.TheVariants as command
use Rattle.cct_model.specs.lines.entry.End.{End}
use Rattle.cct_model.specs.lines.entry.Entry.{Entry}
use Rattle.cct_model.specs.lines.entry.Entry.TheVariants as entry
use Rattle.cct_model.specs.declared.judging.EpochState.{EpochState}
use Rattle.cct_model.specs.declared.judging.OpenOrder.{OpenOrder}
use Rattle.cct_model.specs.Line.{Line}
use Rattle.cct_model.specs.Line as line
use Rattle.cct_model.specs.Job as model
use Rattle.cct_model.specs.Legal.{with_end}
use Rattle.cct_model.specs.Job.{address_of, ident_requests}
use Rattle.cct_model.proofs.Rows.{told_no_id}
use Rattle.cct_model.specs.Order.{order, order_by}
use Rattle.cct_model.specs.Refusal.{running_id, sale_id}
use Rattle.cct_model.specs.Transcript.{lines_of, owner, sale_lines, sold_line}
use Rattle.cct_jobs.specs.declared.job.Job.{Job}
use Rattle.cct_host.specs.declared.orders.OrderState.{OrderState}
use Rattle.cct_jobs.specs.Jobs.{Stands, order_of, is_halt}
use Rattle.cct_jobs.specs.Sales.{StandsSale}
use Rattle.cct_host.specs.Desk.{Keeps, Knows, Works}
use Rattle.cct_host.specs.Place.{IsAsBefore, Place, StandsAt, addr_of, device, line_at, lines_at, sales, scans}
use Rattle.cct_host.specs.Running.{Settles, command_of, orders_left}
use Rattle.cct_host.proofs.Lines.{IsQuiet, job_asked, own_ended, own_put, own_taken}

-- a line more of a job is of the same payment
running_line : (d : DeviceSetup) (x : Line) (j : model.Job) → running_id d (model.with_line x j) ≡ running_id d j
running_line d x model.free = refl
running_line d x (model.works c since) = refl

-- an identification begins no id
pub no_id_told : (d : DeviceSetup) (addr : ℕ) → 0 ≡ running_id d (model.works (command.Ident addr) [])
no_id_told d addr = sym (ap (λ found. unwrap_or found 0) (told_no_id (ident_requests d.body)))

sale_line : (x : Line) (j : model.Job) → sale_id (model.with_line x j) ≡ sale_id j
sale_line x model.free = refl
sale_line x (model.works c since) = refl

-- and of the same command
command_line : (x : Line) (j : model.Job) → command_of (model.with_line x j) ≡ command_of j
command_line x model.free = refl
command_line x (model.works c since) = refl

-- what is known of an epoch, of an open order and of a payment, where they stay
pub knows_same : (place : Place) (state : EpochState) (owed : OrderState) (old new : List Line)
    → model.job new ≡ model.job old → model.epoch new ≡ model.epoch old → order new ≡ order old
    → Knows place state owed old → Knows place state owed new
knows_same (device d) state owed old new jobs same ordered knows =
    (knows.0 ∙ sym same, knows.1 ∙ sym ordered, knows.2 ∙ sym (ap (running_id d) jobs), knows.3 ∙ sym (ap command_of jobs))
knows_same scans state owed old new jobs same ordered knows = knows ∙ sym (ap command_of jobs)
knows_same sales state owed old new jobs same ordered knows =
    (knows.0, knows.1 ∙ sym (ap sale_id jobs), knows.2 ∙ sym (ap command_of jobs))

-- what is known where a job goes on, and where it ended
knows_kept : (place : Place) (state : EpochState) (owed : OrderState) (job : Job) (lines : List Line)
    → Knows place state owed lines → Knows place state (orders_left (Some job) owed) lines
knows_kept (device d) state owed job lines knows = (knows.0, knows.1, knows.2, knows.3)
knows_kept scans state owed job lines knows = knows
knows_kept sales state owed job lines knows = (knows.0, knows.1, knows.2)

knows_ended : (place : Place) (state : EpochState) (owed : OrderState) (end : End) (lines : List Line)
    → Knows place state owed lines → Knows place state (orders_left None owed) (line.ended end ∷ lines)
knows_ended (device d) state owed end lines knows = (knows.0, knows.1, refl, refl)
knows_ended scans state owed end lines knows = refl
knows_ended sales state owed end lines knows = (knows.0, refl, refl)

-- a job that is beside an epoch and an open order is beside the same
pub works_same : (place : Place) (job : Option Job) (old new : model.Job) (state after : EpochState)
    (owed left : Option OpenOrder) → new ≡ old → after ≡ state → left ≡ owed → Works place job old state owed
    → Works place job new after left
works_same place job old new state after owed left jobs epochs orders works =
    subst (λ j. Works place job j after left) (sym jobs)
    (subst (λ n. Works place job old n left) (sym epochs) (subst (λ o. Works place job old state o) (sym orders) works))

-- after entries that change no job, no epoch and no open order there
pub keeps_other : (place : Place) (job : Option Job) (state : EpochState) (owed : OrderState) (past news : List Entry)
    → IsAsBefore place past news
    → Keeps place job state owed (lines_at place past) → Keeps place job state owed (lines_at place (news ++ past))
keeps_other place job state owed past news same keeps = record {
  works = works_same place job _ _ _ _ _ _ same.0 same.1 same.2 keeps.works;
  knows = knows_same place state owed _ _ same.0 same.1 same.2 keeps.knows;
}

-- after an entry that changes none of them
pub keeps_quiet : (place : Place) (job : Option Job) (state : EpochState) (owed : OrderState) (past : List Entry)
    (e : Entry) → IsQuiet past e
    → Keeps place job state owed (lines_at place past) → Keeps place job state owed (lines_at place (e ∷ past))
keeps_quiet place job state owed past e quiet keeps =
    keeps_other place job state owed past (e ∷ []) (quiet.jobs place, quiet.epochs place, quiet.orders place) keeps

-- after an exchange
pub asked_keeps : (place : Place) (c : Command) (since : List Line) (state : EpochState) (owed : OrderState)
    (sent heard : List ℕ) (new : Job) (lines : List Line)
    → StandsAt place new c (line_at place sent heard ∷ since) (model.epoch lines) (order lines)
    → model.job lines ≡ model.works c since → Knows place state owed lines
    → Keeps place (Some new) state owed (line_at place sent heard ∷ lines)
asked_keeps (device d) c since state owed sent heard new lines stands was knows = record {
  works = subst (λ j. Works (device d) (Some new) (model.with_line (line_at (device d) sent heard) j)
      (model.epoch lines) (order lines)) (sym was) stands;
  knows = (
    knows.0,
    knows.1,
    knows.2 ∙ sym (running_line d (line_at (device d) sent heard) (model.job lines)),
    knows.3 ∙ sym (command_line (line_at (device d) sent heard) (model.job lines)),
  );
}
asked_keeps scans c since state owed sent heard new lines stands was knows = record {
  works = subst (λ j. Works scans (Some new) j (model.epoch (line_at scans sent heard ∷ lines))
      (order (line_at scans sent heard ∷ lines)))
      (sym (job_asked scans sent heard lines ∙ ap (model.with_line (line_at scans sent heard)) was)) stands;
  knows = knows ∙ sym (command_line (line_at scans sent heard) (model.job lines))
      ∙ sym (ap command_of (job_asked scans sent heard lines));
}
asked_keeps sales c since state owed sent heard new lines stands was knows = record {
  works = subst (λ j. Works sales (Some new) (model.with_line (line_at sales sent heard) j)
      (model.epoch lines) (order lines)) (sym was) stands;
  knows = (
    knows.0,
    knows.1 ∙ sym (sale_line (line_at sales sent heard) (model.job lines)),
    knows.2 ∙ sym (command_line (line_at sales sent heard) (model.job lines)),
  );
}

-- after a put, which moved the epoch and the open order
pub put_keeps : (d : DeviceSetup) (c : Command) (since : List Line) (r : Record) (past : List Entry)
    (state : EpochState) (owed : OrderState) (new : Job) → owner past r ≡ d.addr
    → ((after : EpochState) → Stands d new c (line.put r ∷ since) after (order_by r (order (lines_of d past))))
    → model.job (lines_of d past) ≡ model.works c since → state ≡ model.epoch_by r (model.epoch (lines_of d past))
    → order_of owed.order ≡ order_by r (order (lines_of d past)) → owed.id ≡ running_id d (model.job (lines_of d past))
    → owed.begun ≡ command_of (model.job (lines_of d past))
    → Keeps (device d) (Some new) state owed (lines_of d (entry.Put r ∷ past))
put_keeps d c since r past state owed new own stands was moved ordered same begun =
    subst (Keeps (device d) (Some new) state owed) (sym (own_put d r past own)) (record {
      works = subst
          (λ j. Works (device d) (Some new) (model.with_line (line.put r) j)
          (model.epoch_by r (model.epoch (lines_of d past))) (order_by r (order (lines_of d past)))) (sym was)
          (stands _);
      knows = (
        moved,
        ordered,
        same ∙ sym (running_line d (line.put r) (model.job (lines_of d past))),
        begun ∙ sym (command_line (line.put r) (model.job (lines_of d past))),
      );
    })

-- after the put of a sale
pub sold_keeps : (c : Command) (since : List Line) (r : Record) (past : List Entry) (state : EpochState) (owed : OrderState)
    (new : Job) → sold_line r ≡ line.put r ∷ [] → StandsSale new c (line.put r ∷ since)
    → model.job (sale_lines past) ≡ model.works c since → owed.order ≡ None
    → owed.id ≡ sale_id (model.job (sale_lines past)) → owed.begun ≡ command_of (model.job (sale_lines past))
    → Keeps sales (Some new) state owed (sale_lines (entry.Put r ∷ past))
sold_keeps c since r past state owed new sold stands was none same begun =
    subst (Keeps sales (Some new) state owed) (sym (ap (λ ls. ls ++ sale_lines past) sold)) (record {
      works = subst (λ j. Works sales (Some new) (model.with_line (line.put r) j)
          (model.epoch (line.put r ∷ sale_lines past)) (order (line.put r ∷ sale_lines past))) (sym was) stands;
      knows = (
        none,
        same ∙ sym (sale_line (line.put r) (model.job (sale_lines past))),
        begun ∙ sym (command_line (line.put r) (model.job (sale_lines past))),
      );
    })

-- after a command that was taken
pub taken_keeps : (place : Place) (c : Command) (job : Job) (state : EpochState) (owed : OrderState)
    (past : List Entry) → address_of c ≡ addr_of place
    → model.begun c (model.job (lines_at place past)) ≡ model.works c []
    → StandsAt place job c [] (model.epoch (lines_at place past)) (order (lines_at place past))
    → Knows place state owed (line.taken c ∷ lines_at place past)
    → Keeps place (Some job) state owed (lines_at place (entry.Taken c ∷ past))
taken_keeps place c job state owed past here begins stands knows =
    subst (Keeps place (Some job) state owed) (sym (own_taken place c past here)) (record {
      works = subst
          (λ j. Works place (Some job) j (model.epoch (lines_at place past)) (order (lines_at place past))) (sym begins)
          stands;
      knows = knows;
    })

-- wherever a job is, it goes on by a halt
abbrev pub GoesByHalt : Job → Job → Type 0
GoesByHalt old new = (d : DeviceSetup) (c : Command) (since : List Line) (state : EpochState) (owed : Option OpenOrder)
    (addr : ℕ) → Stands d old c since state owed → Stands d new c (line.taken (command.Halt addr) ∷ since) state owed

halt_works : (d : DeviceSetup) (c : Command) (old new : Job) (j : model.Job) (state : EpochState)
    (owed : Option OpenOrder) → is_halt c ≡ true → GoesByHalt old new → Works (device d) (Some old) j state owed
    → Works (device d) (Some new) (model.begun c j) state owed
halt_works d (command.Halt addr) old new (model.works c since) state owed halt goes works =
    goes d c since state owed addr works
halt_works d (command.Halt addr) old new model.free state owed halt goes works = absurd works
halt_works d k old new j state owed halt goes works = absurd cc

halt_runs_on : (d : DeviceSetup) (c : Command) (j : model.Job) → is_halt c ≡ true →
    running_id d (model.begun c j) ≡ running_id d j
halt_runs_on d (command.Halt addr) j halt = running_line d (line.taken (command.Halt addr)) j
halt_runs_on d k j halt = absurd cc

halt_same : (c : Command) (j : model.Job) → is_halt c ≡ true → command_of (model.begun c j) ≡ command_of j
halt_same (command.Halt addr) j halt = command_line (line.taken (command.Halt addr)) j
halt_same k j halt = absurd cc

-- after a halt that was taken
pub halt_keeps : (d : DeviceSetup) (c : Command) (old new : Job) (state : EpochState) (owed : OrderState)
    (past : List Entry) → address_of c ≡ d.addr → is_halt c ≡ true → GoesByHalt old new
    → Keeps (device d) (Some old) state owed (lines_of d past)
    → Keeps (device d) (Some new) state owed (lines_of d (entry.Taken c ∷ past))
halt_keeps d c old new state owed past here halt goes keeps =
    subst (Keeps (device d) (Some new) state owed) (sym (own_taken (device d) c past here)) (record {
      works = halt_works d c old new (model.job (lines_of d past)) _ _ halt goes keeps.works;
      knows = (
        keeps.knows.0,
        keeps.knows.1,
        keeps.knows.2 ∙ sym (halt_runs_on d c (model.job (lines_of d past)) halt),
        keeps.knows.3 ∙ sym (halt_same c (model.job (lines_of d past)) halt),
      );
    })

-- what stays of a job after its entry, and its end where it brought one
pub left_keeps : (place : Place) (kept : Option Job) (new : Job) (state : EpochState) (owed : OrderState)
    (past : List Entry) (e : Entry) (end : Option End) (report reported : List Entry)
    → Settles end new (addr_of place) kept report reported
    → Keeps place (Some new) state owed (lines_at place (e ∷ past))
    → Keeps place kept state (orders_left kept owed) (lines_at place (with_end (addr_of place) e end ++ past))
left_keeps place kept new state owed past e None report reported settled keeps =
    subst (λ k. Keeps place k state (orders_left k owed) (lines_at place (e ∷ past))) (sym settled.0) (record {
      works = keeps.works;
      knows = knows_kept place state owed new (lines_at place (e ∷ past)) keeps.knows;
    })
left_keeps place kept new state owed past e (Some end) report reported settled keeps =
    subst (λ k. Keeps place k state (orders_left k owed) (lines_at place (entry.Ended (addr_of place) end ∷ e ∷ past)))
    (sym settled.0)
    (subst (Keeps place None state (orders_left None owed)) (sym (own_ended place end (e ∷ past))) (record {
      works = tt;
      knows = knows_ended place state owed end (lines_at place (e ∷ past)) keeps.knows;
    }))
