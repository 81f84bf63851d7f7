-- Why a command is refused, and what becomes of one that is taken.
use Rattle.std.proofs.Common.{◌≡◌, ℕ, ◌==◌, Bool, true, false, cond, List, [], ◌∷◌, refl, sym, ap, subst, ◌∙◌, Option, Some, None}
use Rattle.std.specs.Prelude.{Err, IsTrue, Ok, OnErr, Result, is_some, not}
use Rattle.std.specs.Option.{option_or}
use Rattle.std.proofs.lemmas.Bool.{eqb-true}
use Rattle.cct_model.specs.terms.device.DeviceSetup.{DeviceSetup}
use Rattle.cct_model.specs.terms.device.Setup.{Setup}
use Rattle.cct_model.specs.lines.command.Command.{Command}
use Rattle.cct_model.specs.lines.command.Command.TheVariants as command
use Rattle.cct_model.specs.lines.command.CommandNo.{CommandNo}
use Rattle.cct_model.specs.lines.command.CommandNo.TheVariants.{Busy, NoDevice, WrongKind}
use Rattle.cct_model.specs.lines.entry.End.{End}
use Rattle.cct_model.specs.lines.entry.Entry.{Entry}
use Rattle.cct_model.specs.lines.entry.Entry.TheVariants as entry
use Rattle.cct_model.specs.declared.judging.EpochState.{EpochState}
use Rattle.cct_model.specs.declared.judging.EpochState.TheVariants.{Idle, Running}
use Rattle.cct_model.specs.declared.judging.OpenOrder.{OpenOrder}
use Rattle.cct_model.specs.Device.{is_acceptor, is_bill, is_hopper, is_taker}
use Rattle.cct_model.specs.Exchange.{acceptor_there, bill_there, device_at, hopper_there, taker_there}
use Rattle.cct_model.specs.Job as model
use Rattle.cct_model.specs.Rows as table
use Rattle.cct_model.specs.Rows.{has_waits}
use Rattle.cct_model.specs.Job.{address_of}
use Rattle.cct_model.specs.Line.{Line}
use Rattle.cct_model.specs.Order.{order}
use Rattle.cct_model.specs.declared.tests.Test.{Test}
use Rattle.cct_model.specs.declared.tests.Test.TheVariants.{AtADevice, AtATaker, AtAnAcceptor, AtABillAcceptor, AtAHopper, WithAnEpoch, WithAnOrder}
use Rattle.cct_model.specs.Refusal.{View, first_of, id_refusal, is_busy, last_id, lines_for, running_id, running_refusal, settle_refusal, state_fails, state_refusal, state_tests, unless, view_of}
use Rattle.cct_model.specs.Transcript.{lines_of, sale_lines, scan_lines}
use Rattle.cct_jobs.specs.declared.job.Job.{Job}
use Rattle.cct_host.specs.declared.orders.OrderState.{OrderState}
use Rattle.cct_jobs.specs.Ahead.{ahead}
use Rattle.cct_jobs.specs.Jobs.{AreMet, IsMet, IsRunning, MayBegin, Stands, end_of_job, is_of_device, order_of, is_halt}
use Rattle.cct_jobs.specs.Sales.{StandsSale}
use Rattle.cct_jobs.specs.Scans.{StandsScan}
use Rattle.cct_host.specs.Desk.{Keeps, Works}
use Rattle.cct_host.specs.Place.{Place, device, sales, scans}
use Rattle.cct_host.specs.Running.{begins_id, busy_by, command_of, halting_refusal, halts_in, is_running, refusal_beside, sale_refusal, seen_at}
use Rattle.cct_laws.proofs.jobs.Tests.{Pass, all_pass, test_holds}
use Rattle.cct_jobs.proofs.Halts.{halts_known}
use Rattle.cct_jobs.proofs.Needs.{end_known}
use Rattle.cct_host.proofs.Keeps.{GoesByHalt, halt_keeps, keeps_quiet, taken_keeps}
use Rattle.cct_host.proofs.Lines.{refused_quiet}

-- a job there
busy_is : (place : Place) (job : Option Job) (j : model.Job) (state : EpochState) (owed : Option OpenOrder)
    → Works place job j state owed → is_some job ≡ is_busy j
busy_is place None model.free state owed works = refl
busy_is place (Some job) (model.works c since) state owed works = refl
busy_is place None (model.works c since) state owed works = absurd works
busy_is place (Some job) model.free state owed works = absurd works

none_of : (end : Option End) → not (is_some end) ≡ true → end ≡ None
none_of None runs = refl
none_of (Some end) runs = absurd cc

-- a job that isn't done can be halted as its lines say
halts_is : (d : DeviceSetup) (job : Option Job) (j : model.Job) (state : EpochState) (owed : Option OpenOrder)
    → is_running job ≡ true → Works (device d) job j state owed → halts_in job ≡ table.can_halt d j
halts_is d None model.free state owed runs works = refl
halts_is d (Some job) (model.works c since) state owed runs works =
    halts_known d job c since state owed (has_waits (ahead job)) refl works
    (sym (end_known d job c since state owed (end_of_job job) refl works) ∙ none_of (end_of_job job) runs)
halts_is d None (model.works c since) state owed runs works = absurd works
halts_is d (Some job) model.free state owed runs works = absurd works

-- the tests of a command at a device look at what its lines show
abbrev seen : DeviceSetup → ℕ → Bool → Bool → EpochState → Option OpenOrder → View
seen d last busy payout state owed = record {
  found = Some d;
  is_busy = busy;
  is_payout = payout;
  state = state;
  owed = owed;
  last = last;
}

seen_is : (d : DeviceSetup) (job : Option Job) (state : EpochState) (owed : OrderState) (last : ℕ) (lines : List Line)
    → is_running job ≡ true → Keeps (device d) job state owed lines
    → seen_at d job state owed last ≡ view_of (Some d) lines last
seen_is d job state owed last lines runs keeps =
    ap (λ b. seen d last b (halts_in job) state (order_of owed.order)) (busy_is (device d) job _ _ _ keeps.works)
    ∙ ap (λ p. seen d last (is_busy (model.job lines)) p state (order_of owed.order))
    (halts_is d job _ _ _ runs keeps.works)
    ∙ ap (λ n. seen d last (is_busy (model.job lines)) (table.can_halt d (model.job lines)) n (order_of owed.order))
    keeps.knows.0
    ∙ ap (seen d last (is_busy (model.job lines)) (table.can_halt d (model.job lines)) (model.epoch lines)) keeps.knows.1

lines_there : (past : List Entry) (c : Command) (d : DeviceSetup) → is_of_device c ≡ true
    → lines_for past c (Some d) ≡ lines_of d past
lines_there past command.Scan d of_device = absurd cc
lines_there past (command.Vend id price) d of_device = absurd cc
lines_there past c d of_device = refl

refusal_beside_is : (setup : Setup) (d : DeviceSetup) (job : Option Job) (state : EpochState) (owed : OrderState)
    (past : List Entry) (c : Command) → is_running job ≡ true → is_of_device c ≡ true
    → device_at setup.devices (address_of c) ≡ Some d → Keeps (device d) job state owed (lines_of d past)
    → refusal_beside d job state owed (last_id setup past) c ≡ state_refusal setup past c
refusal_beside_is setup d job state owed past c runs of_device there keeps =
    ap (λ v. first_of (state_fails v) (state_tests c)) (
    seen_is d job state owed (last_id setup past) (lines_of d past) runs keeps
    ∙ ap (λ lines. view_of (Some d) lines (last_id setup past)) (sym (lines_there past c d of_device))
    ∙ ap (λ f. view_of f (lines_for past c f) (last_id setup past)) (sym there))

-- a command that begins no id isn't judged by the last one
any_last : (d : DeviceSetup) (job : Option Job) (state : EpochState) (owed : OrderState) (last other : ℕ) (c : Command)
    → (begins_id c ≡ true → last ≡ other) → refusal_beside d job state owed last c ≡ refusal_beside d job state owed other c
any_last d job state owed last other (command.Pay addr id count) same =
    ap (λ n. refusal_beside d job state owed n (command.Pay addr id count)) (same refl)
any_last d job state owed last other (command.Vend id price) same =
    ap (λ n. refusal_beside d job state owed n (command.Vend id price)) (same refl)
any_last d job state owed last other c same = refl

pub refusal_is : (setup : Setup) (d : DeviceSetup) (job : Option Job) (state : EpochState) (owed : OrderState) (last : ℕ)
    (past : List Entry) (c : Command) → (begins_id c ≡ true → last ≡ last_id setup past) → is_running job ≡ true
    → is_of_device c ≡ true → device_at setup.devices (address_of c) ≡ Some d
    → Keeps (device d) job state owed (lines_of d past)
    → refusal_beside d job state owed last c ≡ state_refusal setup past c
refusal_is setup d job state owed last past c is_last runs of_device there keeps =
    any_last d job state owed last (last_id setup past) c is_last
    ∙ refusal_beside_is setup d job state owed past c runs of_device there keeps

pub halting_is : (setup : Setup) (d : DeviceSetup) (job : Option Job) (state : EpochState) (owed : OrderState)
    (past : List Entry) (c : Command) → is_running job ≡ true → is_halt c ≡ true
    → device_at setup.devices (address_of c) ≡ Some d → Keeps (device d) job state owed (lines_of d past)
    → halting_refusal d job ≡ state_refusal setup past c
halting_is setup d job state owed past (command.Halt addr) runs halt there keeps =
    refusal_beside_is setup d job state owed past (command.Halt addr) runs refl there keeps
halting_is setup d job state owed past c runs halt there keeps = absurd cc

-- what isn't refused may begin
acceptor_is_there : (found : Option DeviceSetup) (d : DeviceSetup) → found ≡ Some d → is_acceptor d.body ≡ true
    → IsTrue (acceptor_there found)
acceptor_is_there found d is kind = subst (λ f. IsTrue (acceptor_there f)) (sym is) kind

taker_is_there : (found : Option DeviceSetup) (d : DeviceSetup) → found ≡ Some d → is_taker d.body ≡ true
    → IsTrue (taker_there found)
taker_is_there found d is kind = subst (λ f. IsTrue (taker_there f)) (sym is) kind

bill_is_there : (found : Option DeviceSetup) (d : DeviceSetup) → found ≡ Some d → is_bill d.body ≡ true
    → IsTrue (bill_there found)
bill_is_there found d is kind = subst (λ f. IsTrue (bill_there f)) (sym is) kind

hopper_is_there : (found : Option DeviceSetup) (d : DeviceSetup) → found ≡ Some d → is_hopper d.body ≡ true
    → IsTrue (hopper_there found)
hopper_is_there found d is kind = subst (λ f. IsTrue (hopper_there f)) (sym is) kind

pub owed_where_free : (owed : Option OpenOrder) → settle_refusal owed ≡ None → IsTrue (is_some owed)
owed_where_free None free = absurd cc
owed_where_free (Some o) free = refl

runs_where_free : (state : EpochState) → running_refusal state ≡ None → IsRunning state
runs_where_free Idle free = absurd cc
runs_where_free (Running mask counter accepts) free = tt

pub may_begin : (devices : List DeviceSetup) (d : DeviceSetup) (job : Option Job) (state : EpochState)
    (owed : OrderState) (last : ℕ) (c : Command) → is_halt c ≡ false → is_of_device c ≡ true
    → device_at devices (address_of c) ≡ Some d → refusal_beside d job state owed last c ≡ None
    → MayBegin c devices state (order_of owed.order)
may_begin devices d job state owed last c no_halt of_device there free =
    (no_halt, all_met (state_tests c) (all_pass fails (state_tests c) free))
  where
    fails : Test → Option CommandNo
    fails = state_fails (seen_at d job state owed last)

    met : (t : Test) → fails t ≡ None → IsMet (device_at devices (address_of c)) state (order_of owed.order) t
    met AtADevice passes = subst (λ f. IsTrue (is_some f)) (sym there) refl
    met AtATaker passes = taker_is_there _ d there (test_holds (is_taker d.body) WrongKind passes)
    met AtAnAcceptor passes = acceptor_is_there _ d there (test_holds (is_acceptor d.body) WrongKind passes)
    met AtABillAcceptor passes = bill_is_there _ d there (test_holds (is_bill d.body) WrongKind passes)
    met AtAHopper passes = hopper_is_there _ d there (test_holds (is_hopper d.body) WrongKind passes)
    met WithAnEpoch passes = runs_where_free state passes
    met WithAnOrder passes = owed_where_free (order_of owed.order) passes
    met t passes = tt

    all_met : (ts : List Test) → Pass fails ts
        → AreMet (device_at devices (address_of c)) state (order_of owed.order) ts
    all_met [] passes = tt
    all_met (t ∷ ts) passes = (met t passes.0, all_met ts passes.1)

-- a command that begins a job begins its own
begins_own : (c : Command) (before : model.Job) → is_halt c ≡ false → model.begun c before ≡ model.works c []
begins_own (command.Halt addr) before no_halt = absurd cc
begins_own c before no_halt = refl

there_by : (same : Bool) (e d : DeviceSetup) (rest : Option DeviceSetup) (addr : ℕ) → (e.addr == addr) ≡ same
    → cond same (Some e) rest ≡ Some d → (rest ≡ Some d → d.addr ≡ addr) → d.addr ≡ addr
there_by true e d rest addr test is further =
    let same : e ≡ d = cc in
    ap (λ x. x.addr) (sym same) ∙ eqb-true _ _ test
there_by false e d rest addr test is further = further is

pub address_there : (devices : List DeviceSetup) (addr : ℕ) (d : DeviceSetup) → device_at devices addr ≡ Some d
    → d.addr ≡ addr
address_there [] addr d is = absurd cc
address_there (e ∷ es) addr d is = there_by (e.addr == addr) e d (device_at es addr) addr refl is
    (λ rest. address_there es addr d rest)

-- a command at a device
pub command_taken : (setup : Setup) (d : DeviceSetup) (c : Command) (before : Option Job) (job : Job)
    (state : EpochState) (owed after : OrderState) (last : ℕ) (past : List Entry)
    → (begins_id c ≡ true → last ≡ last_id setup past) → is_of_device c ≡ true → is_running before ≡ true → after.order ≡ owed.order
    → after.id ≡ running_id d (model.works c []) → after.begun ≡ Some c
    → device_at setup.devices (address_of c) ≡ Some d → refusal_beside d before state owed last c ≡ None
    → MayBegin c setup.devices state (order_of owed.order) → Stands d job c [] state (order_of owed.order)
    → Keeps (device d) before state owed (lines_of d past)
    → (None ≡ state_refusal setup past c) × Keeps (device d) (Some job) state after (lines_of d (entry.Taken c ∷ past))
command_taken setup d c before job state owed after last past is_last of_device runs ordered named begun there free may
    stands keeps = (
      sym free ∙ refusal_is setup d before state owed last past c is_last runs of_device there keeps,
      taken_keeps (device d) c job state after past (sym (address_there setup.devices (address_of c) d there))
          (begins_own c _ may.0)
          (subst (λ n. Stands d job c [] n (order (lines_of d past))) keeps.knows.0
          (subst (Stands d job c [] state) keeps.knows.1 stands)) (
            keeps.knows.0,
            ap order_of ordered ∙ keeps.knows.1,
            named ∙ ap (running_id d) (sym (begins_own c _ may.0)),
            begun ∙ ap command_of (sym (begins_own c _ may.0)),
          ),
    )

pub command_refused : (setup : Setup) (d : DeviceSetup) (c : Command) (job : Option Job) (state : EpochState)
    (owed : OrderState) (last : ℕ) (past : List Entry) (why : CommandNo)
    → (begins_id c ≡ true → last ≡ last_id setup past) → is_of_device c ≡ true → is_running job ≡ true
    → device_at setup.devices (address_of c) ≡ Some d → refusal_beside d job state owed last c ≡ Some why
    → Keeps (device d) job state owed (lines_of d past)
    → (Some why ≡ state_refusal setup past c) × Keeps (device d) job state owed (lines_of d (entry.No c why ∷ past))
command_refused setup d c job state owed last past why is_last of_device runs there is keeps = (
  sym is ∙ refusal_is setup d job state owed last past c is_last runs of_device there keeps,
  keeps_quiet (device d) job state owed past
      (entry.No c why) (refused_quiet past c why) keeps,
)

-- a halt at a device
pub halt_taken : (setup : Setup) (d : DeviceSetup) (c : Command) (before : Option Job) (old new : Job)
    (state : EpochState) (owed : OrderState) (past : List Entry) → before ≡ Some old → is_running before ≡ true
    → is_halt c ≡ true → device_at setup.devices (address_of c) ≡ Some d → halting_refusal d before ≡ None
    → GoesByHalt old new → Keeps (device d) before state owed (lines_of d past)
    → (None ≡ state_refusal setup past c) × Keeps (device d) (Some new) state owed (lines_of d (entry.Taken c ∷ past))
halt_taken setup d c before old new state owed past was runs halt there free goes keeps = (
  sym free ∙ halting_is setup d before state owed past c runs halt there keeps,
  halt_keeps d c old new state owed past (sym (address_there setup.devices (address_of c) d there)) halt goes
      (subst (λ j. Keeps (device d) j state owed (lines_of d past)) was keeps),
)

pub halt_refused : (setup : Setup) (d : DeviceSetup) (c : Command) (job : Option Job) (state : EpochState)
    (owed : OrderState) (past : List Entry) (why : CommandNo) → is_running job ≡ true → is_halt c ≡ true
    → device_at setup.devices (address_of c) ≡ Some d → halting_refusal d job ≡ Some why
    → Keeps (device d) job state owed (lines_of d past)
    → (Some why ≡ state_refusal setup past c) × Keeps (device d) job state owed (lines_of d (entry.No c why ∷ past))
halt_refused setup d c job state owed past why runs halt there is keeps = (
  sym is ∙ halting_is setup d job state owed past c runs halt there keeps,
  keeps_quiet (device d) job state owed past (entry.No c why) (refused_quiet past c why) keeps,
)

-- a scan
busy_same : (place : Place) (job : Option Job) (j : model.Job) (state : EpochState) (owed : Option OpenOrder)
    → Works place job j state owed → busy_by job ≡ unless (not (is_busy j)) Busy
busy_same place job j state owed works = ap (λ b. unless (not b) Busy) (busy_is place job j state owed works)

pub scan_refusal : (setup : Setup) (c : Command) (job : Option Job) (state : EpochState) (owed : OrderState)
    (past : List Entry) → c ≡ command.Scan → Keeps scans job state owed (scan_lines past)
    → busy_by job ≡ state_refusal setup past c
scan_refusal setup c job state owed past is keeps = busy_same scans job _ _ _ keeps.works
    ∙ sym (ap (state_refusal setup past) is)

pub scan_taken : (setup : Setup) (c : Command) (before : Option Job) (job : Job) (state : EpochState)
    (owed after : OrderState) (past : List Entry) → c ≡ command.Scan → after.begun ≡ Some c → busy_by before ≡ None
    → StandsScan job []
    → Keeps scans before state owed (scan_lines past) → (None ≡ state_refusal setup past c)
    × Keeps scans (Some job) state after
    (scan_lines (entry.Taken c ∷ past))
scan_taken setup c before job state owed after past is begun free stands keeps =
    let begins = ap (λ k. model.begun k (model.job (scan_lines past))) is ∙ ap (λ k. model.works k []) (sym is) in (
      sym free ∙ scan_refusal setup c before state owed past is keeps,
      taken_keeps scans c job state after past (ap address_of is) begins stands (begun ∙ ap command_of (sym begins)),
    )

pub scan_refused : (setup : Setup) (c : Command) (job : Option Job) (state : EpochState) (owed : OrderState) (past : List
    Entry)
    (why : CommandNo) → c ≡ command.Scan → busy_by job ≡ Some why
    → Keeps scans job state owed (scan_lines past) → (Some why ≡ state_refusal setup past c) × Keeps scans job state owed
    (scan_lines (entry.No c why ∷ past))
scan_refused setup c job state owed past why is refused keeps = (
  sym refused ∙ scan_refusal setup c job state owed past is keeps,
  keeps_quiet scans job state owed past (entry.No c why)
      (refused_quiet past c why) keeps,
)

-- a sale
pub sale_refusal_is : (setup : Setup) (id price : ℕ) (job : Option Job) (state : EpochState) (owed : OrderState) (last : ℕ)
    (past : List Entry) → last ≡ last_id setup past → Keeps sales job state owed (sale_lines past)
    → sale_refusal job id last ≡ state_refusal setup past (command.Vend id price)
sale_refusal_is setup id price job state owed last past is_last keeps =
    ap (λ b. option_or b (id_refusal id last)) (busy_same sales job _ _ _ keeps.works)
    ∙ ap (λ l. option_or (unless (not (is_busy (model.job (sale_lines past)))) Busy) (id_refusal id l)) is_last

pub sale_taken : (setup : Setup) (id price : ℕ) (before : Option Job) (job : Job) (state : EpochState)
    (owed after : OrderState) (last : ℕ) (past : List Entry) → last ≡ last_id setup past → after.order ≡ owed.order
    → after.id ≡ id → after.begun ≡ Some (command.Vend id price) → sale_refusal before id last ≡ None
    → StandsSale job (command.Vend id price) []
    → Keeps sales before state owed (sale_lines past)
    → (None ≡ state_refusal setup past (command.Vend id price))
    × Keeps sales (Some job) state after (sale_lines (entry.Taken (command.Vend id price) ∷ past))
sale_taken setup id price before job state owed after last past is_last ordered named begun free stands keeps = (
  sym free ∙ sale_refusal_is setup id price before state owed last past is_last keeps,
  taken_keeps sales (command.Vend id price) job state after past refl refl stands (ordered ∙ keeps.knows.0, named, begun),
)

pub sale_refused : (setup : Setup) (id price : ℕ) (job : Option Job) (state : EpochState) (owed : OrderState) (last : ℕ)
    (past : List Entry) (why : CommandNo) → last ≡ last_id setup past → sale_refusal job id last ≡ Some why
    → Keeps sales job state owed (sale_lines past)
    → (Some why ≡ state_refusal setup past (command.Vend id price))
    × Keeps sales job state owed (sale_lines (entry.No (command.Vend id price) why ∷ past))
sale_refused setup id price job state owed last past why is_last is keeps = (
  sym is ∙ sale_refusal_is setup id price job state owed last past is_last keeps,
  keeps_quiet sales job state owed past (entry.No (command.Vend id price) why) (refused_quiet past _ why) keeps,
)

-- no device
pub absent_refused : (setup : Setup) (past : List Entry) (c : Command) → is_of_device c ≡ true
    → device_at setup.devices (address_of c) ≡ None → Some NoDevice ≡ state_refusal setup past c
absent_refused setup past command.Scan of_device none = absurd cc
absent_refused setup past (command.Vend id price) of_device none = absurd cc
absent_refused setup past c of_device none =
    sym (ap (λ f. first_of (state_fails (view_of f (lines_for past c f) (last_id setup past))) (state_tests c)) none)

-- what a refused command leaves, part by part
pub stays_by : {A B C D E : Type 0} (r : Result Unit CommandNo) (P : Type 0) (a : A) (b old_b : B) (c old_c : C)
    (d old_d : D) (e : E) → OnErr r P → (P → b ≡ old_b) → (P → c ≡ old_c) → (P → d ≡ old_d)
    → OnErr r ((a ≡ a) × (b ≡ old_b) × (c ≡ old_c) × (d ≡ old_d) × (e ≡ e))
stays_by (Ok taken) P a b old_b c old_c d old_d e same b_is c_is d_is = same
stays_by (Err why) P a b old_b c old_c d old_d e same b_is c_is d_is = (refl, b_is same, c_is same, d_is same, refl)
