-- After two pasts with the same jobs and records a host refuses the same, has the same due, and goes on by the same entries.
use Rattle.std.proofs.Common.{◌≡◌, inl, inr, ℕ, ◌+◌, ◌-◌, ◌==◌, suc, List, [], ◌∷◌, length, refl, sym, ap, ap₂, ◌∙◌, subst, Option, Some, None}
use Rattle.std.specs.Prelude.{MatchBool, max, not, nat_le, if◌then◌else◌}
use Rattle.std.specs.Option.{option_or}
use Rattle.cct_model.specs.terms.wire.TheConstants.{BROADCAST, HOST}
use Rattle.cct_model.specs.terms.device.DeviceSetup.{DeviceSetup}
use Rattle.cct_model.specs.terms.device.Setup.{Setup}
use Rattle.cct_model.specs.lines.command.Command.{Command}
use Rattle.cct_model.specs.lines.command.Command.TheVariants as command
use Rattle.cct_model.specs.lines.command.CommandNo.{CommandNo}
use Rattle.cct_model.specs.lines.command.CommandNo.TheVariants.{Busy, JournalFull, Short}
use Rattle.cct_model.specs.lines.command.CrashAt.{CrashAt}
use Rattle.cct_model.specs.lines.record.Record.{Record}
use Rattle.cct_model.specs.lines.entry.Entry.{Entry}
use Rattle.cct_model.specs.lines.entry.Entry.TheVariants as entry
use Rattle.cct_model.specs.lines.entry.Totals.{Totals}
use Rattle.cct_model.specs.declared.judging.EpochState.{EpochState}
use Rattle.cct_model.specs.declared.judging.OpenOrder.{OpenOrder}
use Rattle.cct_model.specs.Exchange.{ask, asked, device_at}
use Rattle.cct_model.specs.Line.{Line, exchange, put}
use Rattle.cct_model.specs.Order.{order}
use Rattle.cct_model.specs.Job.{Job, free, works, job, epoch, Row, sends, puts, no_row, address_of}
use Rattle.cct_model.specs.Rows.{row, end_of, closes_order}
use Rattle.cct_model.specs.Records.{greatest_id, epoch_in, order_in}
use Rattle.cct_model.specs.Money.{coins_of, posted_in, reserved_in, paid_in, sold_in, reserved_by, reserved_by_sale, reserved_at_work, totals, available}
use Rattle.cct_model.specs.declared.tests.Test.{Test}
use Rattle.cct_model.specs.declared.tests.Test.TheVariants.{WithCoins, WithPrice, WithRoom}
use Rattle.cct_model.specs.Refusal.{tests_of, state_tests, first_of, View, unless, id_refusal, state_fails, job_holds, order_holds, holds_at, sale_holds, held, need_for, full_refusal, short_refusal, running_id, sale_id, greatest_running, last_id, room_fails, is_busy, lines_for, halts_at, view_of, refusal}
use Rattle.cct_model.specs.Legal.{with_end, RowEntries, NextEntries, ScanEntries, SaleEntries, BareNext, OfNext, EntriesOfNext, record_due, due_of, due_of_sale, due_there, due_at, RestartEntries, EntriesOfRestart}
use Rattle.cct_model.specs.Transcript.{got_by, lines_of, sale_lines, scan_lines}
use Rattle.cct_laws.proofs.money.FromRecordsAlone.{epoch_recorded, order_recorded}
use Rattle.cct_laws.proofs.money.Sums.{sum_same}
use Rattle.cct_laws_live.proofs.Alike.{Alike}

-- the epoch and the open order of a device
pub epoch_same : (d : DeviceSetup) (past other : List Entry) → Alike past other →
    epoch (lines_of d past) ≡ epoch (lines_of d other)
epoch_same d past other alike =
    epoch_recorded d past ∙ ap (epoch_in d.addr) alike.recorded ∙ sym (epoch_recorded d other)

pub order_same : (d : DeviceSetup) (past other : List Entry) → Alike past other →
    order (lines_of d past) ≡ order (lines_of d other)
order_same d past other alike =
    order_recorded d past ∙ ap (order_in d.addr) alike.recorded ∙ sym (order_recorded d other)

-- a fact of the epoch, the open order and the job of a device, and of these alone
by_device : {A : Type 0} (of : EpochState → Option OpenOrder → Job → A) (d : DeviceSetup) (past other : List Entry) →
    Alike past other → of (epoch (lines_of d past)) (order (lines_of d past)) (job (lines_of d past))
    ≡ of (epoch (lines_of d other)) (order (lines_of d other)) (job (lines_of d other))
by_device of d past other alike =
    ap₂ (λ state owed. of state owed (job (lines_of d past))) (epoch_same d past other alike) (order_same d past other alike)
    ∙ ap (of (epoch (lines_of d other)) (order (lines_of d other))) (alike.devices d)

-- what is held, and what running jobs reserve
holds_for : DeviceSetup → EpochState → Option OpenOrder → Job → ℕ
holds_for d state owed at_work = job_holds d state at_work + order_holds (closes_order d at_work) owed

pub held_same : (setup : Setup) (past other : List Entry) → Alike past other → held setup past ≡ held setup other
unfolding holds_for
held_same setup past other alike =
    ap₂ (λ a b. a + b)
    (sum_same (holds_at past) (holds_at other) setup.devices (λ d. by_device (holds_for d) d past other alike))
    (ap sale_holds alike.sale)

pub reserved_same : (setup : Setup) (past other : List Entry) → Alike past other →
    reserved_at_work setup past ≡ reserved_at_work setup other
reserved_same setup past other alike =
    ap₂ (λ a b. a + b)
    (sum_same (λ d. reserved_by setup d (job (lines_of d past))) (λ d. reserved_by setup d (job (lines_of d other)))
    setup.devices (λ d. ap (reserved_by setup d) (alike.devices d)))
    (ap (reserved_by_sale setup) alike.sale)

-- what the operator has
abbrev available_for : Setup → List Record → ℕ → ℕ
available_for setup before work =
    posted_in setup before - (reserved_in setup before + work + paid_in setup before + sold_in before)

abbrev totals_for : Setup → List Record → ℕ → Totals
totals_for setup before work = record {
  available = available_for setup before work;
  reserved = reserved_in setup before + work;
  paid = paid_in setup before;
  sold = sold_in before;
}

pub totals_same : (setup : Setup) (past other : List Entry) → Alike past other → totals setup past ≡ totals setup other
totals_same setup past other alike =
    ap₂ (totals_for setup) alike.recorded (reserved_same setup past other alike)

available_same : (setup : Setup) (past other : List Entry) → Alike past other →
    available setup past ≡ available setup other
available_same setup past other alike =
    ap₂ (available_for setup) alike.recorded (reserved_same setup past other alike)

-- the last id
greatest_same : (past other : List Entry) (ds : List DeviceSetup) → Alike past other →
    greatest_running past ds ≡ greatest_running other ds
greatest_same past other [] alike = refl
greatest_same past other (d ∷ ds) alike =
    ap₂ max (ap (running_id d) (alike.devices d)) (greatest_same past other ds alike)

last_same : (setup : Setup) (past other : List Entry) → Alike past other → last_id setup past ≡ last_id setup other
last_same setup past other alike =
    ap₂ max (ap greatest_id alike.recorded)
    (ap₂ max (greatest_same past other setup.devices alike) (ap sale_id alike.sale))

-- why a command is refused
first_same : (fails others : Test → Option CommandNo) (tests : List Test) → ((test : Test) → fails test ≡ others test) →
    first_of fails tests ≡ first_of others tests
first_same fails others [] same = refl
first_same fails others (test ∷ []) same = same test
first_same fails others (test ∷ next ∷ tests) same =
    ap₂ option_or (same test) (first_same fails others (next ∷ tests) same)

abbrev viewed : DeviceSetup → ℕ → EpochState → Option OpenOrder → Job → View
viewed d last state owed at_work = record {
  found = Some d;
  is_busy = is_busy at_work;
  is_payout = halts_at (Some d) at_work;
  state = state;
  owed = owed;
  last = last;
}

view_same : (setup : Setup) (past other : List Entry) (d : DeviceSetup) → Alike past other →
    view_of (Some d) (lines_of d past) (last_id setup past) ≡ view_of (Some d) (lines_of d other) (last_id setup other)
view_same setup past other d alike =
    ap (view_of (Some d) (lines_of d past)) (last_same setup past other alike)
    ∙ by_device (viewed d (last_id setup other)) d past other alike

state_there : (setup : Setup) (past other : List Entry) (c : Command) (found : Option DeviceSetup) → Alike past other →
    first_of (state_fails (view_of found (lines_for past c found) (last_id setup past))) (state_tests c)
    ≡ first_of (state_fails (view_of found (lines_for other c found) (last_id setup other))) (state_tests c)
state_there setup past other command.Scan found alike = ap (λ at_work. unless (not (is_busy at_work)) Busy) alike.scan
state_there setup past other (command.Vend id price) found alike =
    ap₂ (λ at_work last. option_or (unless (not (is_busy at_work)) Busy) (id_refusal id last)) alike.sale
    (last_same setup past other alike)
state_there setup past other c None alike =
    ap (λ last. first_of (state_fails (view_of None [] last)) (state_tests c)) (last_same setup past other alike)
state_there setup past other c (Some d) alike =
    ap (λ v. first_of (state_fails v) (state_tests c)) (view_same setup past other d alike)

full_same : (setup : Setup) (past other : List Entry) (need capacity : ℕ) → Alike past other →
    full_refusal setup past need capacity ≡ full_refusal setup other need capacity
full_same setup past other need capacity alike =
    ap₂ (λ rs many. if nat_le (length rs + many + need) capacity then None else Some (JournalFull (length rs) many need))
    alike.recorded (held_same setup past other alike)

short_same : (setup : Setup) (past other : List Entry) (wanted : ℕ) → Alike past other →
    short_refusal setup past wanted ≡ short_refusal setup other wanted
short_same setup past other wanted alike =
    ap (λ left. if nat_le wanted left then None else Some (Short left)) (available_same setup past other alike)

room_same : (capacity : ℕ) (setup : Setup) (past other : List Entry) (need : ℕ) (test : Test) → Alike past other →
    room_fails capacity setup past need test ≡ room_fails capacity setup other need test
room_same capacity setup past other need (WithCoins addr count) alike =
    short_same setup past other (coins_of setup addr count) alike
room_same capacity setup past other need (WithPrice price) alike = short_same setup past other price alike
room_same capacity setup past other need WithRoom alike = full_same setup past other need capacity alike
room_same capacity setup past other need test alike = refl

pub refusal_same : (capacity : ℕ) (setup : Setup) (past other : List Entry) (c : Command) → Alike past other →
    refusal capacity setup past c ≡ refusal capacity setup other c
refusal_same capacity setup past other c alike =
    let found = device_at setup.devices (address_of c) in
    ap₂ option_or (state_there setup past other c found alike)
    (first_same (room_fails capacity setup past (need_for found c)) (room_fails capacity setup other (need_for found c))
    (tests_of c) (λ test. room_same capacity setup past other (need_for found c) test alike))

-- what is due
due_by : (d : DeviceSetup) (past other : List Entry) (at_work : Job) → Alike past other →
    due_of d (lines_of d past) at_work ≡ due_of d (lines_of d other) at_work
due_by d past other free alike = refl
due_by d past other (works c since) alike =
    ap₂ (λ state owed. record_due (row d c since state owed)) (epoch_same d past other alike) (order_same d past other alike)

due_found : (past other : List Entry) (addr : ℕ) (found : Option DeviceSetup) → Alike past other →
    due_there past addr found ≡ due_there other addr found
due_found past other addr (Some d) alike =
    ap (due_of d (lines_of d past)) (alike.devices d) ∙ due_by d past other (job (lines_of d other)) alike
due_found past other addr None alike =
    ap (λ at_work. if addr == HOST then due_of_sale at_work else None) alike.sale

pub due_same : (setup : Setup) (past other : List Entry) (addr : ℕ) → Alike past other →
    due_at setup past addr ≡ due_at setup other addr
due_same setup past other addr alike = due_found past other addr (device_at setup.devices addr) alike

-- the entries of a restart
restart_by : (past other news : List Entry) (calls : ℕ) (due : Option Record) → Alike past other →
    RestartEntries past calls due news → RestartEntries other calls due news
restart_by past other news calls None alike told =
    subst (λ rs. news ≡ entry.Crash (length rs) ∷ []) alike.recorded told
restart_by past other news calls (Some r) alike told = elim told [
  | inl bare ↦ inl (bare.0, subst (λ rs. news ≡ entry.Crash (length rs) ∷ []) alike.recorded bare.1)
  | inr keeping ↦ inr (keeping.0, subst (λ rs. news ≡ entry.Kept r ∷ entry.Crash (suc (length rs)) ∷ []) alike.recorded keeping.1)
]

pub restart_over : (setup : Setup) (past other news : List Entry) (at : Option CrashAt) → Alike past other →
    EntriesOfRestart setup past at news → EntriesOfRestart setup other at news
restart_over setup past other news None alike told = restart_by past other news 0 None alike told
restart_over setup past other news (Some at) alike told =
    restart_by past other news at.calls (due_at setup other at.addr) alike
    (subst (λ due. RestartEntries past at.calls due news) (due_same setup past other at.addr alike) told)

-- the entries of a `next`, where the same is heard
row_over : (hears : List ℕ → List ℕ) (d : DeviceSetup) (past other news : List Entry) (c : Command) (since : List Line)
    (r : Row) → Alike past other → RowEntries hears d past c since r news → RowEntries hears d other c since r news
row_over hears d past other news c since (sends q) alike told =
    let sent = ask d.kind d.addr q in
    let piece = hears sent in
    subst (λ state. news ≡ with_end d.addr (entry.Wire d.addr sent piece)
    (end_of d c (exchange (asked d.kind sent) (got_by d sent piece)) since state)) (epoch_same d past other alike) told
row_over hears d past other news c since (puts r) alike told =
    subst (λ state. news ≡ with_end d.addr (entry.Put r) (end_of d c (put r) since state)) (epoch_same d past other alike)
    told
row_over hears d past other news c since no_row alike told = absurd told

job_over : (hears : List ℕ → List ℕ) (d : DeviceSetup) (past other news : List Entry) (at_work : Job) →
    Alike past other → NextEntries hears d past at_work news → NextEntries hears d other at_work news
job_over hears d past other news free alike told = told
job_over hears d past other news (works c since) alike told =
    row_over hears d past other news c since
    (row d c since (epoch (lines_of d other)) (order (lines_of d other))) alike
    (subst (λ r. RowEntries hears d past c since r news)
    (ap₂ (row d c since) (epoch_same d past other alike) (order_same d past other alike)) told)

bare_over : (hears : List ℕ → List ℕ) (past other news : List Entry) (addr : ℕ) → Alike past other →
    BareNext hears past addr news → BareNext hears other addr news
bare_over hears past other news addr alike told =
    subst (λ selling. MatchBool (addr == BROADCAST) (ScanEntries hears (job (scan_lines other)) news)
    (MatchBool (addr == HOST) (SaleEntries selling news) (news ≡ entry.Idle addr ∷ []))) alike.sale
    (subst (λ scanning. MatchBool (addr == BROADCAST) (ScanEntries hears scanning news)
    (MatchBool (addr == HOST) (SaleEntries (job (sale_lines past)) news) (news ≡ entry.Idle addr ∷ []))) alike.scan told)

found_over : (hears : List ℕ → List ℕ) (past other news : List Entry) (addr : ℕ) (found : Option DeviceSetup) →
    Alike past other →
    OfNext found (λ d. NextEntries hears d past (job (lines_of d past)) news) (BareNext hears past addr news) →
    OfNext found (λ d. NextEntries hears d other (job (lines_of d other)) news) (BareNext hears other addr news)
found_over hears past other news addr None alike told = bare_over hears past other news addr alike told
found_over hears past other news addr (Some d) alike told =
    job_over hears d past other news (job (lines_of d other)) alike
    (subst (λ at_work. NextEntries hears d past at_work news) (alike.devices d) told)

pub next_over : (hears : List ℕ → List ℕ) (setup : Setup) (past other news : List Entry) (addr : ℕ) → Alike past other →
    EntriesOfNext hears setup past addr news → EntriesOfNext hears setup other addr news
next_over hears setup past other news addr alike told =
    found_over hears past other news addr (device_at setup.devices addr) alike told
