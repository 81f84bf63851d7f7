-- How what a desk holds and reserves changes, whatever happened before.
use Rattle.std.proofs.Common.{◌≡◌, ℕ, ◌+◌, ◌≤◌, Bool, true, false, List, [], ◌∷◌, refl, sym, ap, subst, ◌∙◌, Option, Some, None, arith}
use Rattle.std.specs.Prelude.{IsTrue, is_some, not}
use Rattle.cct_model.specs.terms.device.DeviceSetup.{DeviceSetup}
use Rattle.cct_model.specs.terms.device.Setup.{Setup}
use Rattle.cct_model.specs.Exchange.{device_at}
use Rattle.cct_model.specs.terms.request.Request.{Request}
use Rattle.cct_model.specs.Job.{address_of, ident_requests}
use Rattle.cct_model.specs.Rows.{has_closes, has_waits, need_in, puts_in, rows_for, rows_of, telling}
use Rattle.cct_model.proofs.Rows.{told_fact}
use Rattle.cct_model.specs.lines.command.Command.{Command}
use Rattle.cct_model.specs.lines.command.Command.TheVariants as command
use Rattle.cct_model.specs.lines.entry.End.{End}
use Rattle.cct_model.specs.lines.entry.Entry.{Entry}
use Rattle.cct_model.specs.lines.record.Record.{Record}
use Rattle.cct_model.specs.lines.record.Record.TheVariants as record_of
use Rattle.cct_model.specs.declared.judging.EpochState.{EpochState}
use Rattle.cct_model.specs.declared.judging.OpenOrder.{OpenOrder}
use Rattle.cct_model.specs.Line.{put}
use Rattle.std.specs.Option.{IfSome}
use Rattle.cct_model.specs.Refusal.{order_holds, state_fails, state_tests, unless}
use Rattle.cct_model.specs.Device.{is_hopper}
use Rattle.cct_model.specs.lines.command.CommandNo.TheVariants.{NoPayout, WrongKind}
use Rattle.std.specs.Option.{option_or}
use Rattle.cct_jobs.specs.declared.job.Job.{Job}
use Rattle.cct_jobs.specs.declared.job.Job.TheVariants.{StartPuts, RoundPuts, StopPuts, StopEnds, OrderOpens, OrderCloses, SalePuts, Done}
use Rattle.cct_jobs.specs.declared.job.Need.{Need}
use Rattle.cct_jobs.specs.declared.job.Need.TheVariants as need
use Rattle.cct_jobs.specs.Ahead.{ahead, coins_in, price_in}
use Rattle.cct_jobs.specs.Jobs.{IsPut, after_put, end_in, end_of_job, is_of_device, need_of, order_of, put_in, is_halt}
use Rattle.cct_jobs.specs.Onward.{KeepsTo}
use Rattle.cct_jobs.specs.Sales.{StandsSale}
use Rattle.cct_host.specs.declared.orders.OrderState.{OrderState}
use Rattle.cct_jobs.proofs.Needs.{fewer_after, put_is}
use Rattle.cct_host.specs.declared.desk.JobDesk.{JobDesk}
use Rattle.cct_host.specs.Desk.{Frees}
use Rattle.cct_host.specs.Exchange.{Exchanges, Puts}
use Rattle.cct_host.specs.Held.{coins_by, due_by, held_by, order_left, price_by, puts_left, sells_only}
use Rattle.cct_host.specs.Running.{Settles, busy_by, halting_refusal, is_running, needed, refusal_beside, rows_begun, sale_refusal, seen_at}
use Rattle.cct_laws.proofs.jobs.Tests.{Pass, all_pass}
use Rattle.cct_host.proofs.Commands.{owed_where_free}

-- what a job that went on or is gone may put
put_left_by : (end : Option End) (new : Job) (kept : Option Job) (addr : ℕ) (report reported : List Entry)
    → Settles end new addr kept report reported → puts_left kept ≤ puts_in (ahead new)
put_left_by None new kept addr report reported settled =
    subst (λ k. puts_left k ≤ puts_in (ahead new)) (sym settled.0) (omega arith)
put_left_by (Some end) new kept addr report reported settled =
    subst (λ k. puts_left k ≤ puts_in (ahead new)) (sym settled.0) (omega arith)

put_left : (new : Job) (kept : Option Job) (addr : ℕ) (report reported : List Entry)
    → Settles (end_of_job new) new addr kept report reported → puts_left kept ≤ puts_in (ahead new)
put_left new kept addr report reported settled = put_left_by (end_of_job new) new kept addr report reported settled

coins_left_by : (end : Option End) (old new : Job) (kept : Option Job) (addr : ℕ)
    (report reported : List Entry) → KeepsTo (ahead old) new → Settles end new addr kept report reported
    → coins_by kept ≤ coins_by (Some old)
coins_left_by None old new kept addr report reported less settled =
    subst (λ k. coins_by k ≤ coins_by (Some old)) (sym settled.0) less.reserves
coins_left_by (Some end) old new kept addr report reported less settled =
    subst (λ k. coins_by k ≤ coins_by (Some old)) (sym settled.0) (omega arith)

-- after an exchange

ask_reserves : (old new : Job) (kept : Option Job) (addr : ℕ) (report reported : List Entry)
    → KeepsTo (ahead old) new → Settles (end_of_job new) new addr kept report reported
    → coins_by kept ≤ coins_by (Some old)
ask_reserves old new kept addr report reported less settled =
    coins_left_by (end_of_job new) old new kept addr report reported less settled

-- a job that runs and is about to put nothing asks
asks_by : (n : Need) → not (is_some (end_in n)) ≡ true → put_in n ≡ None → n ≡ need.Exchange
asks_by need.Exchange runs none = refl
asks_by (need.Put r) runs none = absurd cc
asks_by (need.Done end) runs none = absurd cc

pub asks_where_none : (job : Job) → is_running (Some job) ≡ true → due_by (Some job) ≡ None → need_of job ≡ need.Exchange
asks_where_none job runs none = asks_by (need_of job) runs none

-- after a put

coins_put : (job : Job) → IsPut (need_of job) → coins_in (ahead (after_put job)) ≡ 0
coins_put (StartPuts target mask counted) is = refl
coins_put (RoundPuts entry end) is = refl
coins_put (StopPuts target entry None) is = refl
coins_put (StopPuts target entry (Some end)) is = refl
coins_put (StopEnds target) is = refl
coins_put (OrderOpens target own halted) is = refl
coins_put (OrderCloses entry end) is = refl
coins_put (SalePuts id price) is = refl
coins_put job is = absurd is

none_after : (end : Option End) (new : Job) (kept : Option Job) (addr : ℕ) (report reported : List Entry)
    → coins_in (ahead new) ≡ 0 → Settles end new addr kept report reported → coins_by kept ≡ 0
none_after None new kept addr report reported none settled = ap coins_by settled.0 ∙ none
none_after (Some end) new kept addr report reported none settled = ap coins_by settled.0

put_clears : (job new : Job) (kept : Option Job) (addr : ℕ) (report reported : List Entry)
    → IsPut (need_of job) → new ≡ after_put job → Settles (end_of_job new) new addr kept report reported
    → coins_by kept ≡ 0
put_clears job new kept addr report reported is goes settled =
    none_after (end_of_job new) new kept addr report reported (ap (λ j. coins_in (ahead j)) goes ∙ coins_put job is) settled

-- a sale asks nothing, and its put ends it
sale_never_asks : (job : Job) (P : Type 0) → sells_only (Some job) ≡ true → need_of job ≡ need.Exchange → P
sale_never_asks (SalePuts id price) P sells asks = absurd cc
sale_never_asks job P sells asks = absurd cc

put_ends_sale : (job new : Job) (kept : Option Job) (addr : ℕ) (report reported : List Entry)
    → sells_only (Some job) ≡ true → new ≡ after_put job → Settles (end_of_job new) new addr kept report reported
    → kept ≡ None
put_ends_sale (SalePuts id price) new kept addr report reported sells goes settled =
    (subst (λ j. Settles (end_of_job j) j addr kept report reported) goes settled).0
put_ends_sale job new kept addr report reported sells goes settled = absurd cc

-- a job that is about to put a record needs that
is_put_by : (n : Need) (r : Record) → put_in n ≡ Some r → IsPut n
is_put_by n r due = subst IsPut (put_is n r (sym due)) tt

-- where something is asked, nothing is put
none_put : (job : Job) → need_of job ≡ need.Exchange → (P : Type 0) → IfSome (due_by (Some job)) (λ r. P)
none_put job asks P = subst (λ n. IfSome (put_in n) (λ r. P)) (sym asks) tt

some_put : (n : Need) (P : Type 0) → P → IfSome (put_in n) (λ r. P)
some_put need.Exchange P p = tt
some_put (need.Put entry) P p = p
some_put (need.Done end) P p = tt

-- what a desk's job frees by an exchange, and by a put
pub ask_frees : {L : Type 0} (gives : L → List ℕ → List ℕ → L → Type 0) (before after : L) (addr : ℕ) (job : Option Job)
    (desk : JobDesk) (report reported : List Entry)
    → is_some job ≡ true → is_running job ≡ true → due_by job ≡ None
    → IfSome job (λ old. Exchanges gives before after addr old desk.job report reported) → Frees job desk
ask_frees gives before after addr None desk report reported there runs none exchanges = absurd cc
ask_frees gives before after addr (Some job) desk report reported there runs none exchanges =
    let asks = asks_where_none job runs none in
    let most = put_left exchanges.new desk.job addr _ _ exchanges.settles in
    let less = exchanges.keeps.may_put in
    record {
      left = omega (arith, most, less);
      puts = none_put job asks _;
      reserves = ask_reserves job exchanges.new desk.job addr _ _ exchanges.keeps exchanges.settles;
      clears = none_put job asks _;
      sells = λ sells. sale_never_asks job _ sells asks;
    }

pub put_frees : (addr : ℕ) (job : Option Job) (r : Record) (desk : JobDesk) (report reported : List Entry)
    → is_some job ≡ true → due_by job ≡ Some r → IfSome job (λ old. Puts addr old r desk.job report reported)
    → Frees job desk
put_frees addr None r desk report reported there due puts = absurd cc
put_frees addr (Some job) r desk report reported there due puts =
    let is = is_put_by (need_of job) r due in
    let most = put_left (after_put job) desk.job addr _ _ puts.settles in
    let less = fewer_after job (after_put job) refl is in
    let none = put_clears job (after_put job) desk.job addr _ _ is refl puts.settles in
    record {
      left = omega (arith, most, less);
      puts = some_put (need_of job) _ (omega (arith, most, less));
      reserves = omega (arith, none);
      clears = some_put (need_of job) _ none;
      sells = λ sells. put_ends_sale job (after_put job) desk.job addr _ _ sells refl puts.settles;
    }

-- what is about to be put may be put
due_puts : (job : Job) → IfSome (put_in (need_of job)) (λ r. 1 ≤ puts_in (ahead job))
due_puts (StartPuts target mask counted) = omega arith
due_puts (RoundPuts entry end) = omega arith
due_puts (StopPuts target entry end) = omega arith
due_puts (StopEnds target) = omega arith
due_puts (OrderOpens target own halted) = omega arith
due_puts (OrderCloses entry end) = omega arith
due_puts (SalePuts id price) = omega arith
due_puts job = tt

pub due_left : (job : Option Job) → IfSome (due_by job) (λ r. 1 ≤ puts_left job)
due_left None = tt
due_left (Some job) = due_puts job

-- a job that begins

just_free : (job : Option Job) → busy_by job ≡ None → job ≡ None
just_free None e = refl
just_free (Some job) e = absurd cc

passes : (d : DeviceSetup) (job : Option Job) (state : EpochState) (owed : OrderState) (last : ℕ) (c : Command)
    → refusal_beside d job state owed last c ≡ None → Pass (state_fails (seen_at d job state owed last)) (state_tests c)
passes d job state owed last c free = all_pass (state_fails (seen_at d job state owed last)) (state_tests c) free

pub free_job : (d : DeviceSetup) (job : Option Job) (state : EpochState) (owed : OrderState) (last : ℕ) (c : Command)
    → is_halt c ≡ false → is_of_device c ≡ true → refusal_beside d job state owed last c ≡ None → job ≡ None
free_job d job state owed last command.Scan no_halt of_device free = absurd cc
free_job d job state owed last (command.Vend id price) no_halt of_device free = absurd cc
free_job d job state owed last (command.Halt addr) no_halt of_device free = absurd cc
free_job d job state owed last (command.Ident addr) no_halt of_device free =
    just_free job (passes d job state owed last (command.Ident addr) free).1.0
free_job d job state owed last c no_halt of_device free = just_free job (passes d job state owed last c free).1.1.0

-- the room that its command needs
plain_room : (new : Job) (owed : Option OpenOrder) (n : ℕ) → has_closes (ahead new) ≡ false → puts_in (ahead new) ≡ n
    → held_by (Some new) owed ≤ held_by None owed + n
plain_room new None n is puts = omega (arith, puts)
plain_room new (Some o) n is puts =
    subst (λ b. puts_in (ahead new) + order_holds b (Some o) ≤ 0 + 1 + n) (sym is) (omega (arith, puts))

closing_room : (new : Job) (owed : Option OpenOrder) (n : ℕ) → has_closes (ahead new) ≡ true → puts_in (ahead new) ≤ n
    → held_by (Some new) owed ≤ n
closing_room new None n is puts = omega (arith, puts)
closing_room new (Some o) n is puts =
    subst (λ b. puts_in (ahead new) + order_holds b (Some o) ≤ n) (sym is) (omega (arith, puts))

settles_room : (new : Job) (owed : Option OpenOrder) → IsTrue (is_some owed) → has_closes (ahead new) ≡ true
    → puts_in (ahead new) ≡ 1 → held_by (Some new) owed ≤ held_by None owed + 0
settles_room new None there is puts = absurd cc
settles_room new (Some o) there is puts = closing_room new (Some o) (0 + 1 + 0) is (omega (arith, puts))

-- an identification closes no order, puts nothing and reserves nothing
pub only_tells : (qs : List Request)
    → (has_closes (telling qs) ≡ false) × (puts_in (telling qs) ≡ 0) × (coins_in (telling qs) ≡ 0)
only_tells = told_fact (λ rows. (has_closes rows ≡ false) × (puts_in rows ≡ 0) × (coins_in rows ≡ 0)) (refl, refl, refl)
    (λ q later rows none. none)

room_by : (d : DeviceSetup) (job : Option Job) (state : EpochState) (owed : OrderState) (last : ℕ) (c : Command) (new : Job)
    → refusal_beside d job state owed last c ≡ None → ahead new ≡ rows_of d c
    → held_by (Some new) (order_of owed.order) ≤ held_by None (order_of owed.order) + need_in (rows_of d c)
room_by d job state owed last (command.Pay addr id count) new free rows =
    let puts : puts_in (ahead new) ≡ 2 = ap puts_in rows in
    let room = closing_room new (order_of owed.order) 2 (ap has_closes rows) (omega (arith, puts)) in
    omega (arith, room)
room_by d job state owed last (command.Settle addr) new free rows =
    settles_room new (order_of owed.order) (owed_where_free (order_of owed.order)
    (passes d job state owed last (command.Settle addr) free).1.1.1.0) (ap has_closes rows) (ap puts_in rows)
room_by d job state owed last (command.Start addr mask) new free rows =
    plain_room new _ 1 (ap has_closes rows) (ap puts_in rows)
room_by d job state owed last (command.Round addr) new free rows =
    plain_room new _ 1 (ap has_closes rows) (ap puts_in rows)
room_by d job state owed last (command.Stop addr) new free rows =
    plain_room new _ 2 (ap has_closes rows) (ap puts_in rows)
room_by d job state owed last (command.Ident addr) new free rows =
    let tells = only_tells (ident_requests d.body) in
    let room = plain_room new (order_of owed.order) 0 (ap has_closes rows ∙ tells.0) (ap puts_in rows ∙ tells.1) in
    omega (arith, room)
room_by d job state owed last c new free rows = plain_room new _ 0 (ap has_closes rows) (ap puts_in rows)

-- the rows of a command's job at its device
rows_there : (d : DeviceSetup) (c : Command) → is_of_device c ≡ true → rows_for (Some d) c ≡ rows_of d c
rows_there d command.Scan of_device = absurd cc
rows_there d (command.Vend id price) of_device = absurd cc
rows_there d c of_device = refl

pub rows_begin : (setup : Setup) (d : DeviceSetup) (c : Command) → is_of_device c ≡ true
    → device_at setup.devices (address_of c) ≡ Some d → rows_begun setup c ≡ rows_of d c
rows_begin setup d c of_device there = ap (λ found. rows_for found c) there ∙ rows_there d c of_device

pub begun_holds : (setup : Setup) (d : DeviceSetup) (job : Option Job) (state : EpochState) (owed : OrderState) (last : ℕ)
    (c : Command) (new : Job) → is_halt c ≡ false → is_of_device c ≡ true
    → refusal_beside d job state owed last c ≡ None → device_at setup.devices (address_of c) ≡ Some d
    → ahead new ≡ rows_of d c
    → held_by (Some new) (order_of owed.order) ≤ held_by job (order_of owed.order) + needed setup c
begun_holds setup d job state owed last c new no_halt of_device free there rows =
    subst (λ j. held_by (Some new) (order_of owed.order) ≤ held_by j (order_of owed.order) + needed setup c)
    (sym (free_job d job state owed last c no_halt of_device free))
    (subst (λ begun. held_by (Some new) (order_of owed.order) ≤ held_by None (order_of owed.order) + need_in begun)
    (sym (rows_begin setup d c of_device there)) (room_by d job state owed last c new free rows))

pub begun_reserves : (setup : Setup) (d : DeviceSetup) (job : Option Job) (state : EpochState) (owed : OrderState) (last : ℕ)
    (c : Command) (new : Job) → is_halt c ≡ false → is_of_device c ≡ true
    → refusal_beside d job state owed last c ≡ None → device_at setup.devices (address_of c) ≡ Some d
    → ahead new ≡ rows_of d c → coins_by (Some new) ≡ coins_by job + coins_in (rows_begun setup c)
begun_reserves setup d job state owed last c new no_halt of_device free there rows =
    let coins : coins_in (ahead new) ≡ coins_in (rows_begun setup c) =
    ap coins_in (rows ∙ sym (rows_begin setup d c of_device there)) in
    subst (λ j. coins_in (ahead new) ≡ coins_by j + coins_in (rows_begun setup c))
    (sym (free_job d job state owed last c no_halt of_device free)) (omega (arith, coins))

-- a sale that begins
sale_free : (job : Option Job) (id last : ℕ) → sale_refusal job id last ≡ None → job ≡ None
sale_free None id last free = refl
sale_free (Some job) id last free = absurd cc

pub sale_room : (job : Option Job) (id last : ℕ) (new : Job) (owed : Option OpenOrder)
    → sale_refusal job id last ≡ None → puts_in (ahead new) ≡ 1 → has_closes (ahead new) ≡ false
    → held_by (Some new) owed ≤ held_by job owed + 1
sale_room job id last new owed free puts closes =
    subst (λ j. held_by (Some new) owed ≤ held_by j owed + 1) (sym (sale_free job id last free))
    (plain_room new owed 1 closes puts)

pub sale_reserves : (job : Option Job) (id last price : ℕ) (new : Job) → sale_refusal job id last ≡ None
    → price_in (ahead new) ≡ price → price_by (Some new) ≡ price_by job + price
sale_reserves job id last price new free is =
    subst (λ j. price_in (ahead new) ≡ price_by j + price) (sym (sale_free job id last free)) (omega (arith, is))

pub sells_begun : (job : Job) (c : Command) → StandsSale job c [] → sells_only (Some job) ≡ true
sells_begun (SalePuts id price) c stands = refl
sells_begun (Done end) c stands =
    let none : [] ≡ put (record_of.Sold stands.id stands.price) ∷ [] = stands.sold in
    absurd cc
sells_begun job c stands = absurd stands

-- a halt
halt_rows : (found : Option DeviceSetup) (c : Command) → is_halt c ≡ true → rows_for found c ≡ []
halt_rows None (command.Halt addr) is = refl
halt_rows (Some d) (command.Halt addr) is = refl
halt_rows found c is = absurd cc

same_left : (old new : Job) (owed : Option OpenOrder) → has_closes (ahead new) ≡ has_closes (ahead old)
    → order_left (Some new) owed ≡ order_left (Some old) owed
same_left old new owed is = ap (λ b. order_holds b owed) is

pub halt_holds : (setup : Setup) (c : Command) (job : Option Job) (old new : Job) (owed : Option OpenOrder) → is_halt c ≡ true
    → job ≡ Some old → puts_in (ahead new) ≡ puts_in (ahead old) → has_closes (ahead new) ≡ has_closes (ahead old)
    → held_by (Some new) owed ≤ held_by job owed + needed setup c
halt_holds setup c job old new owed halt was puts closes =
    let same = same_left old new owed closes in
    let none = ap need_in (halt_rows (device_at setup.devices (address_of c)) c halt) in
    subst (λ j. held_by (Some new) owed ≤ held_by j owed + needed setup c) (sym was) (omega (arith, same, none, puts))

pub halt_reserves : (setup : Setup) (c : Command) (job : Option Job) (old new : Job) → is_halt c ≡ true
    → job ≡ Some old → coins_in (ahead new) ≡ coins_in (ahead old)
    → coins_by (Some new) ≡ coins_by job + coins_in (rows_begun setup c)
halt_reserves setup c job old new halt was coins =
    let none = ap coins_in (halt_rows (device_at setup.devices (address_of c)) c halt) in
    subst (λ j. coins_in (ahead new) ≡ coins_by j + coins_in (rows_begun setup c)) (sym was)
    (omega (arith, none, coins))

pub halt_puts : (job : Option Job) (old new : Job) (more : ℕ) → job ≡ Some old → puts_in (ahead new) ≡ puts_in (ahead old)
    → puts_left (Some new) ≤ puts_left job + more
halt_puts job old new more was puts =
    subst (λ j. puts_in (ahead new) ≤ puts_left j + more) (sym was) (omega (arith, puts))

-- a halt that isn't refused finds a job that can be halted
pub halt_finds : (d : DeviceSetup) (job : Option Job) (old : Job) → halting_refusal d job ≡ None → job ≡ Some old
    → has_waits (ahead old) ≡ true
halt_finds d job old free was =
    by_tests (is_hopper d.body) (has_waits (ahead old)) (subst (λ j. halting_refusal d j ≡ None) was free)
  where
    by_tests : (hopper waits : Bool) → option_or (unless hopper WrongKind) (unless waits NoPayout) ≡ None → waits ≡ true
    by_tests true true free = refl
    by_tests true false free = absurd cc
    by_tests false waits free = absurd cc
