-- How many records are held, what is about to be put, and what jobs reserve, by the lines of the places.
use Rattle.std.proofs.Common.{◌≡◌, ℕ, suc, ◌+◌, ◌*◌, ◌≤◌, ◌==◌, Bool, true, false, cond, List, [], ◌∷◌, length, refl, sym, ap, ap₂, subst, ◌∙◌, Option, Some, None, arith}
use Rattle.std.specs.Prelude.{is_some, not}
use Rattle.std.specs.Option.{IfSome}
use Rattle.cct_model.specs.terms.wire.TheConstants.{HOST}
use Rattle.cct_model.specs.terms.device.DeviceSetup.{DeviceSetup}
use Rattle.cct_model.specs.terms.device.Setup.{Setup}
use Rattle.cct_model.specs.lines.command.Command.{Command}
use Rattle.cct_model.specs.lines.entry.End.{End}
use Rattle.cct_model.specs.lines.entry.Entry.{Entry}
use Rattle.cct_model.specs.declared.judging.EpochState.{EpochState}
use Rattle.cct_model.specs.declared.judging.OpenOrder.{OpenOrder}
use Rattle.cct_model.specs.Exchange.{device_at}
use Rattle.cct_model.specs.Job as model
use Rattle.cct_model.specs.Rows.{TableRow, has_closes, puts_in, row, row_of_sale}
use Rattle.cct_model.specs.Legal.{due_of, due_of_sale, due_there, record_due}
use Rattle.cct_model.specs.Line.{Line}
use Rattle.cct_model.specs.Rows as table
use Rattle.cct_model.specs.Money.{coins_of, freed_by, hopper_value, reserved_at_work, reserved_by, sum_over, reserved_by_sale}
use Rattle.cct_model.specs.Order.{order}
use Rattle.cct_model.specs.Refusal.{held, holds_at, job_holds, order_holds, sale_holds}
use Rattle.cct_model.specs.Transcript.{lines_of, sale_lines}
use Rattle.cct_jobs.specs.declared.job.Job.{Job}
use Rattle.cct_jobs.specs.declared.job.Job.TheVariants.{Asks}
use Rattle.cct_jobs.specs.declared.job.Need.{Need}
use Rattle.cct_jobs.specs.declared.job.Need.TheVariants as need
use Rattle.cct_jobs.specs.declared.owed.Owed.{Owed}
use Rattle.cct_jobs.specs.Ahead.{ahead, coins_in, price_in}
use Rattle.cct_jobs.specs.Jobs.{Needs, Stands, end_of_job, need_of, newest_end, order_of, put_in}
use Rattle.cct_jobs.specs.Sales.{NeedsSale, StandsSale, newest_sale_end}
use Rattle.cct_jobs.proofs.Needs.{end_known, may_put_known, need_known}
use Rattle.cct_jobs.proofs.Reserves.{closes_known, frees_by, reserves_known}
use Rattle.cct_jobs.proofs.StageFacts.{of_stage}
use Rattle.cct_jobs.proofs.Sales.{price_freed, sale_end_known, sale_may_put, sale_need_known, sale_price}
use Rattle.cct_host.specs.declared.desk.JobDesk.{JobDesk}
use Rattle.cct_host.specs.declared.desks.Desks.{Desks}
use Rattle.cct_host.specs.Desk.{AllSit, Sits, Works, held_at, held_in, reserved_over}
use Rattle.cct_host.specs.Desks.{StandsFor, amount_at_desk, due_at_desk, held_of, reserved_of, setup_of}
use Rattle.cct_host.specs.Held.{coins_by, due_by, held_by, order_left, price_by, puts_left}
use Rattle.cct_host.specs.Place.{device, sales}
use Rattle.cct_host.specs.Running.{is_running}

-- a job puts two records at most

few_puts : (job : Job) → puts_in (ahead job) ≤ 2
few_puts (Asks target stage failed) = (of_stage stage target).puts
few_puts job = omega arith

pub few_left : (job : Job) (n : ℕ) → n ≡ puts_in (ahead job) → n ≤ 2
few_left job n is = let few = few_puts job in omega arith

-- where it reserves coins, it is still to put a record

one_more : (n p : ℕ) → n ≤ 255 * p → n ≤ 255 * suc p
one_more n p few = omega (arith, few)

few_coins : (rows : List TableRow) → coins_in rows ≤ 255 → coins_in rows ≤ 255 * puts_in rows
few_coins [] few = omega arith
few_coins (table.asks_for request behind ∷ rows) few = few_coins rows few
few_coins (table.asks_once request behind without ∷ rows) few = few_coins rows few
few_coins (table.waits_for_coins ∷ rows) few = few_coins rows few
few_coins (table.puts_due (table.new_epoch mask) behind ∷ rows) few = one_more _ _ (few_coins rows few)
few_coins (table.puts_due table.reading behind ∷ rows) few = one_more _ _ (few_coins rows few)
few_coins (table.puts_due table.epoch_end behind ∷ rows) few = one_more _ _ (few_coins rows few)
few_coins (table.puts_due (table.new_order id count) behind ∷ rows) few = omega (arith, few)
few_coins (table.puts_due table.order_end behind ∷ rows) few = one_more _ _ (few_coins rows few)
few_coins (table.puts_due (table.sale id price) behind ∷ rows) few = one_more _ _ (few_coins rows few)

pub coins_left : (job : Job) (n : ℕ) → n ≡ coins_in (ahead job) → n ≤ 255 → n ≤ 255 * puts_in (ahead job)
coins_left job n is few =
    let most = few_coins (ahead job) (omega (arith, is, few)) in
    omega (arith, is, most)

-- at most three records are held for a desk

few_at_work : (job : Option Job) → puts_left job ≤ 2
few_at_work None = omega arith
few_at_work (Some job) = few_puts job

one_order : (closes : Bool) (owed : Option OpenOrder) → order_holds closes owed ≤ 1
one_order true None = omega arith
one_order true (Some o) = omega arith
one_order false None = omega arith
one_order false (Some o) = omega arith

one_left : (job : Option Job) (owed : Option OpenOrder) → order_left job owed ≤ 1
one_left None owed = one_order false owed
one_left (Some job) owed = one_order (has_closes (ahead job)) owed

few_held : (k : JobDesk) → held_at k ≤ 3
few_held k =
    let few = few_at_work k.job in
    let one = one_left k.job (order_of k.orders.order) in
    omega arith

few_held_in : (ks : List JobDesk) → held_in ks ≤ 3 * length ks
few_held_in [] = omega arith
few_held_in (k ∷ ks) = let here = few_held k in let rest = few_held_in ks in omega arith

pub few_held_of : (desks : Desks) → held_of desks ≤ 3 * (length desks.devices.items + 1)
few_held_of desks =
    let each = few_held_in desks.devices.items in
    let sale = few_held desks.sale in
    omega arith

-- a job that runs, by its lines

none_by : (end : Option End) → not (is_some end) ≡ true → end ≡ None
none_by None runs = refl
none_by (Some end) runs = absurd cc

on_of : (d : DeviceSetup) (job : Job) (c : Command) (since : List Line) (state : EpochState) (owed : Option OpenOrder)
    → is_running (Some job) ≡ true → Stands d job c since state owed → newest_end d c since state ≡ None
on_of d job c since state owed runs at =
    let is : end_of_job job ≡ newest_end d c since state = end_known d job c since state owed _ refl at in
    sym is ∙ none_by (end_of_job job) runs

plus_none : (n : ℕ) → n + 0 ≡ n
plus_none n = omega arith

-- what it holds

held_works : (d : DeviceSetup) (lines : List Line) (job : Option Job) (j : model.Job) (owed : Option OpenOrder)
    → is_running job ≡ true → Works (device d) job j (model.epoch lines) (order lines) → owed ≡ order lines
    → held_by job owed ≡ job_holds d (model.epoch lines) j + order_holds (table.closes_order d j) (order lines)
held_works d lines None model.free owed runs works is = ap (λ o. 0 + order_holds false o) is
held_works d lines (Some job) (model.works c since) owed runs works is =
    let on = on_of d job c since _ _ runs works in
    ap₂ (λ m n. m + n) (may_put_known d job c since _ _ _ refl works on)
    (ap (λ b. order_holds b owed) (closes_known d job c since _ _ _ refl works on)
    ∙ ap (order_holds (table.closes_order d (model.works c since))) is)
held_works d lines None (model.works c since) owed runs works is = absurd works
held_works d lines (Some job) model.free owed runs works is = absurd works

held_desk : (d : DeviceSetup) (k : JobDesk) (past : List Entry) → Sits past (device d) k → held_at k ≡ holds_at past d
held_desk d k past sits = held_works d (lines_of d past) k.job _ _ k.runs sits.works sits.knows.1

held_over : (ds : List DeviceSetup) (ks : List JobDesk) (past : List Entry) → AllSit past ds ks
    → held_in ks ≡ sum_over (holds_at past) ds
held_over [] [] past all = refl
held_over [] (k ∷ ks) past all = absurd all
held_over (d ∷ ds) [] past all = absurd all
held_over (d ∷ ds) (k ∷ ks) past all =
    ap₂ (λ m n. m + n) (held_desk d k past all.0) (held_over ds ks past all.1)

sale_on : (job : Job) (c : Command) (since : List Line) → is_running (Some job) ≡ true → StandsSale job c since
    → newest_sale_end c since ≡ None
sale_on job c since runs at =
    let is : end_of_job job ≡ newest_sale_end c since = sale_end_known job c since _ refl at in
    sym is ∙ none_by (end_of_job job) runs

sale_held_works : (job : Option Job) (j : model.Job) (owed : Option Owed) (state : EpochState)
    (left : Option OpenOrder) → is_running job ≡ true → Works sales job j state left → owed ≡ None
    → held_by job (order_of owed) ≡ sale_holds j
sale_held_works None model.free owed state left runs works none = ap (λ o. held_by None (order_of o)) none
sale_held_works (Some job) (model.works c since) owed state left runs works none =
    ap (λ o. held_by (Some job) (order_of o)) none ∙ plus_none (puts_in (ahead job))
    ∙ sale_may_put job c since _ refl works (sale_on job c since runs works)
sale_held_works None (model.works c since) owed state left runs works none = absurd works
sale_held_works (Some job) model.free owed state left runs works none = absurd works

sale_held : (k : JobDesk) (past : List Entry) → Sits past sales k
    → held_at k ≡ sale_holds (model.job (sale_lines past))
sale_held k past sits = sale_held_works k.job _ k.orders.order _ _ k.runs sits.works sits.knows.0

pub held_is : (desks : Desks) (past : List Entry) → StandsFor desks past → held_of desks ≡ held (setup_of desks) past
held_is desks past stands =
    ap₂ (λ m n. m + n) (held_over (setup_of desks).devices desks.devices.items past stands.devices)
    (sale_held desks.sale past stands.sale)

-- what it is about to put

due_needed : (d : DeviceSetup) (n : Need) (c : Command) (since : List Line) (state : EpochState)
    (owed : Option OpenOrder) → Needs n d c since state owed → newest_end d c since state ≡ None
    → put_in n ≡ record_due (row d c since state owed)
due_needed d need.Exchange c since state owed needs on = sym (ap record_due needs.row_is)
due_needed d (need.Put entry) c since state owed needs on = sym (ap record_due needs.row_is)
due_needed d (need.Done end) c since state owed needs on = absurd cc

due_works : (d : DeviceSetup) (lines : List Line) (job : Option Job) (j : model.Job) → is_running job ≡ true
    → Works (device d) job j (model.epoch lines) (order lines) → due_by job ≡ due_of d lines j
due_works d lines None model.free runs works = refl
due_works d lines (Some job) (model.works c since) runs works =
    due_needed d (need_of job) c since _ _ (need_known d job c since _ _ _ refl works)
    (on_of d job c since _ _ runs works)
due_works d lines None (model.works c since) runs works = absurd works
due_works d lines (Some job) model.free runs works = absurd works

pub due_is : (setup : Setup) (d : DeviceSetup) (k : JobDesk) (past : List Entry) (addr : ℕ) (found : Option DeviceSetup)
    → found ≡ Some d → Sits past (device d) k → due_by k.job ≡ due_there past addr found
due_is setup d k past addr found is sits =
    due_works d (lines_of d past) k.job _ k.runs sits.works ∙ sym (ap (due_there past addr) is)

sale_due_needed : (n : Need) (c : Command) (since : List Line) → NeedsSale n c since → newest_sale_end c since ≡ None
    → put_in n ≡ record_due (row_of_sale c since)
sale_due_needed need.Exchange c since needs on = absurd needs
sale_due_needed (need.Put entry) c since needs on = sym (ap record_due needs)
sale_due_needed (need.Done end) c since needs on = absurd cc

sale_due_works : (job : Option Job) (j : model.Job) (state : EpochState) (owed : Option OpenOrder)
    → is_running job ≡ true → Works sales job j state owed → due_by job ≡ due_of_sale j
sale_due_works None model.free state owed runs works = refl
sale_due_works (Some job) (model.works c since) state owed runs works =
    sale_due_needed (need_of job) c since (sale_need_known job c since _ refl works)
    (sale_on job c since runs works)
sale_due_works None (model.works c since) state owed runs works = absurd works
sale_due_works (Some job) model.free state owed runs works = absurd works

bare_due : (host : Bool) (k : JobDesk) (past : List Entry) → Sits past sales k
    → cond host (due_by k.job) None ≡ cond host (due_of_sale (model.job (sale_lines past))) None
bare_due true k past sits = sale_due_works k.job _ _ _ k.runs sits.works
bare_due false k past sits = refl

pub bare_due_is : (k : JobDesk) (past : List Entry) (addr : ℕ) (found : Option DeviceSetup) → found ≡ None
    → Sits past sales k → due_at_desk k addr None ≡ due_there past addr found
bare_due_is k past addr found is sits = bare_due (addr == HOST) k past sits ∙ sym (ap (due_there past addr) is)

-- what it reserves

no_coins : (value : ℕ) → 0 * value ≡ 0
no_coins value = omega arith

reserved_works : (setup : Setup) (d : DeviceSetup) (lines : List Line) (job : Option Job) (j : model.Job)
    → is_running job ≡ true → Works (device d) job j (model.epoch lines) (order lines)
    → coins_of setup d.addr (coins_by job) ≡ reserved_by setup d j
reserved_works setup d lines None model.free runs works = no_coins (hopper_value (device_at setup.devices d.addr))
reserved_works setup d lines (Some job) (model.works c since) runs works =
    reserves_known setup d job c since _ _ _ refl works (on_of d job c since _ _ runs works)
reserved_works setup d lines None (model.works c since) runs works = absurd works
reserved_works setup d lines (Some job) model.free runs works = absurd works

reserved_each : (setup : Setup) (ds : List DeviceSetup) (ks : List JobDesk) (past : List Entry) → AllSit past ds ks
    → reserved_over setup ds ks ≡ sum_over (λ d. reserved_by setup d (model.job (lines_of d past))) ds
reserved_each setup [] ks past all = refl
reserved_each setup (d ∷ ds) [] past all = absurd all
reserved_each setup (d ∷ ds) (k ∷ ks) past all =
    ap₂ (λ m n. m + n) (reserved_works setup d (lines_of d past) k.job _ k.runs all.0.works)
    (reserved_each setup ds ks past all.1)

price_works : (setup : Setup) (job : Option Job) (j : model.Job) (state : EpochState) (owed : Option OpenOrder)
    → is_running job ≡ true → Works sales job j state owed → price_by job ≡ reserved_by_sale setup j
price_works setup None model.free state owed runs works = refl
price_works setup (Some job) (model.works c since) state owed runs works =
    sale_price setup job c since _ refl works (sale_on job c since runs works)
price_works setup None (model.works c since) state owed runs works = absurd works
price_works setup (Some job) model.free state owed runs works = absurd works

pub reserved_is : (desks : Desks) (past : List Entry) → StandsFor desks past
    → reserved_of desks ≡ reserved_at_work (setup_of desks) past
reserved_is desks past stands =
    ap₂ (λ m n. m + n)
    (reserved_each (setup_of desks) (setup_of desks).devices desks.devices.items past stands.devices)
    (price_works (setup_of desks) desks.sale.job _ _ _ desks.sale.runs stands.sale.works)

-- the record that is due frees just that

frees_need : (n : Need) (setup : Setup) (d : DeviceSetup) (job : Job) (c : Command) (since : List Line)
    (state : EpochState) (owed : Option OpenOrder) → need_of job ≡ n → Stands d job c since state owed
    → IfSome (put_in n) (λ r. coins_of setup d.addr (coins_in (ahead job)) ≡ freed_by setup r)
frees_need need.Exchange setup d job c since state owed is at = tt
frees_need (need.Put r) setup d job c since state owed is at = frees_by setup d job c since state owed r is at
frees_need (need.Done end) setup d job c since state owed is at = tt

frees_works : (setup : Setup) (d : DeviceSetup) (job : Option Job) (j : model.Job) (state : EpochState)
    (owed : Option OpenOrder) → Works (device d) job j state owed
    → IfSome (due_by job) (λ r. coins_of setup d.addr (coins_by job) ≡ freed_by setup r)
frees_works setup d None j state owed works = tt
frees_works setup d (Some job) (model.works c since) state owed works =
    frees_need (need_of job) setup d job c since state owed refl works
frees_works setup d (Some job) model.free state owed works = absurd works

pub frees_is : (setup : Setup) (d : DeviceSetup) (k sale : JobDesk) (past : List Entry) (addr amount : ℕ)
    (found : Option JobDesk) → found ≡ Some k → d.addr ≡ addr → amount ≡ coins_of setup addr (coins_by k.job)
    → Sits past (device d) k → IfSome (due_at_desk sale addr found) (λ r. amount ≡ freed_by setup r)
frees_is setup d k sale past addr amount found is here amount_is sits =
    subst (λ x. IfSome (due_at_desk sale addr x) (λ r. amount ≡ freed_by setup r)) (sym is)
    (subst (λ n. IfSome (due_by k.job) (λ r. n ≡ freed_by setup r)) (sym amount_is)
    (subst (λ a. IfSome (due_by k.job) (λ r. coins_of setup a (coins_by k.job) ≡ freed_by setup r)) here
    (frees_works setup d k.job _ _ _ sits.works)))

sale_frees_need : (n : Need) (setup : Setup) (job : Job) (c : Command) (since : List Line) → need_of job ≡ n
    → StandsSale job c since → IfSome (put_in n) (λ r. price_in (ahead job) ≡ freed_by setup r)
sale_frees_need need.Exchange setup job c since is at = tt
sale_frees_need (need.Put r) setup job c since is at = price_freed setup job c since r is at
sale_frees_need (need.Done end) setup job c since is at = tt

sale_frees_works : (setup : Setup) (job : Option Job) (j : model.Job) (state : EpochState) (owed : Option OpenOrder)
    → Works sales job j state owed → IfSome (due_by job) (λ r. price_by job ≡ freed_by setup r)
sale_frees_works setup None j state owed works = tt
sale_frees_works setup (Some job) (model.works c since) state owed works =
    sale_frees_need (need_of job) setup job c since refl works
sale_frees_works setup (Some job) model.free state owed works = absurd works

bare_frees : (host : Bool) (setup : Setup) (k : JobDesk) (past : List Entry) → Sits past sales k
    → IfSome (cond host (due_by k.job) None) (λ r. cond host (price_by k.job) 0 ≡ freed_by setup r)
bare_frees true setup k past sits = sale_frees_works setup k.job _ _ _ sits.works
bare_frees false setup k past sits = tt

pub bare_frees_is : (setup : Setup) (sale : JobDesk) (past : List Entry) (addr amount : ℕ) (found : Option JobDesk)
    → found ≡ None → amount ≡ amount_at_desk setup sale addr None → Sits past sales sale
    → IfSome (due_at_desk sale addr found) (λ r. amount ≡ freed_by setup r)
bare_frees_is setup sale past addr amount found is amount_is sits =
    subst (λ x. IfSome (due_at_desk sale addr x) (λ r. amount ≡ freed_by setup r)) (sym is)
    (subst (λ n. IfSome (due_at_desk sale addr None) (λ r. n ≡ freed_by setup r)) (sym amount_is)
    (bare_frees (addr == HOST) setup sale past sits))
