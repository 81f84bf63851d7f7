-- How what all desks hold and reserve changes where one desk does.
use Rattle.std.proofs.Common.{◌≡◌, ℕ, zero, suc, ◌+◌, ◌-◌, ◌*◌, ◌≤◌, ◌<◌, true, List, [], ◌∷◌, ◌++◌, length, set, take, drop, get_or, refl, sym, ap, subst, ◌∙◌, Option, Some, None, arith}
use Rattle.std.specs.List.{position}
use Rattle.std.specs.Option.{IfSome}
use Rattle.std.specs.Prelude.{Err, Ok, OnOk, Result, option_and_then, slice_get}
use Rattle.std.proofs.Math.ListN.{length-set}
use Rattle.std.proofs.Math.Nat.{add-mul}
use Rattle.std.proofs.lemmas.List.{get_or-set_same}
use Rattle.std.proofs.lemmas.Option.{slice_get-get_or}
use Rattle.cct_model.specs.terms.wire.TheConstants.{BROADCAST, HOST}
use Rattle.cct_model.specs.terms.device.DeviceSetup.{DeviceSetup}
use Rattle.cct_model.specs.terms.device.Setup.{Setup}
use Rattle.cct_model.specs.lines.command.Command.{Command}
use Rattle.cct_model.specs.lines.command.Command.TheVariants as command
use Rattle.cct_model.specs.lines.command.CommandNo.{CommandNo}
use Rattle.cct_model.specs.lines.record.Record.{Record}
use Rattle.cct_model.specs.Exchange.{device_at}
use Rattle.cct_model.specs.Money.{coins_of, hopper_value}
use Rattle.cct_model.specs.Job.{address_of, ident_requests}
use Rattle.cct_model.specs.Rows.{rows_of}
use Rattle.cct_jobs.specs.declared.job.Job.{Job}
use Rattle.cct_jobs.specs.declared.job.Job.TheVariants.{SalePuts}
use Rattle.cct_jobs.specs.Ahead.{coins_in}
use Rattle.cct_jobs.specs.Jobs.{is_of_device}
use Rattle.cct_host.specs.declared.desk.JobDesk.{JobDesk}
use Rattle.cct_host.specs.declared.desks.Desks.{Desks}
use Rattle.cct_host.specs.Desk.{held_at, puts_at, reserved_over, sum_in}
use Rattle.cct_host.specs.Desks.{due_at_desk, held_of, puts_of, sending_at_desk}
use Rattle.cct_host.specs.Held.{coins_by, due_by, puts_left, sells_only, sending_by}
use Rattle.cct_host.specs.Running.{amount_of, rows_begun}
use Rattle.cct_host.proofs.Holding.{due_left, only_tells, rows_begin}
use Rattle.cct_host.proofs.Places.{is_at, refilled}

-- an answer passes on
pub ok_by : (result : Result Unit CommandNo) (P Q : Type 0) → OnOk result P → (P → Q) → OnOk result Q
ok_by (Ok taken) P Q p goes = goes p
ok_by (Err why) P Q p goes = tt

pub some_by : (found there : Option Record) (P Q : Type 0) → found ≡ there → IfSome there (λ r. P) → (P → Q)
    → IfSome found (λ r. Q)
some_by None there P Q is p goes = tt
some_by (Some r) there P Q is p goes = goes (subst (λ f. IfSome f (λ r. P)) (sym is) p)

-- where nothing may be put, nothing is due
nothing_due : (due : Option Record) (most : ℕ) → IfSome due (λ r. 1 ≤ most) → most ≡ 0 → due ≡ None
nothing_due None most some none = refl
nothing_due (Some r) most some none = absurd (omega (arith, some, none))

pub none_due : (job : Option Job) → puts_left job ≡ 0 → due_by job ≡ None
none_due job none = nothing_due (due_by job) (puts_left job) (due_left job) none

-- what is due at the address of all devices, where a scan puts nothing, and at the host's own
pub scan_due : (sale : JobDesk) (addr : ℕ) (there : Option JobDesk) → there ≡ None → addr ≡ BROADCAST
    → due_at_desk sale addr there ≡ None
scan_due sale addr there nobody is = ap (due_at_desk sale addr) nobody ∙ ap (λ a. due_at_desk sale a None) is

pub sale_due : (sale : JobDesk) (addr : ℕ) (there : Option JobDesk) → there ≡ None → addr ≡ HOST
    → due_at_desk sale addr there ≡ due_by sale.job
sale_due sale addr there nobody is = ap (due_at_desk sale addr) nobody ∙ ap (λ a. due_at_desk sale a None) is

-- what is sent at the address of all devices, and that a sale sends nothing
pub scan_sends : (scan : JobDesk) (addr : ℕ) (there : Option JobDesk) → there ≡ None → addr ≡ BROADCAST
    → sending_at_desk scan addr there ≡ sending_by scan.job
scan_sends scan addr there nobody is = ap (sending_at_desk scan addr) nobody ∙ ap (λ a. sending_at_desk scan a None) is

sale_never_sends : (job : Option Job) → sells_only job ≡ true → sending_by job ≡ None
sale_never_sends None sells = refl
sale_never_sends (Some (SalePuts id price)) sells = refl
sale_never_sends (Some job) sells = absurd cc

pub sale_sends : (scan sale : JobDesk) (addr : ℕ) (there : Option JobDesk) → there ≡ None → addr ≡ HOST
    → sells_only sale.job ≡ true → sending_by sale.job ≡ sending_at_desk scan addr there
sale_sends scan sale addr there nobody is sells =
    sale_never_sends sale.job sells
    ∙ sym (ap (sending_at_desk scan addr) nobody ∙ ap (λ a. sending_at_desk scan a None) is)

-- a sum over desks
sum_set : (f : JobDesk → ℕ) (ks : List JobDesk) (i : ℕ) (y x : JobDesk) → i < length ks
    → sum_in f (set ks i x) + f (get_or ks i y) ≡ sum_in f ks + f x
sum_set f [] i y x within = absurd (omega arith)
sum_set f (k ∷ ks) zero y x within = omega arith
sum_set f (k ∷ ks) (suc i) y x within = let rest = sum_set f ks i y x (omega arith) in omega arith

pub sum_turn : (f : JobDesk → ℕ) (ks items : List JobDesk) (i : ℕ) (y x : JobDesk) (m n : ℕ) → items ≡ ks
    → i < length ks → f x ≤ f (get_or items i y) + n
    → sum_in f (take (length ks) (set items i x ++ drop (length (set items i x)) ks)) + m ≤ sum_in f ks + m + n
sum_turn f ks items i y x m n lent within less =
    let turned = sum_set f ks i y x within in
    let here : f x ≤ f (get_or ks i y) + n = subst (λ ls. f x ≤ f (get_or ls i y) + n) lent less in
    subst (λ ls. sum_in f ls + m ≤ sum_in f ks + m + n) (sym (refilled ks items i x lent)) (omega arith)

pub sum_falls : (f : JobDesk → ℕ) (ks items : List JobDesk) (i : ℕ) (y x : JobDesk) (m : ℕ) → items ≡ ks
    → i < length ks → f x < f (get_or items i y)
    → sum_in f (take (length ks) (set items i x ++ drop (length (set items i x)) ks)) + m < sum_in f ks + m
sum_falls f ks items i y x m lent within less =
    let turned = sum_set f ks i y x within in
    let here : f x < f (get_or ks i y) = subst (λ ls. f x < f (get_or ls i y)) lent less in
    subst (λ ls. sum_in f ls + m < sum_in f ks + m) (sym (refilled ks items i x lent)) (omega arith)

pub sum_there : (f : JobDesk → ℕ) (ks : List JobDesk) (i : ℕ) (k : JobDesk) → i < length ks → k ≡ get_or ks i k
    → f k ≤ sum_in f ks
sum_there f [] i k within is = absurd (omega arith)
sum_there f (m ∷ ms) zero k within is = let same : f k ≡ f m = ap f is in omega arith
sum_there f (m ∷ ms) (suc i) k within is = let rest = sum_there f ms i k (omega arith) is in omega arith

-- what jobs may still put is held
sum_less : (f g : JobDesk → ℕ) (ks : List JobDesk) → ((k : JobDesk) → f k ≤ g k) → sum_in f ks ≤ sum_in g ks
sum_less f g [] less = omega arith
sum_less f g (k ∷ ks) less =
    let here = less k in
    let rest = sum_less f g ks less in
    omega arith

pub puts_held : (desks : Desks) → puts_of desks ≤ held_of desks
puts_held desks =
    let less : (k : JobDesk) → puts_at k ≤ held_at k = λ k. omega arith in
    let devices = sum_less puts_at held_at desks.devices.items less in
    let sale = less desks.sale in
    omega arith

-- what a command's job may put has room, where it had to have room for what it is held for
pub room_kept : (puts used before after held turned need most : ℕ) → used + before ≤ most → after ≤ before + puts
    → after ≤ turned → turned ≤ held + need → (1 ≤ puts → used + held + need ≤ most) → used + after ≤ most
room_kept zero used before after held turned need most room less within holds fits = omega arith
room_kept (suc puts) used before after held turned need most room less within holds fits =
    let enough : used + held + need ≤ most = fits (omega arith) in
    omega arith

-- what is reserved
first_changes : (new old rest : ℕ) → new + rest + old ≡ old + rest + new
first_changes new old rest = omega arith

rest_changes : (first after before old new : ℕ) → after + old ≡ before + new
    → first + after + old ≡ first + before + new
rest_changes first after before old new is = omega arith

reserved_set : (setup : Setup) (ds : List DeviceSetup) (ks : List JobDesk) (i : ℕ) (d : DeviceSetup) (y x : JobDesk)
    → length ks ≡ length ds → i < length ds → d ≡ get_or ds i d
    → reserved_over setup ds (set ks i x) + coins_of setup d.addr (coins_by (get_or ks i y).job)
    ≡ reserved_over setup ds ks + coins_of setup d.addr (coins_by x.job)
reserved_set setup [] ks i d y x many within is = absurd (omega arith)
reserved_set setup (e ∷ es) [] i d y x many within is = absurd (omega arith)
reserved_set setup (e ∷ es) (k ∷ ks) zero d y x many within is =
    subst (λ (f : DeviceSetup). coins_of setup e.addr (coins_by x.job) + reserved_over setup es ks
    + coins_of setup f.addr (coins_by k.job)
    ≡ coins_of setup e.addr (coins_by k.job) + reserved_over setup es ks + coins_of setup f.addr (coins_by x.job)) (sym is)
    (first_changes (coins_of setup e.addr (coins_by x.job)) (coins_of setup e.addr (coins_by k.job))
    (reserved_over setup es ks))
reserved_set setup (e ∷ es) (k ∷ ks) (suc i) d y x many within is =
    rest_changes (coins_of setup e.addr (coins_by k.job)) (reserved_over setup es (set ks i x)) (reserved_over setup es ks)
    (coins_of setup d.addr (coins_by (get_or ks i y).job)) (coins_of setup d.addr (coins_by x.job))
    (reserved_set setup es ks i d y x (omega arith) (omega arith) is)

more_sum : (after before old new asked : ℕ) → after + old ≡ before + new → new ≡ old + asked → after ≡ before + asked
more_sum after before old new asked turned is = omega arith

beside_price : (after before price freed : ℕ) → after + freed ≡ before → after + price + freed ≡ before + price
beside_price after before price freed is = omega arith

more_beside : (after before price asked : ℕ) → after ≡ before + asked → after + price ≡ before + price + asked
more_beside after before price asked is = omega arith

-- a command reserves
more_coins : (after before value old asked new : ℕ) → after + old * value ≡ before + new * value → new ≡ old + asked
    → after ≡ before + asked * value
more_coins after before value old asked new turned is =
    more_sum after before (old * value) (new * value) (asked * value) turned
    (ap (λ n. n * value) is ∙ add-mul old asked value)

pub reserved_turn : (setup : Setup) (ks items : List JobDesk) (i : ℕ) (d : DeviceSetup) (addr : ℕ) (y x : JobDesk)
    (asked price : ℕ) → items ≡ ks → length ks ≡ length setup.devices → i < length setup.devices
    → d ≡ get_or setup.devices i d → d.addr ≡ addr → coins_by x.job ≡ coins_by (get_or items i y).job + asked
    → reserved_over setup setup.devices (take (length ks) (set items i x ++ drop (length (set items i x)) ks)) + price
    ≡ reserved_over setup setup.devices ks + price + coins_of setup addr asked
reserved_turn setup ks items i d addr y x asked price lent many within is here coins =
    ap (λ ls. reserved_over setup setup.devices ls + price) (refilled ks items i x lent)
    ∙ subst (λ a. reserved_over setup setup.devices (set ks i x) + price
    ≡ reserved_over setup setup.devices ks + price + coins_of setup a asked) here
    (more_beside _ _ price _
    (more_coins _ _ (hopper_value (device_at setup.devices d.addr)) (coins_by (get_or ks i y).job) asked
    (coins_by x.job) (reserved_set setup setup.devices ks i d y x many within is)
    (subst (λ ls. coins_by x.job ≡ coins_by (get_or ls i y).job + asked) lent coins)))

pub no_coins : (value : ℕ) → 0 * value ≡ 0
no_coins value = omega arith

-- what a command at a device reserves
rows_ask : (setup : Setup) (d : DeviceSetup) (c : Command) (addr : ℕ) → is_of_device c ≡ true → address_of c ≡ addr
    → coins_of setup addr (coins_in (rows_of d c)) ≡ amount_of setup c
rows_ask setup d (command.Pay at id count) addr of_device here = ap (λ a. coins_of setup a count) (sym here)
rows_ask setup d (command.Vend id price) addr of_device here = absurd cc
rows_ask setup d (command.Ident at) addr of_device here =
    ap (coins_of setup addr) (only_tells (ident_requests d.body)).2
    ∙ no_coins (hopper_value (device_at setup.devices addr))
rows_ask setup d c addr of_device here = no_coins (hopper_value (device_at setup.devices addr))

pub amount_asked : (setup : Setup) (d : DeviceSetup) (c : Command) (addr : ℕ) → is_of_device c ≡ true
    → address_of c ≡ addr → device_at setup.devices (address_of c) ≡ Some d
    → coins_of setup addr (coins_in (rows_begun setup c)) ≡ amount_of setup c
amount_asked setup d c addr of_device here there =
    ap (λ rows. coins_of setup addr (coins_in rows)) (rows_begin setup d c of_device there)
    ∙ rows_ask setup d c addr of_device here

-- an attempt frees
less_value : (old new value : ℕ) → new ≤ old → new * value ≤ old * value
less_value old new value less =
    let whole : old ≡ old - new + new = omega arith in
    let both : old * value ≡ (old - new) * value + new * value =
    ap (λ n. n * value) whole ∙ add-mul (old - new) new value in
    omega arith

fewer : (after before old new was now : ℕ) → after + old ≡ before + new → new ≤ old → was ≡ old → now ≡ new
    → after + (was - now) ≡ before
fewer after before old new was now turned less was_is now_is = omega arith

pub less_coins : (setup : Setup) (addr old new was now : ℕ) → new ≤ old → was ≡ coins_of setup addr old
    → now ≡ coins_of setup addr new → now ≤ was
less_coins setup addr old new was now less was_is now_is =
    let value = less_value old new (hopper_value (device_at setup.devices addr)) less in
    omega arith

pub reserved_freed : (setup : Setup) (ks items : List JobDesk) (i : ℕ) (d : DeviceSetup) (addr : ℕ) (y x : JobDesk)
    (was now price : ℕ) → items ≡ ks → length ks ≡ length setup.devices → i < length setup.devices
    → d ≡ get_or setup.devices i d → d.addr ≡ addr → was ≡ coins_of setup addr (coins_by (get_or items i y).job)
    → now ≡ coins_of setup addr (coins_by x.job) → coins_by x.job ≤ coins_by (get_or items i y).job
    → reserved_over setup setup.devices (take (length ks) (set items i x ++ drop (length (set items i x)) ks)) + price
    + (was - now) ≡ reserved_over setup setup.devices ks + price
reserved_freed setup ks items i d addr y x was now price lent many within is here was_is now_is less =
    let turned = reserved_set setup setup.devices ks i d y x many within is in
    let first : was ≡ coins_of setup d.addr (coins_by (get_or ks i y).job) =
    was_is ∙ ap (λ a. coins_of setup a (coins_by (get_or items i y).job)) (sym here)
    ∙ ap (λ ls. coins_of setup d.addr (coins_by (get_or ls i y).job)) lent in
    let then_is : now ≡ coins_of setup d.addr (coins_by x.job) =
    now_is ∙ ap (λ a. coins_of setup a (coins_by x.job)) (sym here) in
    let fell : coins_of setup d.addr (coins_by x.job) ≤ coins_of setup d.addr (coins_by (get_or ks i y).job) =
    less_value (coins_by (get_or ks i y).job) (coins_by x.job) (hopper_value (device_at setup.devices d.addr))
    (subst (λ ls. coins_by x.job ≤ coins_by (get_or ls i y).job) lent less) in
    ap (λ ls. reserved_over setup setup.devices ls + price + (was - now)) (refilled ks items i x lent)
    ∙ beside_price _ _ price (was - now) (fewer _ _ _ _ was now turned fell first then_is)

-- the desk at an address after it changed
pub desk_turned : (ds : List DeviceSetup) (ks items : List JobDesk) (addr i : ℕ) (x : JobDesk) → items ≡ ks
    → i < length ks → position (is_at addr) ds ≡ Some i
    → option_and_then (slice_get (take (length ks) (set items i x ++ drop (length (set items i x)) ks)))
    (position (is_at addr) ds) ≡ Some x
desk_turned ds ks items addr i x lent within found =
    ap (option_and_then (slice_get (take (length ks) (set items i x ++ drop (length (set items i x)) ks)))) found
    ∙ ap (λ ls. slice_get ls i) (refilled ks items i x lent)
    ∙ slice_get-get_or (set ks i x) i x (subst (λ n. i < n) (sym (length-set ks i x)) within)
    ∙ ap Some (get_or-set_same ks i x x within)
