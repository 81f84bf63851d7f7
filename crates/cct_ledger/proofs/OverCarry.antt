-- A ledger that begins with a carry: the orders that it keeps, what they are worth, and for which records it stands.
use Rattle.std.proofs.Common.{◌≡◌, ◌≢◌, ℕ, ◌+◌, ◌≤◌, ◌==◌, Bool, true, false, cond, ◌||◌, List, [], ◌∷◌, length, map, sum_by, Option, Some, None, option_map, refl, ap, sym, ◌∙◌, subst, arith, eq-eqb, eqb-true, ne_eqb}
use Rattle.std.specs.List.{list_any}
use Rattle.std.specs.Option.{option_map_or}
use Rattle.cct_model.specs.terms.device.DeviceSetup.{DeviceSetup}
use Rattle.cct_model.specs.terms.device.Setup.{Setup}
use Rattle.cct_model.specs.lines.record.Record.{Record}
use Rattle.cct_model.specs.lines.carry.Carry.{Carry}
use Rattle.cct_model.specs.lines.carry.CarryOrder.{CarryOrder}
use Rattle.cct_model.specs.declared.judging.OpenOrder.{OpenOrder}
use Rattle.cct_model.specs.Carried.{addr_of_order, first_with}
use Rattle.cct_model.specs.Carry.{carry, order_from, order_held, owed_by}
use Rattle.cct_model.specs.Exchange.{device_at}
use Rattle.cct_model.specs.Following.{all_follow}
use Rattle.cct_model.specs.Money.{amount, coins_of, odd_in, reserved_in, sum_over}
use Rattle.cct_model.specs.Setup.{AreDistinct, IsSoundSetup}
use Rattle.cct_laws.proofs.money.Covered.{covered_all}
use Rattle.cct_journal_carry.proofs.Carried.{available_carried, owed_carried}
use Rattle.cct_journal_carry.proofs.Resumed.{named_looked_up, opened_looked_up, orders_looked_up}
use Rattle.cct_ledger.specs.Ledger.{StandsFor, setup_of}
use Rattle.cct_ledger.specs.Orders.{KeepsOrders, has_id}
use Rattle.cct_ledger.specs.Resumed.{IsResumed}
use Rattle.cct_ledger.specs.declared.ledger.Ledger.{Ledger}
use Rattle.cct_ledger.proofs.Places.{sum_over-map}

-- what the orders at the devices are worth

-- one order, at no device
nowhere_worth : (addr worth : ℕ) (ds : List DeviceSetup) → device_at ds addr ≡ None →
    sum_over (λ d. cond (addr == d.addr) worth 0) ds ≡ 0
nowhere_worth addr worth [] none = refl
nowhere_worth addr worth (d ∷ ds) none =
    let apart : addr ≢ d.addr = λ same. cc_none (eq-eqb d.addr addr (sym same)) none in
    let rest = nowhere_worth addr worth ds (later (d.addr == addr) none) in
    let own = ap (λ b. cond b worth 0) (ne_eqb addr d.addr apart) in
    omega arith
  where
    cc_none : (d.addr == addr) ≡ true → cond (d.addr == addr) (Some d) (device_at ds addr) ≡ None → ⊥
    cc_none test found = absurd cc

    later : (here : Bool) → cond here (Some d) (device_at ds addr) ≡ None → device_at ds addr ≡ None
    later true found = absurd cc
    later false found = found

-- at one device at most
one_worth : (addr worth : ℕ) (ds : List DeviceSetup) → AreDistinct ds →
    sum_over (λ d. cond (addr == d.addr) worth 0) ds ≤ worth
one_worth addr worth [] distinct = omega arith
one_worth addr worth (d ∷ ds) distinct =
    by_here (addr == d.addr) refl (one_worth addr worth ds distinct.1)
  where
    by_here : (here : Bool) → (addr == d.addr) ≡ here → sum_over (λ d. cond (addr == d.addr) worth 0) ds ≤ worth →
        cond here worth 0 + sum_over (λ d. cond (addr == d.addr) worth 0) ds ≤ worth
    by_here true test rest =
        let none = nowhere_worth addr worth ds (ap (device_at ds) (eqb-true addr d.addr test) ∙ distinct.0) in
        omega arith
    by_here false test rest = omega arith

-- the order of an address among these
abbrev order_among : List CarryOrder → DeviceSetup → Option OpenOrder
order_among orders d = option_map order_from (first_with addr_of_order d.addr orders)

-- by one order more
more_worth : (setup : Setup) (o : CarryOrder) (orders : List CarryOrder) (ds : List DeviceSetup) →
    sum_over (λ d. amount setup (order_among (o ∷ orders) d)) ds
    ≤ sum_over (λ d. cond (o.addr == d.addr) (coins_of setup o.addr o.count) 0) ds
    + sum_over (λ d. amount setup (order_among orders d)) ds
more_worth setup o orders [] = omega arith
more_worth setup o orders (d ∷ ds) =
    let rest = more_worth setup o orders ds in
    let own = by_here (o.addr == d.addr) in
    omega arith
  where
    by_here : (here : Bool) →
        amount setup (option_map order_from (cond here (Some o) (first_with addr_of_order d.addr orders)))
        ≤ cond here (coins_of setup o.addr o.count) 0 + amount setup (order_among orders d)
    by_here true = omega arith
    by_here false = omega arith

worth_none : (setup : Setup) (ds : List DeviceSetup) → sum_over (λ d. amount setup (order_among [] d)) ds ≡ 0
worth_none setup [] = refl
worth_none setup (d ∷ ds) =
    let rest = worth_none setup ds in
    omega arith

worth_among : (setup : Setup) (orders : List CarryOrder) (ds : List DeviceSetup) → AreDistinct ds →
    sum_over (λ d. amount setup (order_among orders d)) ds ≤ owed_by setup orders
worth_among setup [] ds distinct =
    let none = worth_none setup ds in
    omega arith
worth_among setup (o ∷ orders) ds distinct =
    let more = more_worth setup o orders ds in
    let one = one_worth o.addr (coins_of setup o.addr o.count) ds distinct in
    let rest = worth_among setup orders ds distinct in
    omega arith

-- the orders that a ledger begins with are worth those of the carry at most
pub kept_worth : (setup : Setup) (c : Carry) (orders : List (Option OpenOrder)) → AreDistinct setup.devices →
    orders ≡ map (λ d. order_held d.addr c) setup.devices → sum_by (amount setup) orders ≤ owed_by setup c.orders
kept_worth setup c orders distinct is =
    let most = worth_among setup c.orders setup.devices distinct in
    let sums = sum_over-map (amount setup) (order_among c.orders) setup.devices in
    let same = ap (λ (os : List (Option OpenOrder)). sum_by (amount setup) os) is in
    omega arith

-- a ledger that begins with the carry of records that follow one another represents them

any_same : (id : ℕ) (orders : List (Option OpenOrder)) →
    list_any (λ (owed : Option OpenOrder). option_map_or (λ (o : OpenOrder). o.id == id) owed false) orders
    ≡ list_any (has_id id) orders
any_same id [] = refl
any_same id (None ∷ orders) = any_same id orders
any_same id (Some o ∷ orders) = ap (λ b. (o.id == id) || b) (any_same id orders)

pub keeps_held : (setup : Setup) (before : List Record) → IsSoundSetup setup → all_follow setup before ≡ true →
    KeepsOrders setup before (map (λ d. order_held d.addr (carry setup before)) setup.devices)
keeps_held setup before sound follow = record {
  at_devices = orders_looked_up setup before sound follow;
  opened = λ id. opened_looked_up setup before sound follow id ∙ any_same id (map (λ d. order_held d.addr (carry setup before)) setup.devices);
  named = named_looked_up setup before sound follow;
}

stands_held : (ledger : Ledger) (many : ℕ) (before : List Record) → IsSoundSetup (setup_of ledger) →
    length before ≡ many → all_follow (setup_of ledger) before ≡ true →
    IsResumed (setup_of ledger) many (carry (setup_of ledger) before) ledger → StandsFor ledger before 0
stands_held ledger many before sound count follow begun =
    let setup = setup_of ledger in
    let covered = covered_all setup before sound.distinct follow in
    let owed : ledger.owed ≡ reserved_in setup before =
    begun.owed ∙ ap (λ n. n + odd_in setup before) (owed_carried setup before sound follow) in
    let left = begun.available ∙ available_carried setup before sound follow 0 in
    record {
      sound = sound;
      counted = begun.counted ∙ sym count;
      orders = subst (λ (os : List (Option OpenOrder)). KeepsOrders setup before os) (sym begun.orders)
          (keeps_held setup before sound follow);
      owed = owed;
      reserved = begun.reserved;
      paid = begun.paid;
      sold = begun.sold;
      posted = omega (arith, covered, owed, left, begun.reserved, begun.paid, begun.sold);
    }

pub resumed_stands : (setup : Setup) (many : ℕ) (c : Carry) (ledger : Ledger) (before : List Record) →
    IsSoundSetup setup → IsResumed setup many c ledger → length before ≡ many → all_follow setup before ≡ true →
    c ≡ carry setup before → StandsFor ledger before 0
resumed_stands setup many c ledger before sound begun count follow is =
    subst (λ (s : Setup). IsSoundSetup s → all_follow s before ≡ true → IsResumed s many (carry s before) ledger →
    StandsFor ledger before 0) begun.setup_is
    (λ whole each held. stands_held ledger many before whole count each held) sound follow
    (subst (λ (x : Carry). IsResumed setup many x ledger) is begun)
