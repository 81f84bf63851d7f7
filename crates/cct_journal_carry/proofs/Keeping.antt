-- A carry that is safe for some records is safe for one more, with a record more that follows, and as it is.
use Rattle.std.proofs.Common.{◌≡◌, ℕ, ◌+◌, ◌*◌, ◌^◌, ◌<◌, ◌≤◌, max, not, true, List, [], ◌∷◌, length, map, All, Option, Some, None, IfSome, is_none, is_some, ◌⊎◌, inl, inr, refl, ap, sym, ◌∙◌, subst, arith, eqb-true, leb-true, lit<}
use Rattle.std.specs.Option.{option_map}
use Rattle.std.proofs.lemmas.Bool.{and_parts}
use Rattle.std.proofs.lemmas.List.Elements.{All-head, All-nil, All-tail, All-weaker}
use Rattle.cct_model.specs.terms.coin.TheConstants.{EVENTS}
use Rattle.cct_model.specs.terms.device.TheConstants.{DEVICES}
use Rattle.cct_model.specs.terms.device.DeviceBody.{DeviceBody}
use Rattle.cct_model.specs.terms.device.DeviceBody.TheVariants.{Acceptor, Bill, Hopper}
use Rattle.cct_model.specs.terms.device.DeviceSetup.{DeviceSetup}
use Rattle.cct_model.specs.terms.device.Setup.{Setup}
use Rattle.cct_model.specs.lines.record.Record.{Record}
use Rattle.cct_model.specs.lines.record.Record.TheVariants as record_of
use Rattle.cct_model.specs.lines.carry.Carry.{Carry}
use Rattle.cct_model.specs.lines.carry.CarryEpoch.{CarryEpoch}
use Rattle.cct_model.specs.lines.carry.CarryOrder.{CarryOrder}
use Rattle.cct_model.specs.Carried.{AreSmall, EpochFits, IsRightly, OrderFits, Rise, addr_of_epoch, addr_of_order, empty_carry, first_with, id_of_order, set_with, with_some}
use Rattle.cct_model.specs.Carry.{AreApart, IsOther, IsSafe, available_held, carry_with, epoch_entry, epoch_from, epoch_held, epochs_after, follows_carry, odd_more, order_entry, order_from, order_held, order_with, orders_after, owed_by, owner_by}
use Rattle.cct_model.specs.Device.{is_hopper, is_taker}
use Rattle.cct_model.specs.Exchange.{device_at, hopper_there, taker_there}
use Rattle.cct_model.specs.Following.{count_of}
use Rattle.cct_model.specs.Job.{counted, epoch_by}
use Rattle.cct_model.specs.Money.{amount, coins_of, coins_value}
use Rattle.cct_model.specs.Order.{order_by}
use Rattle.cct_model.specs.Records.{hopper_of, id_of}
use Rattle.cct_model.specs.Setup.{IsSoundSetup}
use Rattle.cct_model.specs.Sums.{coins_paid, coins_posted, coins_unpaid, coins_lost, posts_of, price_sold}
use Rattle.cct_model.proofs.OpenOrders.{coins_both}
use Rattle.cct_record.specs.Body.{InRange}
use Rattle.cct_journal_carry.specs.GoingOn.{CanGoOn, IsCovered, IsInReach}
use Rattle.cct_journal_carry.proofs.Coins.{coins_most, values_most, worth_most}
use Rattle.cct_journal_carry.proofs.Sets.{all_set, by_order, few_both, few_in, first_above, first_by_both, first_here, first_holds, first_key, first_past, length_set, none_has, rise_set, set_before, set_found, set_here, set_past}

-- an epoch at an address where a device takes money, whose numbers fit
record IsEpochAt (setup : Setup) (addr : ℕ) (e : CarryEpoch) : Type 0 where
  pub here : e.addr ≡ addr
  pub fits : EpochFits e
  pub there : taker_there (device_at setup.devices e.addr) ≡ true

epoch_made : (setup : Setup) (addr mask counter accepts : ℕ) → addr < 256 → mask < 2 ^ 16 → counter < 256
    → accepts < 2 ^ 24 → taker_there (device_at setup.devices addr) ≡ true
    → IsEpochAt setup addr (record { addr = addr; mask = mask; counter = counter; accepts = accepts })
epoch_made setup addr mask counter accepts addr_fits mask_fits counter_fits accepts_fits there = record {
  here = refl;
  fits = record { addr = addr_fits; mask = mask_fits; counter = counter_fits; accepts = accepts_fits };
  there = there;
}

epoch_found : (setup : Setup) (addr : ℕ) (found : Option CarryEpoch) → IfSome found (λ e. addr_of_epoch e ≡ addr)
    → IfSome found EpochFits → IfSome found (λ e. taker_there (device_at setup.devices e.addr) ≡ true)
    → IfSome found (IsEpochAt setup addr)
epoch_found setup addr None here fits there = tt
epoch_found setup addr (Some e) here fits there = record { here = here; fits = fits; there = there }

-- the entry of an epoch that a carry has is the one that it has
same_epoch : (addr : ℕ) (found : Option CarryEpoch) → IfSome found (λ e. addr_of_epoch e ≡ addr)
    → epoch_entry addr (epoch_from found) ≡ found
same_epoch addr None here = refl
same_epoch addr (Some e) here =
    let entry : ℕ → CarryEpoch = λ a. record { addr = a; mask = e.mask; counter = e.counter; accepts = e.accepts } in
    ap (λ a. Some (entry a)) (sym here)

-- a reading moves the counters of an epoch
epoch_counted : (setup : Setup) (addr counter accepts : ℕ) (found : Option CarryEpoch) → counter < 256
    → accepts < 2 ^ 24 → IfSome found (IsEpochAt setup addr)
    → IfSome (epoch_entry addr (counted counter accepts (epoch_from found))) (IsEpochAt setup addr)
epoch_counted setup addr counter accepts None fits accepts_fits held = tt
epoch_counted setup addr counter accepts (Some e) fits accepts_fits held =
    epoch_made setup addr e.mask counter accepts (subst (λ a. a < 256) held.here held.fits.addr) held.fits.mask fits
    accepts_fits (subst (λ a. taker_there (device_at setup.devices a) ≡ true) held.here held.there)

-- the epoch that a carry has at an address
held_epoch : (setup : Setup) (many addr : ℕ) (c : Carry) → IsSafe setup many c
    → IfSome (first_with addr_of_epoch addr c.epochs) (IsEpochAt setup addr)
held_epoch setup many addr c safe =
    epoch_found setup addr (first_with addr_of_epoch addr c.epochs) (first_key addr_of_epoch addr c.epochs)
    (first_holds addr_of_epoch EpochFits addr c.epochs safe.rightly.epochs_fit)
    (first_holds addr_of_epoch (λ e. taker_there (device_at setup.devices e.addr) ≡ true) addr c.epochs
    safe.fits.epochs)

-- what is set at an address is an epoch there
abbrev new_epoch : Carry → ℕ → Record → Option CarryEpoch
new_epoch c addr r = epoch_entry addr (epoch_by r (epoch_held addr c))

kept_epoch : (setup : Setup) (many addr : ℕ) (c : Carry) → IsSafe setup many c
    → IfSome (epoch_entry addr (epoch_held addr c)) (IsEpochAt setup addr)
kept_epoch setup many addr c safe =
    subst (λ found. IfSome found (IsEpochAt setup addr))
    (sym (same_epoch addr (first_with addr_of_epoch addr c.epochs) (first_key addr_of_epoch addr c.epochs)))
    (held_epoch setup many addr c safe)

next_epoch : (setup : Setup) (many : ℕ) (c : Carry) (r : Record) → IsSafe setup many c
    → follows_carry setup c r ≡ true → IsInReach r
    → IfSome (new_epoch c (owner_by c r) r) (IsEpochAt setup (owner_by c r))
next_epoch setup many c (record_of.Epoch addr mask accepts) safe ok fits =
    epoch_made setup addr mask 0 accepts fits.0 fits.1 (lit< tt) fits.2 (and_parts _ _ (and_parts _ _ (and_parts _ _ ok).0).0).0
next_epoch setup many c (record_of.Reading addr counter lost accepts posted) safe ok fits =
    epoch_counted setup addr counter accepts (first_with addr_of_epoch addr c.epochs) fits.0 fits.2
    (held_epoch setup many addr c safe)
next_epoch setup many c (record_of.Opened id addr count life) safe ok fits = kept_epoch setup many addr c safe
next_epoch setup many c (record_of.Closed id paid unpaid) safe ok fits =
    kept_epoch setup many (hopper_of (order_with id c)) c safe
next_epoch setup many c (record_of.Odd id life_before life_after) safe ok fits =
    kept_epoch setup many (hopper_of (order_with id c)) c safe
next_epoch setup many c (record_of.Sold id price) safe ok fits =
    kept_epoch setup many (owner_by c (record_of.Sold id price)) c safe
next_epoch setup many c r safe ok fits = tt

-- what is so of the epochs of a safe carry
pub record EpochsSafe (setup : Setup) (epochs : List CarryEpoch) : Type 0 where
  pub rise : Rise (map addr_of_epoch epochs)
  pub fit : All EpochFits epochs
  pub there : All (λ e. taker_there (device_at setup.devices e.addr) ≡ true) epochs

some_weaker : {X : Type 0} (P Q : X → Type 0) (found : Option X) → ((x : X) → P x → Q x) → IfSome found P → IfSome found Q
some_weaker P Q None weaker holds = tt
some_weaker P Q (Some x) weaker holds = weaker x holds

epochs_set : (setup : Setup) (addr : ℕ) (new : Option CarryEpoch) (epochs : List CarryEpoch)
    → IfSome new (IsEpochAt setup addr) → EpochsSafe setup epochs
    → EpochsSafe setup (set_with addr_of_epoch addr new epochs)
epochs_set setup addr new epochs new_is safe = record {
  rise = rise_set addr_of_epoch addr new epochs
      (some_weaker (IsEpochAt setup addr) (λ e. addr_of_epoch e ≡ addr) new (λ e is. is.here) new_is) safe.rise;
  fit = all_set addr_of_epoch EpochFits addr new epochs
      (some_weaker (IsEpochAt setup addr) EpochFits new (λ e is. is.fits) new_is) safe.fit;
  there = all_set addr_of_epoch (λ e. taker_there (device_at setup.devices e.addr) ≡ true) addr new epochs
      (some_weaker (IsEpochAt setup addr) (λ e. taker_there (device_at setup.devices e.addr) ≡ true) new
      (λ e is. is.there) new_is) safe.there;
}

-- the epochs of a safe carry stay so
pub epochs_next : (setup : Setup) (many : ℕ) (c : Carry) (r : Record) → IsSafe setup many c
    → follows_carry setup c r ≡ true → IsInReach r → EpochsSafe setup (epochs_after (owner_by c r) r c)
epochs_next setup many c r safe ok fits =
    epochs_set setup (owner_by c r) (new_epoch c (owner_by c r) r) c.epochs (next_epoch setup many c r safe ok fits)
    (record { rise = safe.rightly.epochs_rise; fit = safe.rightly.epochs_fit; there = safe.fits.epochs })

-- an order at an address where a hopper is, with no id above the last one, whose numbers fit
record IsOrderAt (setup : Setup) (addr last : ℕ) (o : CarryOrder) : Type 0 where
  pub here : o.addr ≡ addr
  pub fits : OrderFits o
  pub there : hopper_there (device_at setup.devices o.addr) ≡ true
  pub known : o.id ≤ last

-- what is so of the orders of a safe carry
pub record OrdersSafe (setup : Setup) (last : ℕ) (orders : List CarryOrder) : Type 0 where
  pub rise : Rise (map addr_of_order orders)
  pub fit : All OrderFits orders
  pub there : All (λ o. hopper_there (device_at setup.devices o.addr) ≡ true) orders
  pub ids : All (λ o. o.id ≤ last) orders
  pub apart : AreApart orders

-- no two ids are one, where the new one is no other's
apart_some : (new : Option CarryOrder) (orders : List CarryOrder) → AreApart orders
    → IfSome new (λ o. All (IsOther o.id) orders) → AreApart (with_some new orders)
apart_some None orders apart fresh = apart
apart_some (Some o) orders apart fresh = (fresh, apart)

fresh_later : (o : CarryOrder) (orders : List CarryOrder) (new : Option CarryOrder)
    → IfSome new (λ n. All (IsOther n.id) (o ∷ orders)) → IfSome new (λ n. All (IsOther n.id) orders)
fresh_later o orders None fresh = tt
fresh_later o orders (Some n) fresh = All-tail (IsOther n.id) o orders fresh

fresh_first : (o : CarryOrder) (orders : List CarryOrder) (new : Option CarryOrder)
    → IfSome new (λ n. All (IsOther n.id) (o ∷ orders)) → IfSome new (IsOther o.id)
fresh_first o orders None fresh = tt
fresh_first o orders (Some n) fresh = λ same. All-head (IsOther n.id) o orders fresh (sym same)

apart_set : (addr : ℕ) (new : Option CarryOrder) (orders : List CarryOrder) → AreApart orders
    → IfSome new (λ o. All (IsOther o.id) orders) → AreApart (set_with addr_of_order addr new orders)
apart_set addr new [] apart fresh = apart_some new [] apart fresh
apart_set addr new (o ∷ orders) apart fresh =
    let Apart : List CarryOrder → Type 0 = λ os. AreApart os in
    let rest = fresh_later o orders new fresh in
    let later = apart_set addr new orders apart.1 rest in
    by_order o.addr addr
    (λ less. subst Apart (sym (set_past addr_of_order addr new o orders less))
    (all_set addr_of_order (IsOther o.id) addr new orders (fresh_first o orders new fresh) apart.0, later))
    (λ same. subst Apart (sym (set_here addr_of_order addr new o orders same))
    (apart_some new orders apart.1 rest))
    (λ more. subst Apart (sym (set_before addr_of_order addr new o orders more))
    (apart_some new (o ∷ orders) apart fresh))

orders_set : (setup : Setup) (addr last : ℕ) (new : Option CarryOrder) (orders : List CarryOrder)
    → IfSome new (IsOrderAt setup addr last) → IfSome new (λ o. All (IsOther o.id) orders)
    → OrdersSafe setup last orders → OrdersSafe setup last (set_with addr_of_order addr new orders)
orders_set setup addr last new orders new_is fresh safe =
    let IsNew = IsOrderAt setup addr last in
    record {
      rise = rise_set addr_of_order addr new orders
          (some_weaker IsNew (λ o. addr_of_order o ≡ addr) new (λ o is. is.here) new_is) safe.rise;
      fit = all_set addr_of_order OrderFits addr new orders
          (some_weaker IsNew OrderFits new (λ o is. is.fits) new_is) safe.fit;
      there = all_set addr_of_order (λ o. hopper_there (device_at setup.devices o.addr) ≡ true) addr new orders
          (some_weaker IsNew (λ o. hopper_there (device_at setup.devices o.addr) ≡ true) new (λ o is. is.there) new_is)
          safe.there;
      ids = all_set addr_of_order (λ o. o.id ≤ last) addr new orders
          (some_weaker IsNew (λ o. o.id ≤ last) new (λ o is. is.known) new_is) safe.ids;
      apart = apart_set addr new orders safe.apart fresh;
    }

-- the orders of a safe carry, with a last id that isn't below its own
orders_now : (setup : Setup) (many last : ℕ) (c : Carry) → IsSafe setup many c → c.last_id ≤ last
    → OrdersSafe setup last c.orders
orders_now setup many last c safe above = record {
  rise = safe.rightly.orders_rise;
  fit = safe.rightly.orders_fit;
  there = safe.fits.orders;
  ids = All-weaker (λ (o : CarryOrder). o.id ≤ c.last_id) (λ o. o.id ≤ last) (λ o below. omega arith) c.orders safe.fits.ids;
  apart = safe.fits.apart;
}

-- a record that changes no order at its address leaves all orders
same_entry : (found : Option CarryOrder) → option_map order_entry (option_map order_from found) ≡ found
same_entry None = refl
same_entry (Some o) = refl

pub same_orders : (addr : ℕ) (c : Carry) → Rise (map addr_of_order c.orders)
    → set_with addr_of_order addr (option_map order_entry (order_held addr c)) c.orders ≡ c.orders
same_orders addr c rise =
    ap (λ new. set_with addr_of_order addr new c.orders) (same_entry (first_with addr_of_order addr c.orders))
    ∙ set_found addr_of_order addr c.orders rise

-- and one that changes no epoch leaves all epochs
pub same_epochs : (addr : ℕ) (c : Carry) → Rise (map addr_of_epoch c.epochs)
    → set_with addr_of_epoch addr (epoch_entry addr (epoch_held addr c)) c.epochs ≡ c.epochs
same_epochs addr c rise =
    ap (λ new. set_with addr_of_epoch addr new c.epochs)
    (same_epoch addr (first_with addr_of_epoch addr c.epochs) (first_key addr_of_epoch addr c.epochs))
    ∙ set_found addr_of_epoch addr c.epochs rise

-- no order that a carry has has an id with which none is open
none_open : (id : ℕ) (orders : List CarryOrder) (found : Option CarryOrder) → first_with id_of_order id orders ≡ found
    → not (is_some (option_map order_from found)) ≡ true → All (IsOther id) orders
none_open id orders None is none = none_has id_of_order id orders is
none_open id orders (Some o) is none = absurd cc

-- what a record that opens an order says, where it follows
record Opens (setup : Setup) (c : Carry) (id addr count : ℕ) : Type 0 where
  pub there : hopper_there (device_at setup.devices addr) ≡ true
  pub idle : is_none (order_held addr c) ≡ true
  pub fresh : not (is_some (order_with id c)) ≡ true
  pub affords : coins_of setup addr count ≤ available_held setup c 0

opens : (setup : Setup) (c : Carry) (id addr count life : ℕ)
    → follows_carry setup c (record_of.Opened id addr count life) ≡ true → Opens setup c id addr count
opens setup c id addr count life ok =
    let worth = and_parts _ _ ok in
    let coins = and_parts _ _ worth.0 in
    let ids = and_parts _ _ coins.0 in
    let named = and_parts _ _ ids.0 in
    let here = and_parts _ _ named.0 in
    record {
      there = here.0;
      idle = here.1;
      fresh = ids.1;
      affords = leb-true (coins_of setup addr count) (available_held setup c 0) worth.1;
    }

-- the order that a record closes
record Closes (c : Carry) (id : ℕ) : Type 0 where
  pub order_is : CarryOrder
  pub named : first_with id_of_order id c.orders ≡ Some order_is
  pub held : first_with addr_of_order order_is.addr c.orders ≡ Some order_is

closes_by : (c : Carry) (id : ℕ) (found : Option CarryOrder) → first_with id_of_order id c.orders ≡ found
    → is_some (option_map order_from found) ≡ true → Rise (map addr_of_order c.orders) → Closes c id
closes_by c id None is open_is rise = absurd cc
closes_by c id (Some o) is open_is rise = record {
  order_is = o;
  named = is;
  held = first_by_both addr_of_order id_of_order id c.orders o rise is;
}

closes : (c : Carry) (id : ℕ) → is_some (order_with id c) ≡ true → Rise (map addr_of_order c.orders) → Closes c id
closes c id open_is rise = closes_by c id (first_with id_of_order id c.orders) refl open_is rise

-- the orders of a safe carry stay so
pub orders_next : (setup : Setup) (many : ℕ) (c : Carry) (r : Record) → IsSafe setup many c
    → follows_carry setup c r ≡ true → IsInReach r
    → OrdersSafe setup (max (id_of r) c.last_id) (orders_after (owner_by c r) r c)
orders_next setup many c (record_of.Opened id addr count life) safe ok fits =
    let at = opens setup c id addr count life ok in
    let last = max id c.last_id in
    let new : CarryOrder = record { id = id; addr = addr; count = count; life = life } in
    orders_set setup addr last (Some new) c.orders
    (record {
      here = refl;
      fits = record { id = fits.0; addr = fits.1; count = fits.2; life = fits.3 };
      there = at.there;
      known = omega arith;
    })
    (none_open id c.orders (first_with id_of_order id c.orders) refl at.fresh)
    (orders_now setup many last c safe (omega arith))
orders_next setup many c (record_of.Closed id paid unpaid) safe ok fits =
    orders_set setup (hopper_of (order_with id c)) (max 0 c.last_id) None c.orders tt tt
    (orders_now setup many (max 0 c.last_id) c safe (omega arith))
orders_next setup many c (record_of.Odd id life_before life_after) safe ok fits =
    orders_set setup (hopper_of (order_with id c)) (max 0 c.last_id) None c.orders tt tt
    (orders_now setup many (max 0 c.last_id) c safe (omega arith))
orders_next setup many c r safe ok fits =
    let last = max (id_of r) c.last_id in
    subst (λ orders. OrdersSafe setup last orders) (sym (same_orders (owner_by c r) c safe.rightly.orders_rise))
    (orders_now setup many last c safe (omega arith))

-- what an order is worth, nothing of none
abbrev order_worth : Setup → Option CarryOrder → ℕ
order_worth setup None = 0
order_worth setup (Some o) = coins_of setup o.addr o.count

owed_some : (setup : Setup) (new : Option CarryOrder) (orders : List CarryOrder)
    → owed_by setup (with_some new orders) ≡ order_worth setup new + owed_by setup orders
owed_some setup None orders = omega arith
owed_some setup (Some o) orders = refl

-- what is owed changes by the orders that stand at the address before and after
owed_set : (setup : Setup) (addr : ℕ) (new : Option CarryOrder) (orders : List CarryOrder)
    → Rise (map addr_of_order orders)
    → owed_by setup (set_with addr_of_order addr new orders)
    + order_worth setup (first_with addr_of_order addr orders)
    ≡ owed_by setup orders + order_worth setup new
owed_set setup addr new [] rise =
    let some = owed_some setup new [] in
    omega arith
owed_set setup addr new (o ∷ orders) rise =
    let Changed : List CarryOrder → Option CarryOrder → Type 0 = λ os found. owed_by setup os + order_worth setup found
    ≡ owed_by setup (o ∷ orders) + order_worth setup new in
    let set : List CarryOrder = set_with addr_of_order addr new (o ∷ orders) in
    let first : Option CarryOrder = first_with addr_of_order addr (o ∷ orders) in
    let later = owed_set setup addr new orders rise.1 in
    let here = owed_some setup new orders in
    let both = owed_some setup new (o ∷ orders) in
    by_order o.addr addr
    (λ less. subst (λ os. Changed os first) (sym (set_past addr_of_order addr new o orders less))
    (subst (λ found. Changed (o ∷ set_with addr_of_order addr new orders) found)
    (sym (first_past addr_of_order addr o orders (λ same. omega arith))) (omega arith)))
    (λ same. subst (λ os. Changed os first) (sym (set_here addr_of_order addr new o orders same))
    (subst (λ found. Changed (with_some new orders) found) (sym (first_here addr_of_order addr o orders same))
    (omega arith)))
    (λ more. subst (λ os. Changed os first) (sym (set_before addr_of_order addr new o orders more))
    (subst (λ found. Changed (with_some new (o ∷ orders)) found)
    (sym (first_above addr_of_order addr (o ∷ orders) more rise)) (omega arith)))

-- an order that is closed is owed no more
owed_taken : (setup : Setup) (c : Carry) (id : ℕ) → (at : Closes c id) → Rise (map addr_of_order c.orders)
    → owed_by setup (set_with addr_of_order at.order_is.addr None c.orders)
    + coins_of setup at.order_is.addr at.order_is.count ≡ owed_by setup c.orders
owed_taken setup c id at rise =
    let changed = owed_set setup at.order_is.addr None c.orders rise in
    let is = ap (order_worth setup) at.held in
    omega arith

-- an order that is opened is owed
owed_opened : (setup : Setup) (c : Carry) (o : CarryOrder) (found : Option CarryOrder)
    → first_with addr_of_order o.addr c.orders ≡ found → is_none (option_map order_from found) ≡ true
    → Rise (map addr_of_order c.orders)
    → owed_by setup (set_with addr_of_order o.addr (Some o) c.orders)
    ≡ owed_by setup c.orders + coins_of setup o.addr o.count
owed_opened setup c o None is idle rise =
    let changed = owed_set setup o.addr (Some o) c.orders rise in
    let none = ap (order_worth setup) is in
    omega arith
owed_opened setup c o (Some p) is idle rise = absurd cc

-- the addresses and the counts of what is closed
closes_at : (c : Carry) (id : ℕ) → (at : Closes c id) → hopper_of (order_with id c) ≡ at.order_is.addr
closes_at c id at = ap (λ found. hopper_of (option_map order_from found)) at.named

closes_many : (c : Carry) (id : ℕ) → (at : Closes c id) → count_of (order_with id c) ≡ at.order_is.count
closes_many c id at = ap (λ found. count_of (option_map order_from found)) at.named

-- what is posted covers what is reserved, paid and sold
pub covered_next : (setup : Setup) (many : ℕ) (c : Carry) (r : Record) → IsSafe setup many c
    → follows_carry setup c r ≡ true → IsCovered setup (carry_with setup r c)
covered_next setup many c (record_of.Opened id addr count life) safe ok =
    let at = opens setup c id addr count life ok in
    let rise = safe.rightly.orders_rise in
    let owed = owed_opened setup c (record { id = id; addr = addr; count = count; life = life })
    (first_with addr_of_order addr c.orders) refl at.idle rise in
    let affords = at.affords in
    let covered = safe.fits.covered in
    omega arith
covered_next setup many c (record_of.Closed id paid unpaid) safe ok =
    let parts = and_parts _ _ ok in
    let rise = safe.rightly.orders_rise in
    let at = closes c id parts.0 rise in
    let all : paid + unpaid ≡ at.order_is.count =
    eqb-true (paid + unpaid) (count_of (order_with id c)) parts.1 ∙ closes_many c id at in
    let both = coins_both setup at.order_is.addr paid unpaid ∙ ap (coins_of setup at.order_is.addr) all in
    let owed = owed_taken setup c id at rise in
    let covered = safe.fits.covered in
    subst (λ addr. coins_of setup addr paid + c.paid_value + (0 + c.odd_value) + (0 + c.sold)
    + owed_by setup (set_with addr_of_order addr None c.orders)
    ≤ coins_value (device_at setup.devices addr) [] + c.value)
    (sym (closes_at c id at)) (omega arith)
covered_next setup many c (record_of.Odd id life_before life_after) safe ok =
    let rise = safe.rightly.orders_rise in
    let at = closes c id ok rise in
    let odd = ap (λ found. amount setup (option_map order_from found)) at.named in
    let owed = owed_taken setup c id at rise in
    let covered = safe.fits.covered in
    subst (λ addr. coins_of setup addr 0 + c.paid_value + (amount setup (order_with id c) + c.odd_value) + (0 + c.sold)
    + owed_by setup (set_with addr_of_order addr None c.orders)
    ≤ coins_value (device_at setup.devices addr) [] + c.value)
    (sym (closes_at c id at)) (omega arith)
covered_next setup many c (record_of.Sold id price) safe ok =
    let owed = ap (owed_by setup) (same_orders (owner_by c (record_of.Sold id price)) c safe.rightly.orders_rise) in
    let parts = and_parts _ _ ok in
    let affords = leb-true price (available_held setup c 0) parts.1 in
    let covered = safe.fits.covered in
    omega arith
covered_next setup many c r safe ok =
    let owed = ap (owed_by setup) (same_orders (owner_by c r) c safe.rightly.orders_rise) in
    let covered = safe.fits.covered in
    omega arith

-- the coins of an order that is open are fewer than 256
amount_few : (setup : Setup) (many : ℕ) (c : Carry) (id : ℕ) (found : Option CarryOrder) → IsSoundSetup setup
    → IfSome found OrderFits → amount setup (option_map order_from found) ≤ 255 * 1000000
amount_few setup many c id None sound fits = omega arith
amount_few setup many c id (Some o) sound fits =
    worth_most setup o.addr o.count 255 sound.devices (let below = fits.count in omega arith)

-- what one record adds to the sums is at most 2 ^ 32 each, and its id is below that
record AddsFew (setup : Setup) (c : Carry) (r : Record) : Type 0 where
  pub value : coins_value (device_at setup.devices (owner_by c r)) (posts_of r) ≤ 2 ^ 32
  pub paid_value : coins_of setup (owner_by c r) (coins_paid r) ≤ 2 ^ 32
  pub odd_value : odd_more setup c r ≤ 2 ^ 32
  pub posted : coins_posted r ≤ 2 ^ 32
  pub lost : coins_lost r ≤ 2 ^ 32
  pub paid : coins_paid r ≤ 2 ^ 32
  pub unpaid : coins_unpaid r ≤ 2 ^ 32
  pub sold : price_sold r ≤ 2 ^ 32
  pub id : id_of r < 2 ^ 32

posts_few : (r : Record) → IsInReach r → length (posts_of r) ≤ EVENTS
posts_few (record_of.Reading addr counter lost accepts posted) fits = fits.3
posts_few (record_of.Broken addr seen counter lost accepts posted) fits = fits.1
posts_few r fits = omega arith

lost_few : (r : Record) → IsInReach r → coins_lost r < 2 ^ 24
lost_few (record_of.Reading addr counter lost accepts posted) fits = fits.1
lost_few (record_of.Broken addr seen counter lost accepts posted) fits = fits.0
lost_few r fits = lit< tt

paid_few : (r : Record) → IsInReach r → coins_paid r < 256
paid_few (record_of.Closed id paid unpaid) fits = fits.0
paid_few r fits = lit< tt

unpaid_few : (r : Record) → IsInReach r → coins_unpaid r < 256
unpaid_few (record_of.Closed id paid unpaid) fits = fits.1
unpaid_few r fits = lit< tt

price_few : (r : Record) → IsInReach r → price_sold r < 2 ^ 32
price_few (record_of.Sold id price) fits = fits.1
price_few r fits = lit< tt

id_few : (r : Record) → IsInReach r → id_of r < 2 ^ 32
id_few (record_of.Opened id addr count life) fits = fits.0
id_few (record_of.Sold id price) fits = fits.0
id_few r fits = lit< tt

odd_few : (setup : Setup) (many : ℕ) (c : Carry) (r : Record) → IsSoundSetup setup → IsSafe setup many c
    → odd_more setup c r ≤ 255 * 1000000
odd_few setup many c (record_of.Odd id life_before life_after) sound safe =
    amount_few setup many c id (first_with id_of_order id c.orders) sound
    (first_holds id_of_order OrderFits id c.orders safe.rightly.orders_fit)
odd_few setup many c r sound safe = omega arith

adds_few : (setup : Setup) (many : ℕ) (c : Carry) (r : Record) → IsSoundSetup setup → IsSafe setup many c → IsInReach r
    → AddsFew setup c r
adds_few setup many c r sound safe fits =
    let posts = posts_few r fits in
    let lost_is = lost_few r fits in
    let paid_is = paid_few r fits in
    let unpaid_is = unpaid_few r fits in
    let price_is = price_few r fits in
    let posts_worth = coins_most (device_at setup.devices (owner_by c r)) (posts_of r) 1000000
    (λ place. values_most setup.devices (owner_by c r) place sound.devices) in
    let paid_worth = worth_most setup (owner_by c r) (coins_paid r) 255 sound.devices (omega arith) in
    let odd_is = odd_few setup many c r sound safe in
    record {
      value = omega arith;
      paid_value = omega arith;
      odd_value = omega arith;
      posted = omega arith;
      lost = omega arith;
      paid = omega arith;
      unpaid = omega arith;
      sold = omega arith;
      id = id_few r fits;
    }

-- the sums stay small
small_next : (setup : Setup) (many : ℕ) (c : Carry) (r : Record) → AreSmall many c → AddsFew setup c r
    → AreSmall (many + 1) (carry_with setup r c)
small_next setup many c r small adds = record {
  value = omega (arith, small.value, adds.value);
  paid_value = omega (arith, small.paid_value, adds.paid_value);
  odd_value = omega (arith, small.odd_value, adds.odd_value);
  posted = omega (arith, small.posted, adds.posted);
  lost = omega (arith, small.lost, adds.lost);
  paid = omega (arith, small.paid, adds.paid);
  unpaid = omega (arith, small.unpaid, adds.unpaid);
  sold = omega (arith, small.sold, adds.sold);
}

-- a record changes the epochs or the orders, and not both
one_changes : (setup : Setup) (many : ℕ) (c : Carry) (r : Record) → IsSafe setup many c
    → (epochs_after (owner_by c r) r c ≡ c.epochs) ⊎ (orders_after (owner_by c r) r c ≡ c.orders)
one_changes setup many c (record_of.Opened id addr count life) safe =
    inl (same_epochs addr c safe.rightly.epochs_rise)
one_changes setup many c (record_of.Closed id paid unpaid) safe =
    inl (same_epochs (hopper_of (order_with id c)) c safe.rightly.epochs_rise)
one_changes setup many c (record_of.Odd id life_before life_after) safe =
    inl (same_epochs (hopper_of (order_with id c)) c safe.rightly.epochs_rise)
one_changes setup many c r safe = inr (same_orders (owner_by c r) c safe.rightly.orders_rise)

-- so one entry more is there at most
each_next : (setup : Setup) (many : ℕ) (c : Carry) (r : Record) → IsSafe setup many c
    → length (epochs_after (owner_by c r) r c) + length (orders_after (owner_by c r) r c) ≤ many + 1
each_next setup many c r safe =
    let epochs = length_set addr_of_epoch (owner_by c r) (new_epoch c (owner_by c r) r) c.epochs in
    let orders = length_set addr_of_order (owner_by c r)
    (option_map order_entry (order_by r (order_held (owner_by c r) c))) c.orders in
    let each = safe.rightly.each in
    elim (one_changes setup many c r safe) [
      | inl same ↦ let is = ap (λ (es : List CarryEpoch). length es) same in omega arith
      | inr same ↦ let is = ap (λ (os : List CarryOrder). length os) same in omega arith
    ]

-- no device takes money and pays it
one_kind : (d : DeviceSetup) → taker_there (Some d) ≡ true → hopper_there (Some d) ≡ true → ⊥
one_kind d taker hopper = by_body d.body taker hopper
  where
    by_body : (body : DeviceBody) → is_taker body ≡ true → is_hopper body ≡ true → ⊥
    by_body (Acceptor accepts values ids) taker hopper = absurd cc
    by_body (Hopper life value) taker hopper = absurd cc
    by_body (Bill accepts values ids) taker hopper = absurd cc

-- a safe carry is safe for one record more, with a record more that follows
pub safe_next : (setup : Setup) (many : ℕ) (c : Carry) (r : Record) → IsSoundSetup setup
    → length setup.devices ≤ DEVICES → IsSafe setup many c → follows_carry setup c r ≡ true → IsInReach r
    → IsSafe setup (many + 1) (carry_with setup r c)
safe_next setup many c r sound devices safe ok fits =
    let epochs = epochs_next setup many c r safe ok fits in
    let orders = orders_next setup many c r safe ok fits in
    let adds = adds_few setup many c r sound safe fits in
    let epochs_few = few_in addr_of_epoch taker_there refl setup.devices (epochs_after (owner_by c r) r c) epochs.rise epochs.there in
    let orders_few = few_in addr_of_order hopper_there refl setup.devices (orders_after (owner_by c r) r c) orders.rise orders.there in
    let few = few_both addr_of_epoch addr_of_order taker_there hopper_there refl refl one_kind setup.devices
    (epochs_after (owner_by c r) r c) (orders_after (owner_by c r) r c) epochs.rise orders.rise epochs.there
    orders.there in
    record {
      rightly = record {
        epochs_rise = epochs.rise;
        orders_rise = orders.rise;
        epochs_fit = epochs.fit;
        orders_fit = orders.fit;
        epochs_few = omega arith;
        orders_few = omega arith;
        few = omega arith;
        each = each_next setup many c r safe;
        small = small_next setup many c r safe.rightly.small adds;
        last = omega (arith, safe.rightly.last, adds.id);
        none_used = λ none. absurd (omega arith);
      };
      fits = record {
        epochs = epochs.there;
        orders = orders.there;
        ids = orders.ids;
        apart = orders.apart;
        covered = covered_next setup many c r safe ok;
      };
    }

-- a record that can be spelt is in reach
pub in_reach : (r : Record) → InRange r → IsInReach r
in_reach (record_of.Epoch addr mask accepts) fits = fits
in_reach (record_of.Reading addr counter lost accepts posted) fits = (fits.1, fits.2, fits.3, fits.4.few)
in_reach (record_of.Broken addr seen counter lost accepts posted) fits = (fits.3, fits.5.few)
in_reach (record_of.Opened id addr count life) fits = fits
in_reach (record_of.Closed id paid unpaid) fits = (fits.1, fits.2)
in_reach (record_of.Sold id price) fits = fits
in_reach r fits = tt

-- what goes on fits the numbers of a carry
pub record HasRoom (c : Carry) : Type 0 where
  pub value : c.value < 2 ^ 64
  pub paid_value : c.paid_value < 2 ^ 64
  pub odd_value : c.odd_value < 2 ^ 64
  pub posted : c.posted < 2 ^ 64
  pub lost : c.lost < 2 ^ 64
  pub paid : c.paid < 2 ^ 64
  pub unpaid : c.unpaid < 2 ^ 64
  pub sold : c.sold < 2 ^ 64
  pub epochs : length c.epochs ≤ DEVICES
  pub orders : length c.orders ≤ DEVICES

pub has_room : (many : ℕ) (c : Carry) → many < 2 ^ 32 → IsRightly many c → HasRoom c
has_room many c few rightly = record {
  value = omega (arith, rightly.small.value);
  paid_value = omega (arith, rightly.small.paid_value);
  odd_value = omega (arith, rightly.small.odd_value);
  posted = omega (arith, rightly.small.posted);
  lost = omega (arith, rightly.small.lost);
  paid = omega (arith, rightly.small.paid);
  unpaid = omega (arith, rightly.small.unpaid);
  sold = omega (arith, rightly.small.sold);
  epochs = rightly.epochs_few;
  orders = rightly.orders_few;
}

pub room_next : (setup : Setup) (c : Carry) (r : Record) → CanGoOn setup c r → IsInReach r
    → HasRoom (carry_with setup r c)
room_next setup c r can fits =
    has_room (can.many + 1) (carry_with setup r c) (let few = can.few in omega arith)
    (safe_next setup can.many c r can.sound can.devices can.safe can.follows fits).rightly

-- it is safe for one record more as it is
pub rightly_more : (many : ℕ) (c : Carry) → IsRightly many c → IsRightly (many + 1) c
rightly_more many c rightly = record {
  epochs_rise = rightly.epochs_rise;
  orders_rise = rightly.orders_rise;
  epochs_fit = rightly.epochs_fit;
  orders_fit = rightly.orders_fit;
  epochs_few = rightly.epochs_few;
  orders_few = rightly.orders_few;
  few = rightly.few;
  each = omega (arith, rightly.each);
  small = record {
    value = omega (arith, rightly.small.value);
    paid_value = omega (arith, rightly.small.paid_value);
    odd_value = omega (arith, rightly.small.odd_value);
    posted = omega (arith, rightly.small.posted);
    lost = omega (arith, rightly.small.lost);
    paid = omega (arith, rightly.small.paid);
    unpaid = omega (arith, rightly.small.unpaid);
    sold = omega (arith, rightly.small.sold);
  };
  last = rightly.last;
  none_used = λ none. absurd (omega arith);
}

pub safe_more : (setup : Setup) (many : ℕ) (c : Carry) → IsSafe setup many c → IsSafe setup (many + 1) c
safe_more setup many c safe = record { rightly = rightly_more many c safe.rightly; fits = safe.fits }

-- the empty carry is safe
pub rightly_empty : (many : ℕ) → IsRightly many empty_carry
rightly_empty many = record {
  epochs_rise = tt;
  orders_rise = tt;
  epochs_fit = All-nil EpochFits;
  orders_fit = All-nil OrderFits;
  epochs_few = omega arith;
  orders_few = omega arith;
  few = omega arith;
  each = omega arith;
  small = record {
    value = omega arith;
    paid_value = omega arith;
    odd_value = omega arith;
    posted = omega arith;
    lost = omega arith;
    paid = omega arith;
    unpaid = omega arith;
    sold = omega arith;
  };
  last = lit< tt;
  none_used = λ none. refl;
}

pub safe_empty : (setup : Setup) (many : ℕ) → IsSafe setup many empty_carry
safe_empty setup many = record {
  rightly = rightly_empty many;
  fits = record {
    epochs = All-nil (λ (e : CarryEpoch). taker_there (device_at setup.devices e.addr) ≡ true);
    orders = All-nil (λ (o : CarryOrder). hopper_there (device_at setup.devices o.addr) ≡ true);
    ids = All-nil (λ (o : CarryOrder). o.id ≤ 0);
    apart = tt;
    covered = omega arith;
  };
}
