-- What desks begin with: that nothing happened, or what a carry shows.
use Rattle.std.proofs.Common.{◌≡◌, ℕ, ◌+◌, ◌^◌, ◌<◌, ◌==◌, Bool, true, false, cond, List, [], ◌∷◌, ◌++◌, length, take, get_or, Option, Some, None, option_map, sym, ap, subst, ◌∙◌, arith}
use Rattle.std.proofs.lemmas.Grind.{take_at_read}
use Rattle.std.proofs.lemmas.Option.{same_Some}
use Rattle.std.specs.List.{All}
use Rattle.std.proofs.lemmas.List.Elements.{All-head, All-tail, All-weaker}
use Rattle.cct_model.specs.terms.device.DeviceSetup.{DeviceSetup}
use Rattle.cct_model.specs.terms.device.Setup.{Setup}
use Rattle.cct_model.specs.lines.carry.Carry.{Carry}
use Rattle.cct_model.specs.lines.carry.CarryOrder.{CarryOrder}
use Rattle.cct_model.specs.declared.judging.OpenOrder.{OpenOrder}
use Rattle.cct_model.specs.Carried.{IsRightly, OrderFits, addr_of_order, first_with}
use Rattle.cct_model.specs.Carry.{epoch_held, known_by, order_from, order_held}
use Rattle.cct_model.specs.Following.{Known, known_in}
use Rattle.cct_jobs.specs.Jobs.{order_of}
use Rattle.cct_host.specs.declared.desk.JobDesk.{JobDesk}
use Rattle.cct_host.specs.declared.orders.OrderState.{OrderState}
use Rattle.cct_host.specs.Desk.{IsFree}
use Rattle.cct_host.specs.Replayed.{AllReplay, IsUnused, ReplaysAt}

-- at first
free_replays : (setup : Setup) (d : DeviceSetup) (k : JobDesk) → IsFree k → ReplaysAt d k (known_in setup [])
free_replays setup d k free = record {
  epoch_is = free.1;
  order_is = ap (λ (x : OrderState). order_of x.order) free.2;
  id_is = ap (λ (x : OrderState). x.id) free.2;
  begun_is = ap (λ (x : OrderState). x.begun) free.2;
}

pub none_replayed : (setup : Setup) (ds : List DeviceSetup) (ks : List JobDesk) → length ks ≡ length ds → All IsFree ks
    → AllReplay ds ks (known_in setup [])
none_replayed setup [] [] many free = tt
none_replayed setup [] (k ∷ ks) many free = absurd (omega arith)
none_replayed setup (d ∷ ds) [] many free = absurd (omega arith)
none_replayed setup (d ∷ ds) (k ∷ ks) many free = (
  free_replays setup d k (All-head IsFree k ks free),
  none_replayed setup ds ks (omega arith) (All-tail IsFree k ks free),
)

pub all_unused : (ks : List JobDesk) → All IsFree ks → All IsUnused ks
all_unused ks free = All-weaker IsFree IsUnused (λ k is. is.0) ks free

-- an order of a carry has a life count of three bytes
pub held_life : (addr : ℕ) (c : Carry) (owed : Option OpenOrder) (o : OpenOrder) → (many : ℕ) × IsRightly many c
    → owed ≡ order_held addr c → owed ≡ Some o → o.life < 2 ^ 24
held_life addr c owed o (many, rightly) held is = life_in c.orders rightly.orders_fit (sym held ∙ is)
  where
    life_in : (orders : List CarryOrder) → All OrderFits orders
        → option_map order_from (first_with addr_of_order addr orders) ≡ Some o → o.life < 2 ^ 24
    life_in [] fit found = absurd cc
    life_in (x ∷ orders) fit found =
        by_key (x.addr == addr) (λ rest. life_in orders (All-tail OrderFits x orders fit) rest) found
      where
        by_key : (here : Bool)
            → (option_map order_from (first_with addr_of_order addr orders) ≡ Some o → o.life < 2 ^ 24)
            → option_map order_from (cond here (Some x) (first_with addr_of_order addr orders)) ≡ Some o
            → o.life < 2 ^ 24
        by_key true later same =
            subst (λ (y : OpenOrder). y.life < 2 ^ 24) (same_Some (order_from x) o same)
            (All-head OrderFits x orders fit).life
        by_key false later same = later same

-- one device more
replays_more : (ds : List DeviceSetup) (ks : List JobDesk) (d : DeviceSetup) (desk : JobDesk) (k : Known)
    → AllReplay ds ks k → ReplaysAt d desk k → AllReplay (ds ++ d ∷ []) (ks ++ desk ∷ []) k
replays_more [] [] d desk k all this = (this, tt)
replays_more [] (e ∷ ks) d desk k all this = absurd all
replays_more (e ∷ ds) [] d desk k all this = absurd all
replays_more (e ∷ ds) (m ∷ ks) d desk k all this = (all.0, replays_more ds ks d desk k all.1 this)

pub resumed_more : (ds : List DeviceSetup) (ks new : List JobDesk) (i : ℕ) (d : DeviceSetup) (desk : JobDesk) (c : Carry)
    → i < length ds → d ≡ get_or ds i d → new ≡ ks ++ desk ∷ [] → desk.epoch ≡ epoch_held d.addr c
    → order_of desk.orders.order ≡ order_held d.addr c → desk.orders.id ≡ 0 → desk.orders.begun ≡ None
    → ((setup : Setup) → AllReplay (take i ds) ks (known_by setup c))
    → (setup : Setup) → AllReplay (take (i + 1) ds) new (known_by setup c)
resumed_more ds ks new i d desk c within at pushed epoch order id begun all setup =
    let k = known_by setup c in
    let longer : take (i + 1) ds ≡ take i ds ++ d ∷ [] =
    (take_at_read ds i d within).1 ∙ ap (λ x. take i ds ++ x ∷ []) (sym at) in
    subst (λ es. AllReplay es new k) (sym longer)
    (subst (λ ls. AllReplay (take i ds ++ d ∷ []) ls k) (sym pushed)
    (replays_more (take i ds) ks d desk k (all setup) (record { epoch_is = epoch; order_is = order; id_is = id; begun_is = begun })))

-- what is known of each device alone counts
pub replays_same : (ds : List DeviceSetup) (ks : List JobDesk) (k m : Known)
    → ((addr : ℕ) → k.epoch_at addr ≡ m.epoch_at addr) → ((addr : ℕ) → k.order_at addr ≡ m.order_at addr)
    → AllReplay ds ks k → AllReplay ds ks m
replays_same [] [] k m epochs orders all = tt
replays_same [] (e ∷ ks) k m epochs orders all = absurd all
replays_same (d ∷ ds) [] k m epochs orders all = absurd all
replays_same (d ∷ ds) (e ∷ ks) k m epochs orders all = (
  record {
    epoch_is = all.0.epoch_is ∙ epochs d.addr;
    order_is = all.0.order_is ∙ orders d.addr;
    id_is = all.0.id_is;
    begun_is = all.0.begun_is;
  },
  replays_same ds ks k m epochs orders all.1,
)
