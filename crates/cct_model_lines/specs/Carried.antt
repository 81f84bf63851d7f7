-- What a carry is: what a host needs of all records before some of them.
use Rattle.std.specs.Prelude.{◌≡◌, ℕ, ◌+◌, ◌*◌, ◌^◌, ◌<◌, ◌≤◌, nat_lt, ◌==◌, List, [], ◌∷◌, length}
use Rattle.std.specs.Prelude.{map, All, Option, Some, None}
use Rattle.std.specs.Prelude.{if◌then◌else◌, ⊤}
use Rattle.std.proofs.Props.{props}
use Rattle.cct_model_lines.specs.terms.device.TheConstants.{DEVICES}
use Rattle.cct_model_lines.specs.declared.carry.CarryEpoch.{CarryEpoch}
use Rattle.cct_model_lines.specs.declared.carry.CarryOrder.{CarryOrder}
use Rattle.cct_model_lines.specs.declared.carry.Carry.{Carry}

-- The carry of no record.
abbrev pub empty_carry : Carry
empty_carry = record {
  last_id = 0;
  value = 0;
  paid_value = 0;
  odd_value = 0;
  posted = 0;
  lost = 0;
  paid = 0;
  unpaid = 0;
  sold = 0;
  epochs = [];
  orders = [];
}

-- The address of an epoch.
abbrev pub addr_of_epoch : CarryEpoch → ℕ
addr_of_epoch e = e.addr

-- The address of the hopper of an order.
abbrev pub addr_of_order : CarryOrder → ℕ
addr_of_order o = o.addr

-- The id of an order.
abbrev pub id_of_order : CarryOrder → ℕ
id_of_order o = o.id

-- The first that has this key, or none.
abbrev pub first_with : {X : Type 0} → (X → ℕ) → ℕ → List X → Option X
first_with key wanted [] = None
first_with key wanted (x ∷ xs) = if key x == wanted then Some x else first_with key wanted xs

-- One more in front, or none.
abbrev pub with_some : {X : Type 0} → Option X → List X → List X
with_some None xs = xs
with_some (Some x) xs = x ∷ xs

-- The same in rising order of key, with this in the place of what has this key, or nothing.
abbrev pub set_with : {X : Type 0} → (X → ℕ) → ℕ → Option X → List X → List X
set_with key at new [] = with_some new []
set_with key at new (x ∷ xs) =
    if nat_lt (key x) at then x ∷ set_with key at new xs
    else if key x == at then with_some new xs
    else with_some new (x ∷ xs)

-- A number is below the first of some.
abbrev pub IsBelow : ℕ → List ℕ → Type 0
IsBelow a [] = ⊤
IsBelow a (b ∷ bs) = a < b

-- Numbers rise strictly.
abbrev pub Rise : List ℕ → Type 0
Rise [] = ⊤
Rise (a ∷ later) = IsBelow a later × Rise later

-- No sum is above 2 ^ 32 times so many records.
pub record AreSmall (many : ℕ) (c : Carry) : Type 0 where
  pub value : c.value ≤ 2 ^ 32 * many
  pub paid_value : c.paid_value ≤ 2 ^ 32 * many
  pub odd_value : c.odd_value ≤ 2 ^ 32 * many
  pub posted : c.posted ≤ 2 ^ 32 * many
  pub lost : c.lost ≤ 2 ^ 32 * many
  pub paid : c.paid ≤ 2 ^ 32 * many
  pub unpaid : c.unpaid ≤ 2 ^ 32 * many
  pub sold : c.sold ≤ 2 ^ 32 * many

-- The numbers of an epoch fit their bytes; of an accept counter these are three.
pub record EpochFits (e : CarryEpoch) : Type 0 where
  pub addr : e.addr < 256
  pub mask : e.mask < 2 ^ 16
  pub counter : e.counter < 256
  pub accepts : e.accepts < 2 ^ 24

-- The numbers of an order fit their bytes; of a life count these are three.
pub record OrderFits (o : CarryOrder) : Type 0 where
  pub id : o.id < 2 ^ 32
  pub addr : o.addr < 256
  pub count : o.count < 256
  pub life : o.life < 2 ^ 24

-- A carry may be that of so many records: its epochs and its orders stand in strictly rising order
-- of address, at most 32 together and at most as many as records; its sums are small; all numbers
-- fit their bytes; and of no record it is the empty carry.
pub record IsRightly (many : ℕ) (c : Carry) : Type 0 where
  pub epochs_rise : Rise (map addr_of_epoch c.epochs)
  pub orders_rise : Rise (map addr_of_order c.orders)
  pub epochs_fit : All EpochFits c.epochs
  pub orders_fit : All OrderFits c.orders
  pub epochs_few : length c.epochs ≤ DEVICES
  pub orders_few : length c.orders ≤ DEVICES
  pub few : length c.epochs + length c.orders ≤ 32
  pub each : length c.epochs + length c.orders ≤ many
  pub small : AreSmall many c
  pub last : c.last_id < 2 ^ 32
  -- What else a carry of no record has is 0 by the two lines before these.
  pub none_used : many ≡ 0 → c.last_id ≡ 0

-- That a carry may be that of so many records has one proof at most, so that a value can keep it.

IsBelow-prop : (a : ℕ) (bs : List ℕ) → IsProp (IsBelow a bs)
IsBelow-prop a [] = hlevel props
IsBelow-prop a (b ∷ bs) = hlevel props

Rise-prop : (xs : List ℕ) → IsProp (Rise xs)
Rise-prop [] = hlevel props
Rise-prop (a ∷ later) = hlevel (props, IsBelow-prop, Rise-prop later)

AreSmall-prop : (many : ℕ) (c : Carry) → IsProp (AreSmall many c)
AreSmall-prop many c = hlevel props

EpochFits-prop : (e : CarryEpoch) → IsProp (EpochFits e)
EpochFits-prop e = hlevel props

OrderFits-prop : (o : CarryOrder) → IsProp (OrderFits o)
OrderFits-prop o = hlevel props

pub IsRightly-prop : (many : ℕ) (c : Carry) → IsProp (IsRightly many c)
IsRightly-prop many c = hlevel (props, Rise-prop, AreSmall-prop, EpochFits-prop, OrderFits-prop)
