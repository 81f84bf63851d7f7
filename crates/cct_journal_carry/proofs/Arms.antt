-- What each kind of record changes in a carry.
use Rattle.std.proofs.Common.{◌≡◌, ℕ, ◌+◌, ◌^◌, ◌<◌, ◌≤◌, max, List, length, Some, None, refl, arith}
use Rattle.cct_model.specs.terms.coin.Coin.{Coin}
use Rattle.cct_model.specs.terms.coin.TheConstants.{EVENTS}
use Rattle.cct_model.specs.terms.device.Setup.{Setup}
use Rattle.cct_model.specs.lines.record.Record.{Record}
use Rattle.cct_model.specs.lines.record.Record.TheVariants as record_of
use Rattle.cct_model.specs.lines.carry.Carry.{Carry}
use Rattle.cct_model.specs.lines.carry.CarryEpoch.{CarryEpoch}
use Rattle.cct_model.specs.lines.carry.CarryOrder.{CarryOrder}
use Rattle.cct_model.specs.Carried.{addr_of_epoch, addr_of_order, set_with}
use Rattle.cct_model.specs.Carry.{carry_with, epoch_entry, epoch_held, order_with, owner_by}
use Rattle.cct_model.specs.declared.judging.EpochState.TheVariants.{Running}
use Rattle.cct_model.specs.Exchange.{device_at}
use Rattle.cct_model.specs.Job.{counted}
use Rattle.cct_model.specs.Money.{amount, coins_of, coins_value}
use Rattle.cct_model.specs.Records.{hopper_of}
use Rattle.cct_journal_carry.specs.GoingOn.{CanGoOn}
use Rattle.cct_journal_carry.proofs.Coins.{coins_most, values_most}
use Rattle.cct_journal_carry.proofs.Keeping.{same_epochs, same_orders}

-- carries with the same parts
abbrev of_parts : (a b c d e f g h i : ℕ) → List CarryEpoch → List CarryOrder → Carry
of_parts a b c d e f g h i epochs orders = record {
  last_id = a;
  value = b;
  paid_value = c;
  odd_value = d;
  posted = e;
  lost = f;
  paid = g;
  unpaid = h;
  sold = i;
  epochs = epochs;
  orders = orders;
}

same_parts : (a b c d e f g h i a' b' c' d' e' f' g' h' i' : ℕ) (j j' : List CarryEpoch) (k k' : List CarryOrder)
    → a ≡ a' → b ≡ b' → c ≡ c' → d ≡ d' → e ≡ e' → f ≡ f' → g ≡ g' → h ≡ h' → i ≡ i' → j ≡ j' → k ≡ k'
    → of_parts a b c d e f g h i j k ≡ of_parts a' b' c' d' e' f' g' h' i' j' k'
same_parts a b c d e f g h i a' b' c' d' e' f' g' h' i' j j' k k' p1 p2 p3 p4 p5 p6 p7 p8 p9 p10 p11 = cc

pub same_carry : (c d : Carry) → c.last_id ≡ d.last_id → c.value ≡ d.value → c.paid_value ≡ d.paid_value
    → c.odd_value ≡ d.odd_value → c.posted ≡ d.posted → c.lost ≡ d.lost → c.paid ≡ d.paid → c.unpaid ≡ d.unpaid
    → c.sold ≡ d.sold → c.epochs ≡ d.epochs → c.orders ≡ d.orders → c ≡ d
same_carry c d p1 p2 p3 p4 p5 p6 p7 p8 p9 p10 p11 =
    same_parts c.last_id c.value c.paid_value c.odd_value c.posted c.lost c.paid c.unpaid c.sold d.last_id d.value
    d.paid_value d.odd_value d.posted d.lost d.paid d.unpaid d.sold c.epochs d.epochs c.orders d.orders p1 p2 p3 p4 p5
    p6 p7 p8 p9 p10 p11

-- coins of no number are worth nothing
none_worth : (setup : Setup) (addr : ℕ) (n : ℕ) → coins_of setup addr 0 + n ≡ n
none_worth setup addr n = omega arith

module _ (setup : Setup) (c : Carry) where
  pub with_epoch : (addr mask accepts : ℕ) → CanGoOn setup c (record_of.Epoch addr mask accepts)
      → carry_with setup (record_of.Epoch addr mask accepts) c
      ≡ record c {
        epochs = set_with addr_of_epoch addr (epoch_entry addr (Running mask 0 accepts)) c.epochs;
      }
  with_epoch addr mask accepts can =
      same_carry (carry_with setup (record_of.Epoch addr mask accepts) c) _ (omega arith) (omega arith) (omega arith)
      (omega arith) (omega arith) (omega arith) (omega arith) (omega arith) (omega arith) refl
      (same_orders addr c can.safe.rightly.orders_rise)

  pub with_reading : (addr counter lost accepts : ℕ) (posted : List Coin)
      → CanGoOn setup c (record_of.Reading addr counter lost accepts posted)
      → carry_with setup (record_of.Reading addr counter lost accepts posted) c
      ≡ record c {
        value = c.value + coins_value (device_at setup.devices addr) posted;
        posted = c.posted + length posted;
        lost = c.lost + lost;
        epochs = set_with addr_of_epoch addr (epoch_entry addr (counted counter accepts (epoch_held addr c))) c.epochs;
      }
  with_reading addr counter lost accepts posted can =
      same_carry (carry_with setup (record_of.Reading addr counter lost accepts posted) c) _ (omega arith) (omega arith)
      (omega arith) (omega arith) (omega arith) (omega arith) (omega arith) (omega arith) (omega arith) refl
      (same_orders addr c can.safe.rightly.orders_rise)

  pub with_broken : (addr seen counter lost accepts : ℕ) (posted : List Coin)
      → CanGoOn setup c (record_of.Broken addr seen counter lost accepts posted)
      → carry_with setup (record_of.Broken addr seen counter lost accepts posted) c
      ≡ record c {
        value = c.value + coins_value (device_at setup.devices addr) posted;
        posted = c.posted + length posted;
        lost = c.lost + lost;
        epochs = set_with addr_of_epoch addr None c.epochs;
      }
  with_broken addr seen counter lost accepts posted can =
      same_carry (carry_with setup (record_of.Broken addr seen counter lost accepts posted) c) _ (omega arith) (omega arith)
      (omega arith) (omega arith) (omega arith) (omega arith) (omega arith) (omega arith) (omega arith) refl
      (same_orders addr c can.safe.rightly.orders_rise)

  pub with_end : (addr : ℕ) → CanGoOn setup c (record_of.EpochEnd addr)
      → carry_with setup (record_of.EpochEnd addr) c
      ≡ record c { epochs = set_with addr_of_epoch addr None c.epochs }
  with_end addr can =
      same_carry (carry_with setup (record_of.EpochEnd addr) c) _ (omega arith) (omega arith) (omega arith)
      (omega arith) (omega arith) (omega arith) (omega arith) (omega arith) (omega arith) refl
      (same_orders addr c can.safe.rightly.orders_rise)

  pub with_opened : (id addr count life : ℕ) → CanGoOn setup c (record_of.Opened id addr count life)
      → carry_with setup (record_of.Opened id addr count life) c
      ≡ record c {
        last_id = max id c.last_id;
        orders = set_with addr_of_order addr (Some (record { id = id; addr = addr; count = count; life = life })) c.orders;
      }
  with_opened id addr count life can =
      same_carry (carry_with setup (record_of.Opened id addr count life) c) _ refl (omega arith) (omega arith)
      (omega arith) (omega arith) (omega arith) (omega arith) (omega arith) (omega arith)
      (same_epochs addr c can.safe.rightly.epochs_rise) refl

  pub with_closed : (id paid unpaid : ℕ) → CanGoOn setup c (record_of.Closed id paid unpaid)
      → carry_with setup (record_of.Closed id paid unpaid) c
      ≡ record c {
        paid_value = c.paid_value + coins_of setup (hopper_of (order_with id c)) paid;
        paid = c.paid + paid;
        unpaid = c.unpaid + unpaid;
        orders = set_with addr_of_order (hopper_of (order_with id c)) None c.orders;
      }
  with_closed id paid unpaid can =
      same_carry (carry_with setup (record_of.Closed id paid unpaid) c) _ (omega arith) (omega arith) (omega arith)
      (omega arith) (omega arith) (omega arith) (omega arith) (omega arith) (omega arith)
      (same_epochs (hopper_of (order_with id c)) c can.safe.rightly.epochs_rise) refl

  pub with_odd : (id life_before life_after : ℕ) → CanGoOn setup c (record_of.Odd id life_before life_after)
      → carry_with setup (record_of.Odd id life_before life_after) c
      ≡ record c {
        odd_value = c.odd_value + amount setup (order_with id c);
        orders = set_with addr_of_order (hopper_of (order_with id c)) None c.orders;
      }
  with_odd id life_before life_after can =
      same_carry (carry_with setup (record_of.Odd id life_before life_after) c) _ (omega arith) (omega arith)
      (omega arith) (omega arith) (omega arith) (omega arith) (omega arith) (omega arith) (omega arith)
      (same_epochs (hopper_of (order_with id c)) c can.safe.rightly.epochs_rise) refl

  pub with_sold : (id price : ℕ) → CanGoOn setup c (record_of.Sold id price)
      → carry_with setup (record_of.Sold id price) c
      ≡ record c { last_id = max id c.last_id; sold = c.sold + price }
  with_sold id price can =
      let owner = owner_by c (record_of.Sold id price) in
      same_carry (carry_with setup (record_of.Sold id price) c) _ refl (omega arith) (omega arith) (omega arith)
      (omega arith) (omega arith) (omega arith) (omega arith) (omega arith)
      (same_epochs owner c can.safe.rightly.epochs_rise) (same_orders owner c can.safe.rightly.orders_rise)

  -- coins that are posted find room
  pub post_room : (r : Record) (addr : ℕ) (coins : List Coin) → CanGoOn setup c r → length coins ≤ EVENTS
      → c.value + coins_value (device_at setup.devices addr) coins < 2 ^ 64
  post_room r addr coins can few =
      let worth = coins_most (device_at setup.devices addr) coins 1000000
      (λ place. values_most setup.devices addr place can.sound.devices) in
      let most = can.safe.rightly.small.value in
      let many = can.few in
      omega arith
