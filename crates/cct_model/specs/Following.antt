-- Which record may follow those before it, newest first.
use Rattle.std.specs.Prelude.{ℕ, ◌+◌, ◌==◌, ◌&&◌, nat_le, not, Bool, true, false, List, [], ◌∷◌}
use Rattle.std.specs.Prelude.{Option, Some, None, is_none}
use Rattle.cct_model.specs.terms.device.DeviceSetup.{DeviceSetup}
use Rattle.cct_model.specs.terms.device.Setup.{Setup}
use Rattle.cct_model.specs.lines.record.Record.{Record}
use Rattle.cct_model.specs.Effect.{EpochMove, OrderMove, Owner, Sale, effect}
use Rattle.cct_model.specs.Effect as move
use Rattle.cct_model.specs.declared.judging.EpochState.{EpochState}
use Rattle.cct_model.specs.declared.judging.EpochState.TheVariants.{Idle, Running}
use Rattle.cct_model.specs.declared.judging.OpenOrder.{OpenOrder}
use Rattle.cct_model.specs.Exchange.{device_at, hopper_there, taker_there}
use Rattle.cct_model.specs.Records.{order_named, is_open, epoch_in, order_in}
use Rattle.cct_model.specs.Refusal.{valueless}
use Rattle.cct_model.specs.Money.{coins_of, available_in, available_beside}

-- An epoch runs.
abbrev pub is_running : EpochState → Bool
is_running Idle = false
is_running (Running mask counter accepts) = true

-- Each place of a mask has a value at a device; there has to be one.
abbrev pub has_values : Option DeviceSetup → ℕ → Bool
has_values None mask = false
has_values (Some d) mask = is_none (valueless d.body mask)

-- The number of coins of an order, 0 of none.
abbrev pub count_of : Option OpenOrder → ℕ
count_of None = 0
count_of (Some o) = o.count

-- What is known before a record: the epoch and the open order at an address, which orders are open
-- by their ids, the order of an id that is open, and what is available.
pub record Known : Type 0 where
  pub epoch_at : ℕ → EpochState
  pub order_at : ℕ → Option OpenOrder
  pub is_open : ℕ → Bool
  pub named : ℕ → Option OpenOrder
  pub available : ℕ

-- A record may follow what is known. An epoch begins at a device that takes money, with no running
-- epoch, and each place of its mask, which isn't 0, has a value. A reading, a break and an epoch's
-- end follow where an epoch runs. An order is opened at a hopper with no open order, with an id
-- that isn't 0 and with which none is open; its coins, at least one, are available. It is closed
-- where it is open, and its coins are then paid or unpaid. A sale has an id and a price that aren't
-- 0, and its price is available.
abbrev pub follows_known : Setup → Known → Record → Bool
follows_known setup k r =
    by_epoch (effect r).owned (effect r).epoch (by_order (effect r).order (by_sale (effect r).sale))
  where
    by_sale : Option Sale → Bool
    by_sale None = true
    by_sale (Some s) = not (s.id == 0) && not (s.price == 0) && nat_le s.price k.available

    by_order : OrderMove → Bool → Bool
    by_order move.none_moved more = more
    by_order (move.newly_opened id addr count life) more =
        hopper_there (device_at setup.devices addr) && is_none (k.order_at addr) && not (id == 0)
        && not (k.is_open id) && not (count == 0) && nat_le (coins_of setup addr count) k.available
    by_order (move.fitly_closed id paid unpaid) more =
        k.is_open id && (paid + unpaid == count_of (k.named id))
    by_order (move.oddly_closed id) more = k.is_open id

    by_epoch : Owner → EpochMove → Bool → Bool
    by_epoch owner move.kept more = more
    by_epoch (move.of_order id) other more = false
    by_epoch (move.of_address addr) (move.begun mask accepts) more =
        taker_there (device_at setup.devices addr) && not (is_running (k.epoch_at addr))
        && not (mask == 0)
        && has_values (device_at setup.devices addr) mask
    by_epoch (move.of_address addr) other more = is_running (k.epoch_at addr)

-- What records show before another one.
abbrev pub known_in : Setup → List Record → Known
known_in setup before = record {
  epoch_at = λ addr. epoch_in addr before;
  order_at = λ addr. order_in addr before;
  is_open = λ id. is_open id before;
  named = λ id. order_named id before;
  available = available_in setup before;
}

-- A record may follow those before it.
abbrev pub follows : Setup → List Record → Record → Bool
follows setup before r = follows_known setup (known_in setup before) r

-- Each of these records may follow those before it.
abbrev pub all_follow : Setup → List Record → Bool
all_follow setup [] = true
all_follow setup (r ∷ before) = follows setup before r && all_follow setup before

-- A ledger takes a record: one of an order or of a sale where it follows those before it, and the
-- coins of the order or the price of the sale are available beside all that is reserved; and any
-- other.
abbrev pub is_allowed : Setup → List Record → ℕ → Record → Bool
is_allowed setup before beside r = by_order (effect r).order (effect r).sale
  where
    by_order : OrderMove → Option Sale → Bool
    by_order move.none_moved None = true
    by_order move.none_moved (Some s) =
        follows setup before r && nat_le s.price (available_beside setup before beside)
    by_order (move.newly_opened id addr count life) sale =
        follows setup before r && nat_le (coins_of setup addr count)
        (available_beside setup before beside)
    by_order closed sale = follows setup before r
