-- By the carry of records that follow one another the same records follow as by the list of them.
use Rattle.std.proofs.Common.{◌≡◌, ℕ, ◌+◌, ◌==◌, ◌&&◌, nat_le, not, Bool, true, false, List, Option, is_none, is_some, refl, ap, ap₂, ◌∙◌, arith}
use Rattle.cct_model.specs.terms.device.Setup.{Setup}
use Rattle.cct_model.specs.lines.record.Record.{Record}
use Rattle.cct_model.specs.lines.record.Record.TheVariants as record_of
use Rattle.cct_model.specs.declared.judging.OpenOrder.{OpenOrder}
use Rattle.cct_model.specs.Setup.{IsSoundSetup}
use Rattle.cct_model.specs.Carry.{available_held, carry, follows_carry, order_with, owner_by}
use Rattle.cct_model.specs.Exchange.{device_at, hopper_there, taker_there}
use Rattle.cct_model.specs.Following.{all_follow, count_of, follows, has_values, is_running}
use Rattle.cct_model.specs.Money.{available_beside, available_in, coins_of}
use Rattle.cct_model.specs.Records.{is_open, order_in, order_named}
use Rattle.cct_journal_carry.proofs.Carried.{available_carried, epoch_carried, named_carried, opened_carried, order_carried}

-- nothing is reserved beside
pub available_alone : (setup : Setup) (before : List Record) → IsSoundSetup setup → all_follow setup before ≡ true →
    available_held setup (carry setup before) 0 ≡ available_in setup before
available_alone setup before sound follow =
    available_carried setup before sound follow 0 ∙ beside_none
  where
    beside_none : available_beside setup before 0 ≡ available_in setup before
    beside_none = omega arith

-- coins are counted only of an order that is open
counts_same : (b : Bool) (many : ℕ) (held named : Option OpenOrder) → (b ≡ true → held ≡ named) →
    (b && (many == count_of held)) ≡ (b && (many == count_of named))
counts_same true many held named same = ap (λ o. many == count_of o) (same refl)
counts_same false many held named same = refl

-- a record follows the carry where it follows the records
pub follows_carried : (setup : Setup) (before : List Record) → IsSoundSetup setup → all_follow setup before ≡ true →
    (r : Record) → follows_carry setup (carry setup before) r ≡ follows setup before r
follows_carried setup before sound follow (record_of.Epoch addr mask accepts) =
    ap (λ state. taker_there (device_at setup.devices addr) && not (is_running state) && not (mask == 0)
    && has_values (device_at setup.devices addr) mask)
    (epoch_carried setup before sound follow addr)
follows_carried setup before sound follow (record_of.Opened id addr count life) =
    ap (λ owed. hopper_there (device_at setup.devices addr) && is_none owed && not (id == 0)
    && not (is_some (order_with id (carry setup before))) && not (count == 0)
    && nat_le (coins_of setup addr count) (available_held setup (carry setup before) 0))
    (order_carried setup before sound follow addr)
    ∙ ap₂ (λ opened available. hopper_there (device_at setup.devices addr) && is_none (order_in addr before)
    && not (id == 0) && not opened && not (count == 0) && nat_le (coins_of setup addr count) available)
    (opened_carried setup before sound follow id) (available_alone setup before sound follow)
follows_carried setup before sound follow (record_of.Closed id paid unpaid) =
    ap (λ opened. opened && (paid + unpaid == count_of (order_with id (carry setup before))))
    (opened_carried setup before sound follow id)
    ∙ counts_same (is_open id before) (paid + unpaid) (order_with id (carry setup before)) (order_named id before)
    (named_carried setup before sound follow id)
follows_carried setup before sound follow (record_of.Odd id life_before life_after) =
    opened_carried setup before sound follow id
follows_carried setup before sound follow (record_of.Sold id price) =
    ap (λ available. not (id == 0) && not (price == 0) && nat_le price available)
    (available_alone setup before sound follow)
follows_carried setup before sound follow r =
    ap is_running (epoch_carried setup before sound follow (owner_by (carry setup before) r))
