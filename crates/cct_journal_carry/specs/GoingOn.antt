-- What it takes for a carry to go on by one more record.
use Rattle.std.specs.Prelude.{◌≡◌, ℕ, ◌+◌, ◌-◌, ◌^◌, ◌<◌, ◌≤◌, true, length, ⊤}
use Rattle.cct_model.specs.terms.coin.TheConstants.{EVENTS}
use Rattle.cct_model.specs.terms.device.TheConstants.{DEVICES}
use Rattle.cct_model.specs.terms.device.Setup.{Setup}
use Rattle.cct_model.specs.lines.record.Record.{Record}
use Rattle.cct_model.specs.lines.record.Record.TheVariants as record_of
use Rattle.cct_model.specs.lines.carry.Carry.{Carry}
use Rattle.cct_model.specs.Carry.{IsSafe, follows_carry, owed_by}
use Rattle.cct_model.specs.Setup.{IsSoundSetup}

-- The numbers of a record that a carry keeps or adds up fit their bytes, and its coins fit a
-- record.
abbrev pub IsInReach : Record → Type 0
IsInReach (record_of.Epoch addr mask accepts) = (addr < 256) × (mask < 2 ^ 16) × (accepts < 2 ^ 24)
IsInReach (record_of.Reading addr counter lost accepts posted) =
    (counter < 256) × (lost < 2 ^ 24) × (accepts < 2 ^ 24) × (length posted ≤ EVENTS)
IsInReach (record_of.Broken addr seen counter lost accepts posted) =
    (lost < 2 ^ 24) × (length posted ≤ EVENTS)
IsInReach (record_of.Opened id addr count life) =
    (id < 2 ^ 32) × (addr < 256) × (count < 256) × (life < 2 ^ 24)
IsInReach (record_of.Closed id paid unpaid) = (paid < 256) × (unpaid < 256)
IsInReach (record_of.Sold id price) = (id < 2 ^ 32) × (price < 2 ^ 32)
IsInReach r = ⊤

-- What is posted covers what was paid and sold and what is reserved.
abbrev pub IsCovered : Setup → Carry → Type 0
IsCovered setup c = c.paid_value + c.odd_value + c.sold + owed_by setup c.orders ≤ c.value

-- A carry can go on by a record: it is safe for fewer than 2 ^ 32 - 1 records on a sound setup, and
-- the record follows.
pub record CanGoOn (setup : Setup) (c : Carry) (r : Record) : Type 0 where
  pub sound : IsSoundSetup setup
  pub devices : length setup.devices ≤ DEVICES
  pub many : ℕ
  pub few : many < 2 ^ 32 - 1
  pub safe : IsSafe setup many c
  pub follows : follows_carry setup c r ≡ true
