-- A ledger that begins with a carry.
use Rattle.std.specs.Prelude.{◌≡◌, ℕ, map}
use Rattle.cct_model.specs.terms.device.Setup.{Setup}
use Rattle.cct_model.specs.lines.carry.Carry.{Carry}
use Rattle.cct_model.specs.Carry.{available_held, order_held, reserved_held}
use Rattle.cct_ledger.specs.declared.ledger.Ledger.{Ledger}
use Rattle.cct_ledger.specs.Ledger.{applied, available_of, reserved_of, setup_of}

-- A ledger over this setup begins with a carry of so many records: it counts them, keeps the open
-- orders of the carry, has its sums, and reserves nothing beside them.
pub record IsResumed (setup : Setup) (many : ℕ) (c : Carry) (ledger : Ledger) : Type 0 where
  pub setup_is : setup_of ledger ≡ setup
  pub counted : applied ledger ≡ many
  pub orders : ledger.orders.items ≡ map (λ d. order_held d.addr c) setup.devices
  pub available : available_of ledger ≡ available_held setup c 0
  pub owed : ledger.owed ≡ reserved_held setup c
  pub reserved : reserved_of ledger ≡ 0
  pub paid : ledger.paid ≡ c.paid_value
  pub sold : ledger.sold ≡ c.sold
