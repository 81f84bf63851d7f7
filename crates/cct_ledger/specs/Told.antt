-- What a ledger reports, by the records that it took before, newest first, and by how much is
-- reserved beside them.
use Rattle.std.specs.Prelude.{ℕ, ◌+◌, Bool, not, List}
use Rattle.cct_model.specs.terms.device.Setup.{Setup}
use Rattle.cct_model.specs.lines.record.Record.{Record}
use Rattle.cct_model.specs.lines.entry.Totals.{Totals}
use Rattle.cct_model.specs.Sums.{is_item}
use Rattle.cct_model.specs.Money.{available_beside, reserved_in, paid_in, sold_in}

-- What the operator has.
abbrev pub totals_beside : Setup → List Record → ℕ → Totals
totals_beside setup before beside = record {
  available = available_beside setup before beside;
  reserved = reserved_in setup before + beside;
  paid = paid_in setup before;
  sold = sold_in before;
}

-- A record is one of an order or of a sale, which is no item.
abbrev pub is_of_money : Record → Bool
is_of_money r = not (is_item r)
