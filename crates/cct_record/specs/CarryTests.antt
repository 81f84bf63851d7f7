-- What holds of a carry that was read from bodies before it is tested.
use Rattle.std.specs.Prelude.{All}
use Rattle.cct_model_lines.specs.Carried.{EpochFits, OrderFits}
use Rattle.cct_model_lines.specs.declared.carry.Carry.{Carry}

-- The numbers of the epochs and the orders of a carry fit their bytes.
pub record EntriesFit (c : Carry) : Type 0 where
  pub epochs : All EpochFits c.epochs
  pub orders : All OrderFits c.orders
