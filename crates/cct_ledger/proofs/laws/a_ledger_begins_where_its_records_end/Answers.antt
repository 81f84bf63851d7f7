use Rattle.std.proofs.Common.{length, refl}
use Rattle.cct_model.specs.Carry.{carry}
use Rattle.cct_ledger.proofs.OverCarry.{resumed_stands}
use Rattle.cct_ledger.proofs.laws.a_ledger_begins_where_its_records_end.Goals as goal

pub returns : goal.returns
returns c = λ setup before ledger sound follow begun.
    resumed_stands setup (length before) (carry setup before) ledger before sound begun refl follow refl
