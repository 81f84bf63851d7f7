use Rattle.cct_journal_carry.proofs.Carried.{available_carried, epoch_carried, named_carried, opened_carried, order_carried, reserved_carried}
use Rattle.cct_journal_carry.proofs.laws.a_carry_tells_what_its_records_tell.Goals as goal

pub returns : goal.returns
returns c = record {
  epochs = epoch_carried;
  orders = order_carried;
  opened = opened_carried;
  named = named_carried;
  reserved = reserved_carried;
  available = available_carried;
}
