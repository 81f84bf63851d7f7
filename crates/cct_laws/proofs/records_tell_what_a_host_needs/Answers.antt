use Rattle.cct_laws.proofs.money.FromRecordsAlone.{epoch_recorded, held_recorded, last_recorded, order_recorded, restart_frees, totals_recorded}
use Rattle.cct_laws.proofs.money.Restarts.{entries_free}
use Rattle.cct_laws.proofs.records_tell_what_a_host_needs.Goals as goal

pub returns : goal.returns
returns c = record {
  epochs = epoch_recorded;
  orders = order_recorded;
  restart = restart_frees;
  entries = entries_free;
  totals = totals_recorded;
  last_id = last_recorded;
  held = held_recorded;
}
