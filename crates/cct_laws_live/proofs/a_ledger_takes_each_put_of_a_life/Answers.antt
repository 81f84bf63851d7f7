use Rattle.cct_laws_live.proofs.Carrying.{live_due_allowed}
use Rattle.cct_laws_live.proofs.LifeBooks.{life_taken}
use Rattle.cct_laws_live.proofs.a_ledger_takes_each_put_of_a_life.Goals as goal

pub returns : goal.returns
returns c = record { live = live_due_allowed; life = life_taken }
