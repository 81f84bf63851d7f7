use Rattle.cct_laws.proofs.orders.LifeCounts.{legal_life}
use Rattle.cct_laws.proofs.life_counts_fit_each_order.Goals as goal

pub returns : goal.returns
returns c = legal_life
