use Rattle.cct_laws_live.proofs.LifeLaws.{life_few_sent, life_sent}
use Rattle.cct_laws_live.proofs.Sends.{legal_sent, legal_few_sent}
use Rattle.cct_laws_live.proofs.Undosed.{live_few_sent, live_sent}
use Rattle.cct_laws_live.proofs.each_order_is_sent_once.Goals as goal

pub returns : goal.returns
returns c = record {
  each = legal_sent;
  few = legal_few_sent;
  live_each = live_sent;
  live_few = live_few_sent;
  life_each = life_sent;
  life_few = life_few_sent;
}
