use Rattle.cct_laws_live.proofs.Routes.{legal_few_routed, legal_routed, life_few_routed, life_routed, live_few_routed, live_routed}
use Rattle.cct_laws_live.proofs.each_route_is_sent_once.Goals as goal

pub returns : goal.returns
returns c = record {
  each = legal_routed;
  few = legal_few_routed;
  live_each = live_routed;
  live_few = live_few_routed;
  life_each = life_routed;
  life_few = life_few_routed;
}
