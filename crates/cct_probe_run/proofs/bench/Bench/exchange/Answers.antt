use Rattle.std.proofs.Common.{ap, refl, ◌+◌}
use Rattle.cct_probe_run.proofs.Playing.{one_exchange}
use Rattle.cct_probe_run.proofs.bench.Bench.exchange.Goals as goal

pub returns : goal.returns
returns g c = record {
  plays = λ first played. one_exchange c.args.turn.device.now c.args.turn.round c.args.say c.requires.of_plan c.requires.there
      (c.is_order.ensures.some c.if-not-is_order.false) refl refl refl
      (ap (λ coins. c.args.self.now.asked + coins) c.coins_of-coins.ensures.value) refl c.give.ensures.gives played;
  bytes = λ heard. c.give.ensures.gives.bytes;
  sent = λ none. record {
    bytes = c.give.ensures.gives.bytes;
    gap = c.give.ensures.gives.gap;
    gives = c.give.ensures.gives.gives;
    out = c.give.ensures.gives.out;
  };
  heard = λ heard. record {
    bytes = c.give.ensures.gives.bytes;
    gap = c.give.ensures.gives.gap;
    gives = c.give.ensures.gives.gives;
    out = c.give.ensures.gives.out;
  };
  no_coins = λ is. absurd (c.give.ensures.given is);
  no_order = λ is none. c.give.ensures.given is;
}
