use Rattle.std.proofs.Common.{◌≡◌, ◌∙◌, ◌+◌, None, Some, arith, subst, sym}
use Rattle.cct_live_survey.specs.Asking.{Tries, ask_value, asks_value, untried, value_in}
use Rattle.cct_live_survey.proofs.Trying.{tried_once}
use Rattle.cct_live_survey.proofs.valuing.value_of.Goals as goal

pub loop-init : goal.loop-init
loop-init g c = record { sent = c.encode_value.ensures; tries = untried }

pub returns-in-Some-clause-asked : goal.returns-in-Some-clause-asked
returns-in-Some-clause-asked g c = record {
  made = c.loop.counter + 1;
  some = omega arith;
  few = omega (arith, c.loop-test.true);
  tries = subst (λ found. Tries g.L.Link.gives (ask_value c.args.kind c.args.addr c.args.request) (value_in c.args.kind c.args.addr c.args.request) c.args.link.now (c.loop.counter + 1) found c.exchange.new.link)
      (sym c.in-Some.ensures) (tried_once _ _ (value_in c.args.kind c.args.addr c.args.request) c.args.link.now c.loop.link c.exchange.new.link c.loop.counter
      c.exchange.new.self.heard.items c.loop.invariant.sent c.loop.invariant.tries c.exchange.ensures.gives);
}

pub returns-in-Some-clause-inquires : goal.returns-in-Some-clause-inquires
returns-in-Some-clause-inquires g c = λ first before.
    asks_value c.args.kind c.args.addr c.args.request _ _ _ before (returns-in-Some-clause-asked g c)

pub loop-preserved : goal.loop-preserved
loop-preserved g c = record {
  sent = c.exchange.ensures.sent ∙ c.loop.invariant.sent;
  tries = subst (λ found. Tries g.L.Link.gives (ask_value c.args.kind c.args.addr c.args.request) (value_in c.args.kind c.args.addr c.args.request) c.args.link.now (c.loop.counter + 1) found c.exchange.new.link)
      (sym c.in-None.ensures) (tried_once _ _ (value_in c.args.kind c.args.addr c.args.request) c.args.link.now c.loop.link c.exchange.new.link c.loop.counter
      c.exchange.new.self.heard.items c.loop.invariant.sent c.loop.invariant.tries c.exchange.ensures.gives);
}

pub returns-clause-asked : goal.returns-clause-asked
returns-clause-asked g c = record {
  made = c.loop.counter;
  some = omega (arith, c.loop-test.false);
  few = omega (arith, c.loop.auto.counter-end);
  tries = c.loop.invariant.tries;
}

pub returns-clause-inquires : goal.returns-clause-inquires
returns-clause-inquires g c = λ first before.
    asks_value c.args.kind c.args.addr c.args.request _ _ _ before (returns-clause-asked g c)
