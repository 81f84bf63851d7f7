use Rattle.std.proofs.Common.{◌∙◌, [], arith, refl, subst, sym}
use Rattle.cct_probe_plan.specs.declared.plan.Ask.TheVariants as ask
use Rattle.cct_probe_plan.specs.declared.plan.Say.TheVariants as say
use Rattle.cct_probe_run.specs.declared.acting.TheConstants.{MOST_WAITS}
use Rattle.cct_probe_run.specs.Leaving.{Sent}
use Rattle.cct_probe_run.specs.Plays.{not_begun}
use Rattle.cct_probe_run.proofs.Tried.{unpaid_more, unpaid_whole}
use Rattle.cct_probe_run.proofs.acting.wait.Goals as goal

pub loop-asked-preserved : goal.loop-asked-preserved
loop-asked-preserved g c = record {
  plays = λ first played. c.tell_wire.ensures.plays c.args.plan.setup.now c.args.plan.trials.now first
      (c.exchange.ensures.plays first (c.loop-asked.invariant.plays first played));
  unpaid = unpaid_more g.L.Line.reads g.L.Line.writes g.K.Sink.puts c.args.plan.setup.now c.args.plan.trials.now c.args.turn.device.now c.args.turn.round
      c.loop-asked._asked c.args.bench.now c.loop-asked.bench c.exchange.new.self c.tell_wire.new.self c.loop-asked.invariant.unpaid
      (subst (λ t. Sent g.L.Line.reads g.L.Line.writes g.K.Sink.puts c.args.plan.setup.now t.device.now t.round (say.Ask (ask.Plain 166))
      c.loop-asked.bench c.exchange.new.self) c.slow-slow.ensures (c.exchange.ensures.heard c.in-Heard.is))
      (sym c.has_paid-is_paid.ensures ∙ c.if-is_paid.false) (c.tell_wire.ensures.plays c.args.plan.setup.now [] c.exchange.new.self not_begun);
}

pub returns-then-is_silent-clause-shows : goal.returns-then-is_silent-clause-shows
returns-then-is_silent-clause-shows g c = λ trials. c.listen.ensures.shows trials

pub returns-then-is_paid-clause-came : goal.returns-then-is_paid-clause-came
returns-then-is_paid-clause-came g c = λ kept. (
  refl,
  record {
    mid = c.loop-asked.bench;
    next = c.exchange.new.self;
    plays = c.loop-asked.invariant.plays c.args.bench.now not_begun;
    sent = subst (λ t. Sent g.L.Line.reads g.L.Line.writes g.K.Sink.puts c.args.plan.setup.now t.device.now t.round (say.Ask (ask.Plain 166))
        c.loop-asked.bench c.exchange.new.self) c.slow-slow.ensures (c.exchange.ensures.heard c.in-Heard.is);
    paid = sym c.has_paid-is_paid.ensures ∙ c.if-is_paid.true;
    rests = c.tell_wire.ensures.plays c.args.plan.setup.now [] c.exchange.new.self not_begun;
  },
)

pub returns-clause-came : goal.returns-clause-came
returns-clause-came g c = λ kept. unpaid_whole g.L.Line.reads g.L.Line.writes g.K.Sink.puts c.args.plan.setup.now c.args.plan.trials.now
    c.args.turn.device.now c.args.turn.round c.loop-asked._asked MOST_WAITS c.args.bench.now c.loop-asked.bench (omega arith) c.loop-asked.invariant.unpaid
