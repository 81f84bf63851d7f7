use Rattle.cct_probe_run.proofs.Sending.{plays_on}
use Rattle.cct_probe_run.specs.Plays.{not_begun}
use Rattle.cct_probe_run.proofs.leaving.close_once.Goals as goal

pub returns-then-eq-clause-sends : goal.returns-then-eq-clause-sends
returns-then-eq-clause-sends g c = λ none. (c.args.bench.now, c.exchange.new.self, not_begun, c.exchange.ensures.sent none, not_begun)

pub returns-clause-plays : goal.returns-clause-plays
returns-clause-plays g c = λ first played. plays_on g.L.Line.reads g.L.Line.writes g.K.Sink.puts c.args.plan.setup.now c.args.plan.trials.now
    first c.exchange.new.self c.tell_closed.new.bench (c.exchange.ensures.plays first played)
    (c.tell_closed.ensures.rests c.exchange.new.self not_begun)

pub returns-clause-sends : goal.returns-clause-sends
returns-clause-sends g c = λ none. (
  c.args.bench.now,
  c.exchange.new.self,
  not_begun,
  c.exchange.ensures.sent none,
  c.tell_closed.ensures.rests c.exchange.new.self not_begun,
)
