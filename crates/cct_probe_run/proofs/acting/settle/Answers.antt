use Rattle.std.proofs.Common.{refl}
use Rattle.cct_probe_run.specs.Plays.{not_begun}
use Rattle.cct_probe_run.proofs.acting.settle.Goals as goal

pub returns-then-is_none-clause-came : goal.returns-then-is_none-clause-came
returns-then-is_none-clause-came g c = λ kept. (
  refl,
  c.tell_wire.ensures.plays c.args.plan.setup.now c.args.plan.trials.now c.args.bench.now
      (c.exchange.ensures.plays c.args.bench.now (c.loop.invariant c.args.bench.now not_begun)),
)

pub returns-clause-came : goal.returns-clause-came
returns-clause-came g c = λ kept. (refl, c.loop.invariant c.args.bench.now not_begun)
