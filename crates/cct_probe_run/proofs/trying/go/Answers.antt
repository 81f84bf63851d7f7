use Rattle.std.proofs.Common.{[], arith}
use Rattle.cct_probe_run.proofs.Tried.{round_done, rounds_left, rounds_more, rounds_whole}
use Rattle.cct_probe_run.specs.Plays.{not_begun}
use Rattle.cct_probe_run.proofs.trying.go.Goals as goal

pub returns-in-Untried-clause-came : goal.returns-in-Untried-clause-came
returns-in-Untried-clause-came g c = (
  c.loop-round.bench,
  c.loop-round.round,
  c.loop-round.invariant.plays c.args.bench.now not_begun,
  rounds_left g.L.Line.reads g.L.Line.writes g.K.Sink.puts c.args.plan.setup.now c.args.plan.trials.now c.args.device.now c.loop-round.round c.args.trial.now.premise
      c.args.trial.now.steps.now c.loop-round.memory c.go_round.new.memory c.loop-round.bench c.go_round.new.bench c.in_ok-go_round.field-0
      c.in-Untried.why c.in_ok-go_round.ensures.came c.in-Untried.is,
)

pub loop-round-preserved : goal.loop-round-preserved
loop-round-preserved g c = record {
  plays = λ first played. c.go_round.ensures.plays first (c.loop-round.invariant.plays first played);
  rounds = rounds_more g.L.Line.reads g.L.Line.writes g.K.Sink.puts c.args.plan.setup.now c.args.plan.trials.now c.args.device.now c.args.trial.now c.loop-round.round
      c.args.memory.now c.loop-round.memory c.go_round.new.memory c.args.bench.now c.loop-round.bench c.go_round.new.bench
      c.loop-round.invariant.rounds
      (round_done g.L.Line.reads g.L.Line.writes g.K.Sink.puts c.args.plan.setup.now c.args.plan.trials.now c.args.device.now c.loop-round.round c.args.trial.now.premise
      c.args.trial.now.steps.now c.loop-round.memory c.go_round.new.memory c.loop-round.bench c.go_round.new.bench c.in_ok-go_round.field-0
      c.in_ok-go_round.ensures.came c.in-On.is);
}

pub returns-in_ok-tell_spans-clause-came : goal.returns-in_ok-tell_spans-clause-came
returns-in_ok-tell_spans-clause-came g c = (
  c.loop-round.bench,
  rounds_whole g.L.Line.reads g.L.Line.writes g.K.Sink.puts c.args.plan.setup.now c.args.plan.trials.now c.args.device.now c.args.trial.now c.loop-round.round c.args.trial.now.rounds
      c.args.memory.now c.loop-round.memory c.args.bench.now c.loop-round.bench (omega arith) c.loop-round.invariant.rounds,
  c.tell_spans.ensures.plays c.args.plan.setup.now [] c.loop-round.bench not_begun,
)

pub returns-else-eq-clause-came : goal.returns-else-eq-clause-came
returns-else-eq-clause-came g c = (
  c.loop-round.bench,
  rounds_whole g.L.Line.reads g.L.Line.writes g.K.Sink.puts c.args.plan.setup.now c.args.plan.trials.now c.args.device.now c.args.trial.now c.loop-round.round c.args.trial.now.rounds
      c.args.memory.now c.loop-round.memory c.args.bench.now c.loop-round.bench (omega arith) c.loop-round.invariant.rounds,
  not_begun,
)
