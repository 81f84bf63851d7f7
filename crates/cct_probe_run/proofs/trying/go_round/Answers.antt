use Rattle.std.proofs.Common.{[], ◌∷◌, arith, refl}
use Rattle.cct_probe_run.proofs.Playing.{step_of}
use Rattle.cct_probe_run.proofs.Showing.{shows_broken}
use Rattle.cct_probe_run.proofs.Tried.{at_place, round_left, steps_next}
use Rattle.cct_probe_run.specs.Plays.{not_begun}
use Rattle.cct_probe_run.proofs.trying.go_round.Goals as goal

pub returns-in-Broken-clause-shows : goal.returns-in-Broken-clause-shows
returns-in-Broken-clause-shows g c = shows_broken c.args.plan.setup.now (c.args.trial.now ∷ []) c.args.turn.premise c.in-Broken.premise
    c.act.new.bench.sent.items c.in_ok-act.field-0
    (c.in_ok-act.ensures.shows (c.args.trial.now ∷ []) (step_of (c.args.trial.now ∷ []) c.args.trial.now _ (0, omega arith, refl)
    (c.loop-step.step-index, omega arith, at_place c.args.trial.now.steps.now c.loop-step.step-index _ (omega arith)))) c.in-Broken.is

pub returns-in-Untried-clause-came : goal.returns-in-Untried-clause-came
returns-in-Untried-clause-came g c = round_left g.L.Line.reads g.L.Line.writes g.K.Sink.puts c.args.plan.setup.now c.args.plan.trials.now
    c.args.turn.device.now c.args.turn.round c.args.turn.premise c.args.trial.now.steps.now c.loop-step.step-index
    c.loop-step.memory c.act.new.memory c.args.bench.now c.loop-step.bench c.act.new.bench _ c.in_ok-act.field-0 c.in-Untried.why
    c.loop-step-test.true (c.loop-step.invariant.plays c.args.bench.now not_begun) c.in_ok-act.ensures.came c.in-Untried.is

pub loop-step-preserved : goal.loop-step-preserved
loop-step-preserved g c = record {
  plays = λ first played. c.act.ensures.plays first (c.loop-step.invariant.plays first played);
  steps = steps_next g.L.Line.reads g.L.Line.writes g.K.Sink.puts c.args.plan.setup.now c.args.plan.trials.now
      c.args.turn.device.now c.args.turn.round c.args.turn.premise c.args.trial.now.steps.now c.loop-step.step-index
      c.args.memory.now c.loop-step.memory c.act.new.memory c.args.bench.now c.loop-step.bench c.act.new.bench _ c.in_ok-act.field-0
      c.loop-step-test.true c.loop-step.invariant.steps c.in_ok-act.ensures.came c.in-On.is;
}
