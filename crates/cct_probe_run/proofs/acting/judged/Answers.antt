use Rattle.std.proofs.Common.{[], inr}
use Rattle.std.proofs.lemmas.Result.{IfOk-weaker}
use Rattle.cct_probe_run.proofs.Asking.{asked, unanswered, untold_came}
use Rattle.cct_probe_plan.specs.declared.plan.Step.TheVariants as step
use Rattle.cct_probe_run.specs.declared.acting.Done.TheVariants as done
use Rattle.cct_probe_run.specs.declared.findings.Why.TheVariants as why
use Rattle.cct_probe_run.specs.Doing.{StepCame}
use Rattle.cct_probe_run.specs.Plays.{not_begun}
use Rattle.cct_probe_run.specs.Showing.{IsOrLate}
use Rattle.cct_probe_run.proofs.acting.judged.Goals as goal

pub returns-in_ok-tell_wire-in-Silence-clause-shows : goal.returns-in_ok-tell_wire-in-Silence-clause-shows
returns-in_ok-tell_wire-in-Silence-clause-shows g c = λ trials say of_plan bytes. c.listen.ensures.shows trials

pub returns-in_ok-tell_wire-in-Untold-clause-shows : goal.returns-in_ok-tell_wire-in-Untold-clause-shows
returns-in_ok-tell_wire-in-Untold-clause-shows g c = λ trials say of_plan bytes. c.listen-in-Untold.ensures.shows trials

pub returns-in_ok-tell_wire-in-Right-clause-came : goal.returns-in_ok-tell_wire-in-Right-clause-came
returns-in_ok-tell_wire-in-Right-clause-came g c = λ say first sent.
    asked g.L.Line.reads g.L.Line.writes g.K.Sink.puts c.args.plan.setup.now c.args.plan.trials.now
    c.args.turn.device.now c.args.turn.round c.args.turn.premise say c.args.want c.args.memory.now c.judge.new.memory first c.args.bench.now c.tell_wire.new.self
    c.sent.result.now c.heard.result.now c.judge.result c.sent.ensures c.heard.ensures sent c.judge.ensures.shown c.in-Right.is
    c.judge.ensures.numbers c.judge.ensures.reply (c.tell_wire.ensures.plays c.args.plan.setup.now [] c.args.bench.now not_begun)

pub returns-in_ok-tell_wire-in-Untold-clause-came : goal.returns-in_ok-tell_wire-in-Untold-clause-came
returns-in_ok-tell_wire-in-Untold-clause-came g c = λ say first sent. IfOk-weaker c.listen-in-Untold.result (IsOrLate (done.Untried why.Silent))
    (StepCame g.L.Line.reads g.L.Line.writes g.K.Sink.puts c.args.plan.setup.now c.args.plan.trials.now c.args.turn.device.now c.args.turn.round c.args.turn.premise
    (step.Asks say c.args.want) c.args.memory.now c.judge.new.memory first c.listen-in-Untold.new.bench)
    (λ came late. untold_came g.L.Line.reads g.L.Line.writes g.K.Sink.puts c.args.plan.setup.now c.args.plan.trials.now
    c.args.turn.device.now c.args.turn.round c.args.turn.premise say c.args.want c.args.memory.now c.judge.new.memory first c.args.bench.now c.listen-in-Untold.new.bench
    c.sent.result.now c.heard.result.now c.judge.result came c.sent.ensures c.heard.ensures sent c.judge.ensures.shown c.in-Untold.is
    (c.listen-in-Untold.ensures.plays c.args.bench.now
    (c.tell_wire-in-Untold.ensures.plays c.args.plan.setup.now c.args.plan.trials.now c.args.bench.now not_begun)) late)
    c.listen-in-Untold.ensures.came

pub returns-in_ok-tell_wire-in-Refused-clause-came : goal.returns-in_ok-tell_wire-in-Refused-clause-came
returns-in_ok-tell_wire-in-Refused-clause-came g c = λ say first sent.
    unanswered g.L.Line.reads g.L.Line.writes g.K.Sink.puts c.args.plan.setup.now c.args.plan.trials.now
    c.args.turn.device.now c.args.turn.round c.args.turn.premise say c.args.want c.args.memory.now first c.args.bench.now c.tell_wire-in-Refused.new.self
    c.sent.result.now c.heard.result.now c.judge.result c.sent.ensures c.heard.ensures sent c.judge.ensures.shown (inr c.in-Refused.is)
    (c.tell_wire-in-Refused.ensures.plays c.args.plan.setup.now c.args.plan.trials.now c.args.bench.now not_begun)
