use Rattle.std.proofs.Common.{arith}
use Rattle.cct_probe_run.proofs.Sending.{empty_said, more_said}
use Rattle.cct_probe_run.proofs.leaving.+close_steps.Goals as goal

pub returns-in-empty-clause-sends : goal.returns-in-empty-clause-sends
returns-in-empty-clause-sends g t c = empty_said g.L.Line.reads g.L.Line.writes g.K.Sink.puts c.args.plan.setup.now c.args.turn.device.now c.args.turn.round
    c.args.steps.now c.args.bench.now (omega (arith, c.in-empty.len_below))

pub returns-in-len1-up-clause-sends : goal.returns-in-len1-up-clause-sends
returns-in-len1-up-clause-sends g t c = more_said g.L.Line.reads g.L.Line.writes g.K.Sink.puts c.args.plan.setup.now c.args.turn.device.now c.args.turn.round
    c.args.steps.now _ c.args.bench.now c.close_step-closed.new.bench c.close_steps-others.new.bench c.in-len1-up.len_at_least
    c.close_step-closed.ensures.sends c.close_steps-others.ensures.sends
