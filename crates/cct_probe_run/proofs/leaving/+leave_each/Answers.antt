use Rattle.std.proofs.Common.{arith}
use Rattle.cct_probe_run.proofs.Sending.{empty_left, more_left}
use Rattle.cct_probe_run.proofs.leaving.+leave_each.Goals as goal

pub returns-in-empty-clause-leaves : goal.returns-in-empty-clause-leaves
returns-in-empty-clause-leaves g t c = empty_left g.L.Line.reads g.L.Line.writes g.K.Sink.puts c.args.plan.setup.now c.args.plan.trials.now c.args.devices.now
    c.args.bench.now (omega (arith, c.in-empty.len_below))

pub returns-in-len1-up-clause-leaves : goal.returns-in-len1-up-clause-leaves
returns-in-len1-up-clause-leaves g t c = more_left g.L.Line.reads g.L.Line.writes g.K.Sink.puts c.args.plan.setup.now c.args.plan.trials.now c.args.devices.now
    c.device-item.result c.args.bench.now c.close-left.new.bench c.leave_each-others.new.bench c.in-len1-up.len_at_least c.device-item.is
    c.close-left.ensures.sends c.leave_each-others.ensures.leaves
