use Rattle.cct_probe_run.proofs.Tried.{some_heard}
use Rattle.cct_probe_run.specs.Plays.{not_begun}
use Rattle.cct_probe_run.proofs.runner.try_all.Goals as goal

pub returns-in_ok-tell_promises-in-Some-clause-tries : goal.returns-in_ok-tell_promises-in-Some-clause-tries
returns-in_ok-tell_promises-in-Some-clause-tries g c = some_heard g.L.Line.reads g.L.Line.writes g.K.Sink.puts c.args.plan.setup.now c.args.plan.trials.now
    c.in-Some.device.now c.args.bench.now c.try_devices.new.bench c.run_line.new.bench c.tell_promises.new.bench c.in_ok-is_heard.ensures.tried
    (c.try_devices.ensures.plays c.args.bench.now not_begun) c.in_ok-run_line-in-Some.ensures.tried
    (c.run_line.ensures.plays c.try_devices.new.bench not_begun)
    (c.tell_promises.ensures.plays c.args.plan.setup.now c.args.plan.trials.now c.run_line.new.bench not_begun)
