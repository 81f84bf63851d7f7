use Rattle.std.proofs.Common.{◌∙◌, sym, arith}
use Rattle.cct_probe_run.proofs.Sending.{empty_closes, more_closes}
use Rattle.cct_probe_run.proofs.leaving.+close_all.Goals as goal

pub returns-in-empty-clause-sends : goal.returns-in-empty-clause-sends
returns-in-empty-clause-sends g t c = empty_closes g.L.Line.reads g.L.Line.writes g.K.Sink.puts c.args.plan.setup.now c.args.device.now c.args.ending
    c.args.trials.now c.args.bench.now (omega (arith, c.in-empty.len_below))

pub returns-then-is_closing-clause-sends : goal.returns-then-is_closing-clause-sends
returns-then-is_closing-clause-sends g t c = more_closes g.L.Line.reads g.L.Line.writes g.K.Sink.puts c.args.plan.setup.now c.args.device.now c.args.ending
    c.args.trials.now _ c.args.bench.now c.close_by-closed.new.bench c.close_all-others.new.bench c.in-len1-up.len_at_least
    (sym c.is_closing.ensures ∙ c.if-is_closing.true) c.close_by-closed.ensures.sends c.close_all-others.ensures.sends
