use Rattle.cct_audit.proofs.Puts.{wrote_nothing}
use Rattle.cct_audit.proofs.Going.{audited_as}
use Rattle.cct_audit.specs.Writing.{BrokeLines, NeverBroke, NoLine, WroteLines}
use Rattle.cct_audit.proofs.auditing.audit.Goals as goal

pub returns-in-Ok-clause-audited : goal.returns-in-Ok-clause-audited
returns-in-Ok-clause-audited g c =
    let opened = c.in-Ok.ensures.opened in
    c.play_taps.ensures.audited (g.S.Source.left c.args.script.now) opened.0 opened.3 opened.1 opened.2

pub returns-in-Err-clause-audited : goal.returns-in-Err-clause-audited
returns-in-Err-clause-audited g c =
    let sink = g.K.Sink in
    let out = c.args.out.now in
    let ended = c.in-Err.ensures.ended in (
      ended.0,
      ended.1,
      audited_as ended.0 c.in-Err.ended c.read_watches.new.monitor (g.S.Source.left c.read_watches.new.script) NoLine
          (WroteLines sink.written sink.puts out out) NeverBroke (BrokeLines sink.written sink.puts out out)
          (λ es none. wrote_nothing sink.written sink.puts out es none) (λ xs ys never. absurd never) ended.2,
    )
