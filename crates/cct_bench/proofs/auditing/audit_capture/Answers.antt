use Rattle.std.proofs.Common.{subst, sym}
use Rattle.cct_edge.specs.Faults.{Rose}
use Rattle.cct_audit.specs.Writing.{BrokeLines, WroteLines}
use Rattle.cct_audit.specs.Audit.{Audited, IsUnread}
use Rattle.cct_audit.specs.declared.auditing.AuditEnd.TheVariants as ended
use Rattle.cct_bench.proofs.AuditEnds.{audit_done, audit_refused, audit_unread, audit_unwritten}
use Rattle.cct_bench.proofs.auditing.audit_capture.Goals as goal

pub returns-in-Done-clause-audited : goal.returns-in-Done-clause-audited
returns-in-Done-clause-audited g c =
    let source = g.S.Source in
    let sink = g.K.Sink in
    let out1 = c.audit.new.out in
    let audited = c.in-Done.ensures.audited in (
      audited.0,
      audited.1,
      audit_done sink.written sink.puts c.args.out.now out1 out1 audited.0 c.audit.new.monitor (source.left c.audit.new.script)
          (Rose (source.faults c.args.script.now) (source.faults c.audit.new.script)) audited.2,
    )

pub returns-in-Unwritten-clause-audited : goal.returns-in-Unwritten-clause-audited
returns-in-Unwritten-clause-audited g c =
    let source = g.S.Source in
    let sink = g.K.Sink in
    let out1 = c.audit.new.out in
    let audited = c.in-Unwritten.ensures.audited in (
      audited.0,
      audited.1,
      audit_unwritten sink.written sink.puts c.args.out.now out1 out1 audited.0 c.audit.new.monitor
          (source.left c.audit.new.script)
          (Rose (source.faults c.args.script.now) (source.faults c.audit.new.script)) audited.2,
    )

pub returns-in-Stopped-default-Refused-clause-audited : goal.returns-in-Stopped-default-Refused-clause-audited
returns-in-Stopped-default-Refused-clause-audited g c =
    let source = g.S.Source in
    let sink = g.K.Sink in
    let out = c.args.out.now in
    let out1 = c.audit.new.out in
    let left1 = source.left c.audit.new.script in
    let stopped = c.in-Stopped-default-Refused in
    let audited = stopped.ensures.audited in (
      audited.0,
      audited.1,
      audit_refused sink.written sink.puts out out1 c.close.new.out audited.0 c.audit.new.monitor left1
          (Rose (source.faults c.args.script.now) (source.faults c.audit.new.script)) stopped.number stopped.kind c.close.result
          (subst (λ why. Audited audited.0 (ended.Stopped stopped.number why) c.audit.new.monitor left1
          (WroteLines sink.written sink.puts out out1) (BrokeLines sink.written sink.puts out out1)) stopped.why-is audited.2)
          c.close.ensures.writes,
    )

pub returns-in-Stopped-default-Unread-clause-audited : goal.returns-in-Stopped-default-Unread-clause-audited
returns-in-Stopped-default-Unread-clause-audited g c =
    let source = g.S.Source in
    let sink = g.K.Sink in
    let out = c.args.out.now in
    let out1 = c.audit.new.out in
    let left1 = source.left c.audit.new.script in
    let stopped = c.in-Stopped-default-Unread in
    let audited = stopped.ensures.audited in
    let closed = c.close-in-Stopped-default-Unread in (
      audited.0,
      audited.1,
      audit_unread sink.written sink.puts out out1 closed.new.out audited.0 c.audit.new.monitor left1
          (Rose (source.faults c.args.script.now) (source.faults c.audit.new.script)) stopped.number closed.result
          (stopped.ensures.source.rose (subst (λ why. IsUnread (ended.Stopped stopped.number why)) (sym stopped.why-is) tt))
          (subst (λ why. Audited audited.0 (ended.Stopped stopped.number why) c.audit.new.monitor left1
          (WroteLines sink.written sink.puts out out1) (BrokeLines sink.written sink.puts out out1)) stopped.why-is audited.2)
          closed.ensures.writes,
    )
