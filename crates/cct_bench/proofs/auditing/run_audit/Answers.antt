use Rattle.std.proofs.Common.{None, Some}
use Rattle.cct_edge.specs.Faults.{Rose}
use Rattle.cct_audit.specs.Writing.{BrokeLines, WroteLines}
use Rattle.cct_bench.specs.Audit.{AuditRan}
use Rattle.cct_bench.proofs.AuditEnds.{unwatched}
use Rattle.cct_bench.proofs.auditing.run_audit.Goals as goal

pub returns-clause-audited : goal.returns-clause-audited
returns-clause-audited g c =
    let source = g.S.Source in
    let sink = g.K.Sink in
    let audited = c.audit_capture-status.ensures.audited in (
      audited.0,
      audited.1,
      unwatched audited.0 c.audit_capture-status.result.0 c.audit_capture-status.result.1 (source.left c.audit_capture-status.new.script)
          (Rose (source.faults c.args.script.now) (source.faults c.audit_capture-status.new.script))
          (WroteLines sink.written sink.puts c.args.out.now c.audit_capture-status.new.out)
          (BrokeLines sink.written sink.puts c.args.out.now c.audit_capture-status.new.out) audited.2,
    )
