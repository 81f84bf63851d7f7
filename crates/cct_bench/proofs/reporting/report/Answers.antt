use Rattle.std.proofs.Common.{◌≡◌, [], sym, ◌∙◌, subst}
use Rattle.cct_edge.specs.Faults.{Rose}
use Rattle.cct_edge.proofs.Chains.{Rose-earlier, Rose-later}
use Rattle.cct_text.specs.Writing.{Writes, Wrote}
use Rattle.cct_text.proofs.Writing.{wrote_none}
use Rattle.cct_bench.specs.Report.{image_known, records_known, size_known}
use Rattle.cct_bench.proofs.ReportEnds.{decided, image_lists, other_reported, records_lists, reported_behind, size_lists}
use Rattle.cct_bench.proofs.reporting.report.Goals as goal

pub returns-then-len-ne-JOURNAL_BYTES-clause-reported : goal.returns-then-len-ne-JOURNAL_BYTES-clause-reported
returns-then-len-ne-JOURNAL_BYTES-clause-reported g c image told =
    let sink = g.K.Sink in
    let closed = c.close-status.ensures.writes in
    other_reported
    (image_known (g.D.Disk.size c.args.disk) (Rose (g.D.Disk.faults c.args.disk) (g.D.Disk.faults c.args.disk)) image)
    c.len-len.result c.close-status.result closed.0
    (λ lines r. Writes sink.written sink.puts c.args.out.now lines r c.close-status.new.out) c.len-len.ensures
    (λ is. c.if-len-ne-JOURNAL_BYTES.true (c.len-len.ensures ∙ is)) closed.1 closed.2

pub returns-then-len-ne-JOURNAL_BYTES-clause-every : goal.returns-then-len-ne-JOURNAL_BYTES-clause-every
returns-then-len-ne-JOURNAL_BYTES-clause-every g c image base carry rest told has =
    let sink = g.K.Sink in
    let closed = c.close-status.ensures.writes in
    other_reported
    (records_known (g.D.Disk.size c.args.disk) (Rose (g.D.Disk.faults c.args.disk) (g.D.Disk.faults c.args.disk)) base
    carry rest) c.len-len.result c.close-status.result closed.0
    (λ lines r. Writes sink.written sink.puts c.args.out.now lines r c.close-status.new.out) c.len-len.ensures
    (λ is. c.if-len-ne-JOURNAL_BYTES.true (c.len-len.ensures ∙ is)) closed.1 closed.2

pub returns-then-len-ne-JOURNAL_BYTES-clause-lines : goal.returns-then-len-ne-JOURNAL_BYTES-clause-lines
returns-then-len-ne-JOURNAL_BYTES-clause-lines g c =
    let sink = g.K.Sink in
    let closed = c.close-status.ensures.writes in
    other_reported
    (size_known (g.D.Disk.size c.args.disk) (Rose (g.D.Disk.faults c.args.disk) (g.D.Disk.faults c.args.disk))) c.len-len.result c.close-status.result closed.0
    (λ lines r. Writes sink.written sink.puts c.args.out.now lines r c.close-status.new.out) c.len-len.ensures
    (λ is. c.if-len-ne-JOURNAL_BYTES.true (c.len-len.ensures ∙ is)) closed.1 closed.2

pub returns-clause-reported : goal.returns-clause-reported
returns-clause-reported g c image told =
    let sink = g.K.Sink in
    let size = g.D.Disk.size c.args.disk in
    let failed = Rose (g.D.Disk.faults c.args.disk) (g.D.Disk.faults c.list_journal-how.result.1) in
    let out = c.args.out.now in
    let listed = c.list_journal-how.new.out in
    let how = c.list_journal-how.result.0 in
    let list = c.list_journal-how.ensures in
    let closed = c.finish_report.ensures.writes in
    reported_behind sink.written sink.puts (image_known size failed image) out listed c.finish_report.new.out how
    c.finish_report.result closed.0 (sym c.len-len.ensures ∙ c.if-len-ne-JOURNAL_BYTES.false)
    (image_lists size failed image how (listed ≡ out) (λ lines r. Writes sink.written sink.puts out lines r listed)
    (λ same. subst (λ k. Wrote sink.written sink.puts out k []) (sym same) (wrote_none sink.written sink.puts out))
    list.disk_cause.rose (list.found image told) (λ base carry rest. list.every image base carry rest told)) closed.1 closed.2

pub returns-clause-every : goal.returns-clause-every
returns-clause-every g c image base carry rest told has =
    let sink = g.K.Sink in
    let size = g.D.Disk.size c.args.disk in
    let failed = Rose (g.D.Disk.faults c.args.disk) (g.D.Disk.faults c.list_journal-how.result.1) in
    let out = c.args.out.now in
    let listed = c.list_journal-how.new.out in
    let how = c.list_journal-how.result.0 in
    let closed = c.finish_report.ensures.writes in
    reported_behind sink.written sink.puts (records_known size failed base carry rest) out listed c.finish_report.new.out how
    c.finish_report.result closed.0 (sym c.len-len.ensures ∙ c.if-len-ne-JOURNAL_BYTES.false)
    (records_lists size failed base carry rest how (λ lines r. Writes sink.written sink.puts out lines r listed)
    c.list_journal-how.ensures.disk_cause.rose
    (c.list_journal-how.ensures.every image base carry rest told has)) closed.1 closed.2

pub returns-clause-lines : goal.returns-clause-lines
returns-clause-lines g c =
    let sink = g.K.Sink in
    let size = g.D.Disk.size c.args.disk in
    let failed = Rose (g.D.Disk.faults c.args.disk) (g.D.Disk.faults c.list_journal-how.result.1) in
    let out = c.args.out.now in
    let listed = c.list_journal-how.new.out in
    let how = c.list_journal-how.result.0 in
    let closed = c.finish_report.ensures.writes in
    reported_behind sink.written sink.puts (size_known size failed) out listed c.finish_report.new.out how
    c.finish_report.result closed.0 (sym c.len-len.ensures ∙ c.if-len-ne-JOURNAL_BYTES.false)
    (size_lists size failed how (λ lines r. Writes sink.written sink.puts out lines r listed)
    c.list_journal-how.ensures.disk_cause.rose
    c.list_journal-how.ensures.lines) closed.1 closed.2

pub returns-clause-complete : goal.returns-clause-complete
returns-clause-complete g c image told no_write no_disk =
    let faults = g.K.Sink.faults in
    let out = c.args.out.now in
    let listed = c.list_journal-how.new.out in
    let last = c.finish_report.new.out in
    let list = c.list_journal-how.ensures in
    decided (g.D.Disk.size c.args.disk) image c.list_journal-how.result.0 c.finish_report.result
    (Rose (faults listed) (faults last)) (sym c.len-len.ensures ∙ c.if-len-ne-JOURNAL_BYTES.false)
    (list.complete image told
    (λ rose. no_write (Rose-later (faults out) (faults listed) (faults last) rose c.finish_report.ensures.sink.later))
    no_disk) c.finish_report.ensures.cause
    (λ rose. no_write (Rose-earlier (faults out) (faults listed) (faults last) list.sink.later rose))
