use Rattle.std.proofs.Common.{map, Ok, Err, refl, sym, ◌∙◌, subst}
use Rattle.cct_audit.proofs.Puts.{writes_then}
use Rattle.cct_script.specs.Giving.{standing_of, line_given}
use Rattle.cct_script.proofs.Continuing.{answer_ends}
use Rattle.cct_audit.specs.Capture.{over}
use Rattle.cct_audit.proofs.Going.{audit_broke_last, audit_done, audit_stops}
use Rattle.cct_audit.proofs.Lines.{by_capture}
use Rattle.cct_monitor.specs.Monitor.{StandsFor}
use Rattle.cct_audit.specs.Telling.{said_line, told, told_last}
use Rattle.cct_audit.specs.Writing.{BrokeLines, WritesLines, WroteLines}
use Rattle.cct_audit.proofs.auditing.finish.Goals as goal

pub returns-in-Err-clause-audited : goal.returns-in-Err-clause-audited
returns-in-Err-clause-audited g c left0 past going stands before wrote =
    let sink = g.K.Sink in
    let old = standing_of c.args.lines.now in
    let new = standing_of c.line.follows.lender-at-none in
    let left = g.S.Source.left c.args.script.now in
    let left1 = g.S.Source.left c.line.new.source in
    let ends = answer_ends by_capture old new left left1 (line_given c.line.result) c.args.number over (Err c.in-Err.why) refl
    c.line.follows.holds-at-none.0 (sym c.behind_end.ensures ∙ c.in-Err.is) in
    audit_stops left0 left left1 old.held c.args.number over past c.in-Err.why c.args.monitor.now
    (WroteLines sink.written sink.puts before c.args.out.now) (BrokeLines sink.written sink.puts before c.args.out.now) going
    stands ends wrote

pub returns-in-Ok-write_all-clause-audited : goal.returns-in-Ok-write_all-clause-audited
returns-in-Ok-write_all-clause-audited g c left0 past going stands before wrote =
    let sink = g.K.Sink in
    let old = standing_of c.args.lines.now in
    let new = standing_of c.line.follows.lender-at-none in
    let left = g.S.Source.left c.args.script.now in
    let left1 = g.S.Source.left c.line.new.source in
    let out = c.args.out.now in
    let out1 = c.write_all.new.out in
    let ends = answer_ends by_capture old new left left1 (line_given c.line.result) c.args.number over (Ok tt) refl
    c.line.follows.holds-at-none.0 (sym c.behind_end.ensures ∙ c.in-Ok.is) in
    let last = subst (λ said. WritesLines sink.written sink.puts out (map said_line said) (Ok c.in-Ok-write_all.field-0) out1)
    (c.as_slice.ensures.value ∙ c.finish.ensures.says past stands) c.in-Ok-write_all.ensures.writes in
    audit_done left0 left left1 old.held c.args.number past c.finish.new.self (WroteLines sink.written sink.puts before out1)
    (BrokeLines sink.written sink.puts before out1) going
    (subst (λ m. StandsFor m past) (sym c.finish.ensures.same) stands) ends
    (writes_then sink.written sink.puts before out out1 (told past) (told_last past) (Ok c.in-Ok-write_all.field-0) wrote last)

pub returns-in-Err-write_all-clause-audited : goal.returns-in-Err-write_all-clause-audited
returns-in-Err-write_all-clause-audited g c left0 past going stands before wrote =
    let sink = g.K.Sink in
    let old = standing_of c.args.lines.now in
    let new = standing_of c.line.follows.lender-at-none in
    let left = g.S.Source.left c.args.script.now in
    let left1 = g.S.Source.left c.line.new.source in
    let out = c.args.out.now in
    let out1 = c.write_all.new.out in
    let failed = c.in-Err-write_all.field-0 in
    let ends = answer_ends by_capture old new left left1 (line_given c.line.result) c.args.number over (Ok tt) refl
    c.line.follows.holds-at-none.0 (sym c.behind_end.ensures ∙ c.in-Ok.is) in
    let last = subst (λ said. WritesLines sink.written sink.puts out (map said_line said) (Err failed) out1)
    (c.as_slice.ensures.value ∙ c.finish.ensures.says past stands) c.in-Err-write_all.ensures.writes in
    audit_broke_last left0 left left1 old.held c.args.number past c.finish.new.self (WroteLines sink.written sink.puts before out1)
    (BrokeLines sink.written sink.puts before out1) going
    (subst (λ m. StandsFor m past) (sym c.finish.ensures.same) stands) ends (out, failed, wrote, last)
