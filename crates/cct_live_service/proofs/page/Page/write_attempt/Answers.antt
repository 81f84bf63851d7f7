use Rattle.std.proofs.Common.{◌∙◌, Ok, Err, ap, subst}
use Rattle.cct_live_service.specs.Told.{WritesTold, attempt_told, notices_told}
use Rattle.cct_live_service.specs.Watch.{due_after, notices_in}
use Rattle.cct_live_service.proofs.Telling.{told_broken, told_then}
use Rattle.cct_live_service.proofs.page.Page.write_attempt.Goals as goal

pub returns-in-Ok-clause-writes : goal.returns-in-Ok-clause-writes
returns-in-Ok-clause-writes g c =
    let sink = g.K.Sink in
    let entries = c.args.self.now.report.items in
    let is_sent = c.args.went.is_sent in
    let failed = c.args.went.has_failed in
    let devices = c.args.setup.now.devices in
    let out = c.args.out.now in
    let first = c.write_entries_of.new.out in
    let last = c.tell_due.new.out in
    let due = c.see-due.ensures.due
    ∙ ap (λ w. due_after devices w failed c.note.new.self.report.items) c.note.ensures.watch
    ∙ ap (λ r. due_after devices c.args.self.now.watch failed r.items) c.note.ensures.report in
    told_then sink.written sink.puts out first last (attempt_told is_sent entries)
    (notices_told (notices_in (due_after devices c.args.self.now.watch failed entries))) c.tell_due.result
    (subst (λ r. WritesTold sink.written sink.puts out (attempt_told is_sent r.items) (Ok tt) first)
    (c.see-due.ensures.report ∙ c.note.ensures.report) c.in-Ok.ensures.writes)
    (subst (λ d. WritesTold sink.written sink.puts first (notices_told (notices_in d)) c.tell_due.result last) due
    c.tell_due.ensures.writes)

pub returns-in-Err-clause-writes : goal.returns-in-Err-clause-writes
returns-in-Err-clause-writes g c =
    let sink = g.K.Sink in
    let entries = c.args.self.now.report.items in
    let is_sent = c.args.went.is_sent in
    let failed = c.args.went.has_failed in
    let devices = c.args.setup.now.devices in
    let out = c.args.out.now in
    let first = c.write_entries_of.new.out in
    told_broken sink.written sink.puts out first (attempt_told is_sent entries)
    (notices_told (notices_in (due_after devices c.args.self.now.watch failed entries))) c.in-Err.failed
    (subst (λ r. WritesTold sink.written sink.puts out (attempt_told is_sent r.items) (Err c.in-Err.failed) first)
    (c.see-due.ensures.report ∙ c.note.ensures.report) c.in-Err.ensures.writes)
