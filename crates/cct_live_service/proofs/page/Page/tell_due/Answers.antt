use Rattle.cct_live_service.proofs.Telling.{told_first, told_two}
use Rattle.cct_live_service.proofs.page.Page.tell_due.Goals as goal

pub returns-in-Ok-clause-writes : goal.returns-in-Ok-clause-writes
returns-in-Ok-clause-writes g c =
    let sink = g.K.Sink in
    let due = c.args.due in
    told_two sink.written sink.puts c.args.out.now c.tell_if.new.out c.tell_if-in-Ok.new.out due.line due.bill
    c.tell_if-in-Ok.result c.in-Ok.ensures.writes c.tell_if-in-Ok.ensures.writes

pub returns-in-Err-clause-writes : goal.returns-in-Err-clause-writes
returns-in-Err-clause-writes g c =
    let sink = g.K.Sink in
    let due = c.args.due in
    told_first sink.written sink.puts c.args.out.now c.tell_if.new.out due.line due.bill c.in-Err.failed c.in-Err.ensures.writes
