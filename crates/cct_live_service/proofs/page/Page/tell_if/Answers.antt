use Rattle.std.proofs.Common.{Ok, subst, sym}
use Rattle.cct_live_service.specs.Told.{WritesTold, maybe_told, notice}
use Rattle.cct_live_service.proofs.Telling.{told_none, told_one}
use Rattle.cct_live_service.proofs.page.Page.tell_if.Goals as goal

pub returns-in-Some-clause-writes : goal.returns-in-Some-clause-writes
returns-in-Some-clause-writes g c =
    let sink = g.K.Sink in
    let out = c.args.out.now in
    subst (λ n. WritesTold sink.written sink.puts out (maybe_told n) c.tell.result c.tell.new.out) (sym c.in-Some.is)
    (told_one sink.written sink.puts out c.tell.new.out (notice c.in-Some.notice) c.tell.result c.tell.ensures.puts)

pub returns-in-None-clause-writes : goal.returns-in-None-clause-writes
returns-in-None-clause-writes g c =
    let sink = g.K.Sink in
    let out = c.args.out.now in
    subst (λ n. WritesTold sink.written sink.puts out (maybe_told n) (Ok tt) out) (sym c.in-None.is)
    (told_none sink.written sink.puts out)
