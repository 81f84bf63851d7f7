use Rattle.cct_live_service.specs.Told.{notice}
use Rattle.cct_live_service.proofs.Telling.{told_one}
use Rattle.cct_live_service.proofs.standing.tell_one.Goals as goal

pub returns-clause-tells : goal.returns-clause-tells
returns-clause-tells g c =
    let sink = g.K.Sink in
    told_one sink.written sink.puts c.args.out.now c.tell.new.out (notice c.args.notice.now) c.tell.result c.tell.ensures.puts
