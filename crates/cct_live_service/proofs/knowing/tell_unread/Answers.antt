use Rattle.cct_live_service.specs.declared.notice.Notice.TheVariants as notice_of
use Rattle.cct_live_service.specs.Told.{notice}
use Rattle.cct_live_service.proofs.Telling.{told_one}
use Rattle.cct_live_service.proofs.knowing.tell_unread.Goals as goal

pub returns-clause-tells : goal.returns-clause-tells
returns-clause-tells g c =
    let sink = g.K.Sink in
    told_one sink.written sink.puts c.args.out.now c.tell.new.out (notice notice_of.StateUnread) c.tell.result
    c.tell.ensures.puts
