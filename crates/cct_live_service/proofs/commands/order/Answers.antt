use Rattle.std.proofs.Common.{refl, sym, subst}
use Rattle.cct_edge.specs.Faults.{Rose}
use Rattle.cct_live_service.specs.declared.notice.Notice.TheVariants as notice_of
use Rattle.cct_live_service.specs.AtDesk.{Both, IsApart}
use Rattle.cct_live_service.specs.Doing.{IsOrder}
use Rattle.cct_live_service.specs.Known.{MissedFrom}
use Rattle.cct_live_service.specs.Linked.{AreQuiet}
use Rattle.cct_live_service.specs.Parts.{Acts}
use Rattle.cct_live_service.specs.Told.{notice}
use Rattle.cct_live_service.proofs.Parts.{acts_order}
use Rattle.cct_live_service.proofs.Telling.{told_one}
use Rattle.cct_live_service.proofs.commands.order.Goals as goal

pub returns : goal.returns
returns g c =
    let sink = g.K.Sink in
    let misses = g.O.Outside.misses in
    let host = c.args.host.now in
    let out = c.args.out.now in
    let known = c.order_told-told.result in
    let what = notice (notice_of.Order c.args.id known) in
    let missed = Rose (misses c.args.outside.now) (misses c.order_told-told.new.outside) in
    record {
      acts = subst (λ r. Acts sink.written sink.puts sink.faults (Both AreQuiet IsApart)
          (IsOrder (MissedFrom host missed) c.args.id) r out c.tell.new.out host host) (sym c.by_writing.ensures)
          (acts_order sink.written sink.puts sink.faults (Both AreQuiet IsApart) missed c.tell.result out c.tell.new.out host
          c.args.id known (refl, λ desk. refl) c.order_told-told.ensures.known c.order_told-told.ensures.is
          (told_one sink.written sink.puts out c.tell.new.out what c.tell.result c.tell.ensures.puts) c.requires.whole
          c.tell.ensures.serves);
      watch = refl;
      later = c.order_told-told.ensures.later;
      heard = c.order_told-told.ensures.heard;
    }
