use Rattle.std.proofs.Common.{refl, sym, subst}
use Rattle.cct_edge.specs.Faults.{Rose}
use Rattle.cct_live_service.specs.AtDesk.{Both, IsApart}
use Rattle.cct_live_service.specs.Doing.{IsStating}
use Rattle.cct_live_service.specs.Known.{MissedFrom}
use Rattle.cct_live_service.specs.Linked.{AreQuiet}
use Rattle.cct_live_service.specs.Parts.{Acts}
use Rattle.cct_live_service.proofs.Knows.{apart_known, quiet_known}
use Rattle.cct_live_service.proofs.Parts.{acts_known}
use Rattle.cct_live_service.proofs.knowing.state.Goals as goal

pub returns : goal.returns
returns g c =
    let sink = g.K.Sink in
    let misses = g.O.Outside.misses in
    let host = c.args.host.now in
    let out = c.args.out.now in
    let told = c.tell_known.new.out in
    let missed = Rose (misses c.args.outside.now) (misses c.tell_known.new.outside) in
    record {
      acts = subst (λ r. Acts sink.written sink.puts sink.faults (Both AreQuiet IsApart) (IsStating (MissedFrom host missed)) r
          out told host host) (sym c.by_writing.ensures)
          (acts_known sink.written sink.puts sink.faults (Both AreQuiet IsApart) missed c.tell_known.result out told host
          (λ lines. (quiet_known lines lines, apart_known lines lines)) (refl, λ desk. refl) c.tell_known.ensures.tells
          c.requires.whole c.tell_known.ensures.serves);
      watch = refl;
      later = c.tell_known.ensures.later;
      heard = c.tell_known.ensures.heard;
    }
