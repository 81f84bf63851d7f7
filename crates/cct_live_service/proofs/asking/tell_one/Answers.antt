use Rattle.std.proofs.Common.{refl, sym, subst}
use Rattle.cct_live_service.specs.AtDesk.{Both, IsApart}
use Rattle.cct_live_service.specs.Doing.{Tells}
use Rattle.cct_live_service.specs.Linked.{AreQuiet}
use Rattle.cct_live_service.specs.Parts.{Acts}
use Rattle.cct_live_service.specs.Told.{finding}
use Rattle.cct_live_service.proofs.Parts.{acts_line}
use Rattle.cct_live_service.proofs.asking.tell_one.Goals as goal

pub returns : goal.returns
returns g c =
    let sink = g.K.Sink in
    let host = c.args.host.now in
    let what = finding c.args.found.now in
    record {
      acts = subst (λ r. Acts sink.written sink.puts sink.faults (Both AreQuiet IsApart) (Tells what) r c.args.out.now c.write_finding.new.out
          host host) (sym c.by_writing.ensures)
          (acts_line sink.written sink.puts sink.faults (Both AreQuiet IsApart) c.write_finding.result c.args.out.now c.write_finding.new.out host
          what (refl, λ desk. refl) refl (λ past. tt) c.write_finding.ensures.puts c.requires.whole c.write_finding.ensures.serves);
      watch = refl;
    }
