use Rattle.std.proofs.Common.{refl, sym, subst}
use Rattle.cct_live_service.specs.AtDesk.{Both, IsApart}
use Rattle.cct_live_service.specs.Doing.{Tells}
use Rattle.cct_live_service.specs.Linked.{AreQuiet}
use Rattle.cct_live_service.specs.Parts.{Acts}
use Rattle.cct_live_service.specs.Told.{refused}
use Rattle.cct_live_service.proofs.Parts.{acts_line}
use Rattle.cct_live_service.proofs.play.refuse.Goals as goal

pub returns : goal.returns
returns g c =
    let sink = g.K.Sink in
    let host = c.args.host.now in
    let what = refused c.args.number c.args.kind in
    record {
      acts = subst (λ r. Acts sink.written sink.puts sink.faults (Both AreQuiet IsApart) (Tells what) r c.args.out.now c.write_entry.new.out host
          host) (sym c.by_writing.ensures)
          (acts_line sink.written sink.puts sink.faults (Both AreQuiet IsApart) c.write_entry.result c.args.out.now c.write_entry.new.out host
          what (refl, λ desk. refl) refl (λ past. tt) c.write_entry.ensures.puts c.requires.whole c.write_entry.ensures.serves);
      watch = refl;
    }
