use Rattle.std.proofs.Common.{◌∷◌, [], refl, subst, sym}
use Rattle.cct_live_service.specs.AtDesk.{Both, FollowsDesk}
use Rattle.cct_live_service.specs.Doing.{Tells, TellsStep}
use Rattle.cct_live_service.specs.Linked.{AreQuiet}
use Rattle.cct_live_service.specs.Parts.{Acts}
use Rattle.cct_live_service.specs.Told.{operates}
use Rattle.cct_live_service.proofs.Desks.{follows}
use Rattle.cct_live_service.proofs.Parts.{acts_line, acts_weaker}
use Rattle.cct_live_service.proofs.Sessions.{tells_step}
use Rattle.cct_live_service.proofs.session.tell_desk.Goals as goal

pub returns : goal.returns
returns g c =
    let sink = g.K.Sink in
    let host = c.args.host.now in
    let e = c.args.entry.now in
    let result = c.by_writing.result in
    record {
      acts = λ s old new gives is.
          let linked = Both AreQuiet (FollowsDesk result old new) in
          subst (λ r. Acts sink.written sink.puts sink.faults linked (TellsStep s) r c.args.out.now c.write_entry.new.out
          host host) (sym c.by_writing.ensures)
          (acts_weaker sink.written sink.puts sink.faults _ c.args.out.now c.write_entry.new.out host host
          (Tells (operates s e)) (TellsStep s) (tells_step s e)
          (acts_line sink.written sink.puts sink.faults linked c.write_entry.result c.args.out.now c.write_entry.new.out host
          (operates s e) (refl, follows result old new (operates s e ∷ []) (gives, is)) refl (λ past. tt) c.write_entry.ensures.puts
          c.requires.whole c.write_entry.ensures.serves));
      watch = refl;
    }
