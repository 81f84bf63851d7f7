use Rattle.std.proofs.Common.{◌++◌, [], refl, sym, subst}
use Rattle.cct_host.specs.Host.{setup_of}
use Rattle.cct_live_service.specs.AtDesk.{Both, IsApart}
use Rattle.cct_live_service.specs.Doing.{IsStatus}
use Rattle.cct_live_service.specs.Linked.{AreStanding}
use Rattle.cct_live_service.specs.Parts.{Acts}
use Rattle.cct_live_service.proofs.Desks.{apart_notices}
use Rattle.cct_live_service.proofs.Parts.{acts_notices}
use Rattle.cct_live_service.proofs.Reporting.{so_status}
use Rattle.cct_live_service.proofs.commands.status.Goals as goal

pub returns : goal.returns
returns g c =
    let sink = g.K.Sink in
    let host = c.args.host.now in
    let devices = (setup_of host).devices in
    let tells = c.tell_status.ensures.tells in
    let notices = tells.0 in
    let others = tells.1 in
    let are = tells.5.0 in
    let stands = Both (AreStanding c.args.page.now.watch []) IsApart in
    record {
      acts = subst (λ r. Acts sink.written sink.puts sink.faults stands (IsStatus devices) r c.args.out.now
          c.tell_status.new.out host host) (sym c.by_writing.ensures)
          (acts_notices sink.written sink.puts sink.faults stands c.tell_status.result c.args.out.now
          c.tell_status.new.out host notices others (tells.4, apart_notices notices) (IsStatus devices)
          (so_status host notices are) tells.5.1 c.requires.whole c.tell_status.ensures.serves tells.2
          (refl, (notices ++ others, tells.3, refl)));
      watch = c.tell_status.ensures.watch;
    }
