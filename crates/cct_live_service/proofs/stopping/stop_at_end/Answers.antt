use Rattle.std.proofs.Common.{Ok, refl, subst, sym}
use Rattle.cct_host.specs.Host.{setup_of}
use Rattle.cct_live_service.specs.declared.stopping.AtEnd.TheVariants as at_end
use Rattle.cct_live_service.specs.AtDesk.{Both, FollowsDesk}
use Rattle.cct_live_service.specs.Doing.{LivesPast, StopsBy}
use Rattle.cct_live_service.specs.Known.{KnownAfter}
use Rattle.cct_live_service.specs.Linked.{Exchanges, watched}
use Rattle.cct_live_service.specs.Parts.{Acts}
use Rattle.cct_live_service.proofs.Linking.{link_none}
use Rattle.cct_live_service.proofs.stopping.stop_at_end.Goals as goal

pub returns-in-Leave : goal.returns-in-Leave
returns-in-Leave g c =
    let sink = g.K.Sink in
    let link = g.L.CountedLink in
    let out = c.args.out.now in
    let host = c.args.host.now in
    let line = watched c.args.link.now c.args.page.now in
    let desk = c.args.desk.now in
    record {
      acts = subst (λ ends. Acts sink.written sink.puts sink.faults (Both (Exchanges g.L.Link.gives link.sent link.failures (setup_of host).devices line line) (FollowsDesk (Ok tt) desk desk)) (StopsBy ends (LivesPast (Ok tt)) (KnownAfter host desk) (setup_of host)) (Ok tt) out out host host)
          (sym c.in-Leave.is)
          (link_none sink.written sink.puts sink.faults g.L.Link.gives link.sent link.failures line desk out host (StopsBy at_end.Leave (LivesPast (Ok tt)) (KnownAfter host desk) (setup_of host)) c.requires.whole (refl, refl));
    }

pub returns-in-Stop : goal.returns-in-Stop
returns-in-Stop g c =
    let sink = g.K.Sink in
    let link = g.L.CountedLink in
    let out = c.args.out.now in
    let host = c.args.host.now in
    let line = watched c.args.link.now c.args.page.now in
    let desk = c.args.desk.now in
    let result = c.stop_all.result in
    record {
      acts = subst (λ ends. Acts sink.written sink.puts sink.faults
          (Both (Exchanges g.L.Link.gives link.sent link.failures (setup_of host).devices line (watched c.stop_all.new.link c.stop_all.new.page))
          (FollowsDesk result desk c.stop_all.new.desk))
          (StopsBy ends (LivesPast result) (KnownAfter host desk) (setup_of host)) result out c.stop_all.new.out host c.stop_all.new.host)
          (sym c.in-Stop.is) c.stop_all.ensures.acts;
    }
