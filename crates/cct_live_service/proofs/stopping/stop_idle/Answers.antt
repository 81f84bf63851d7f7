use Rattle.std.proofs.Common.{Ok, Err, false}
use Rattle.cct_host.specs.Host.{setup_of}
use Rattle.cct_laws_live.specs.LiveStep as live
use Rattle.cct_model.specs.lines.command.Command.TheVariants as command
use Rattle.cct_live_service.specs.declared.attempts.Until.TheVariants as until_of
use Rattle.cct_live_service.specs.AtDesk.{Both, FollowsDesk}
use Rattle.cct_live_service.specs.Doing.{EndsAs, GivesStop, GoesOnTo, TellsOne}
use Rattle.cct_live_service.specs.Known.{HasJob, IsKnown, KnownAfter}
use Rattle.cct_live_service.specs.Linked.{Exchanges, watched}
use Rattle.cct_live_service.proofs.KnownLater.{Knowing, acts_knowing}
use Rattle.cct_live_service.proofs.Linking.{link_quiet, link_then}
use Rattle.cct_live_service.proofs.Parts.{acts_front}
use Rattle.cct_live_service.proofs.Stops.{given_then, gives_front}
use Rattle.cct_live_service.proofs.stopping.stop_idle.Goals as goal

pub returns-in-Ok : goal.returns-in-Ok
returns-in-Ok g c =
    let sink = g.K.Sink in
    let link = g.L.CountedLink in
    let gives = g.L.Link.gives in
    let addr = c.args.addr in
    let host = c.args.host.now in
    let mid = c.answer.new.host in
    let desk = c.args.desk.now in
    let line = watched c.args.link.now c.args.page.now in
    let out = c.args.out.now in
    let between = watched c.args.link.now c.answer.new.page in
    let went = Both (Exchanges gives link.sent link.failures (setup_of host).devices line between) (FollowsDesk (Ok tt) desk desk) in
    let tells = TellsOne (live.command (command.Stop addr)) in
    record {
      acts = link_then sink.written sink.puts sink.faults gives link.sent link.failures line between
          (watched c.go_on.new.link c.go_on.new.page) desk desk
          c.go_on.new.desk c.go_on.result out c.answer.new.out c.go_on.new.out host mid c.go_on.new.host
          (Knowing tells went host mid)
          (EndsAs c.go_on.result c.go_on.new.page.report.items
          (GoesOnTo (IsKnown mid desk (HasJob (setup_of mid) addr false)) until_of.Ended addr))
          (GivesStop (KnownAfter host desk) (setup_of host) addr)
          (λ s1 s2 t1 t2 h k. given_then host mid c.in-Ok.ensures.acts.setup desk desk addr s1 s2 t1 t2 h.0 (h.2, h.1.1)
          k.0)
          (acts_knowing sink.written sink.puts sink.faults went out c.answer.new.out host mid tells
          (link_quiet sink.written sink.puts sink.faults gives link.sent link.failures c.args.link.now c.args.page.now
          c.answer.new.page c.in-Ok.ensures.watch desk (Ok tt) out c.answer.new.out
          host mid tells c.in-Ok.ensures.acts))
          c.go_on.ensures.acts;
    }

pub returns-in-Err : goal.returns-in-Err
returns-in-Err g c =
    let sink = g.K.Sink in
    let link = g.L.CountedLink in
    let addr = c.args.addr in
    let host = c.args.host.now in
    let desk = c.args.desk.now in
    let stops = GivesStop (KnownAfter host desk) (setup_of host) addr in
    record {
      acts = link_quiet sink.written sink.puts sink.faults g.L.Link.gives link.sent link.failures c.args.link.now c.args.page.now
          c.answer.new.page c.in-Err.ensures.watch desk
          (Err c.in-Err.how) c.args.out.now c.answer.new.out host c.answer.new.host stops
          (acts_front sink.written sink.puts sink.faults c.in-Err.how c.args.out.now c.answer.new.out host c.answer.new.host
          (TellsOne (live.command (command.Stop addr))) stops (gives_front (KnownAfter host desk) (setup_of host) addr)
          c.in-Err.ensures.acts);
    }
