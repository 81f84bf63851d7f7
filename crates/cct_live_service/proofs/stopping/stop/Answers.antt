use Rattle.std.proofs.Common.{◌∙◌, Ok, Err, [], false}
use Rattle.std.specs.List.{list_any}
use Rattle.cct_host.specs.Host.{setup_of}
use Rattle.cct_live_service.specs.declared.attempts.Until.TheVariants as until_of
use Rattle.cct_live_service.specs.AtDesk.{Both, FollowsDesk}
use Rattle.cct_live_service.specs.Doing.{EndsAs, GivesStop, GoesOnTo, LivesPast, StopsRunning}
use Rattle.cct_live_service.specs.Ends.{is_unanswered}
use Rattle.cct_live_service.specs.Known.{HasJob, IsKnown, KnownAfter}
use Rattle.cct_live_service.specs.Linked.{Exchanges, watched}
use Rattle.cct_live_service.proofs.Doings.{unanswered_ends}
use Rattle.cct_live_service.proofs.KnownLater.{Knowing, acts_knowing, known_now}
use Rattle.cct_live_service.proofs.Linking.{link_then}
use Rattle.cct_live_service.proofs.Parts.{acts_front, acts_weaker}
use Rattle.cct_live_service.proofs.Stops.{gone_weaker, running_front, running_none, running_then}
use Rattle.cct_live_service.proofs.stopping.stop.Goals as goal

pub returns-in-Err : goal.returns-in-Err
returns-in-Err g c =
    let sink = g.K.Sink in
    let addr = c.args.addr in
    let host = c.args.host.now in
    let desk = c.args.desk.now in
    let setup = setup_of host in
    let knows = KnownAfter host desk in
    let none = HasJob setup addr false in
    let goes = GoesOnTo (IsKnown host desk none) until_of.Ended addr in
    let ends = EndsAs (Err c.in-Err.how) c.go_on.new.page.report.items goes in
    record {
      acts = acts_front sink.written sink.puts sink.faults c.in-Err.how c.args.out.now c.go_on.new.out host c.go_on.new.host
          ends (StopsRunning ⊥ knows setup addr)
          (λ steps told h. running_front ⊥ (λ no. no) knows setup addr steps told
          (gone_weaker (IsKnown host desk none) (knows [] none) (known_now host desk none) until_of.Ended addr steps told h.0))
          c.in-Err.ensures.acts;
    }

pub returns-then-is_to_stop : goal.returns-then-is_to_stop
returns-then-is_to_stop g c =
    let sink = g.K.Sink in
    let link = g.L.CountedLink in
    let gives = g.L.Link.gives in
    let addr = c.args.addr in
    let host = c.args.host.now in
    let mid = c.go_on.new.host in
    let desk = c.args.desk.now in
    let between = c.go_on.new.desk in
    let went = Both (Exchanges gives link.sent link.failures (setup_of host).devices (watched c.args.link.now c.args.page.now)
    (watched c.go_on.new.link c.go_on.new.page)) (FollowsDesk (Ok tt) desk between) in
    let goes = EndsAs (Ok tt) c.go_on.new.page.report.items
    (GoesOnTo (IsKnown host desk (HasJob (setup_of host) addr false)) until_of.Ended addr) in
    record {
      acts = link_then sink.written sink.puts sink.faults gives link.sent link.failures
          (watched c.args.link.now c.args.page.now) (watched c.go_on.new.link c.go_on.new.page)
          (watched c.stop_idle.new.link c.stop_idle.new.page) desk between c.stop_idle.new.desk c.stop_idle.result
          c.args.out.now c.go_on.new.out c.stop_idle.new.out host mid c.stop_idle.new.host (Knowing goes went host mid)
          (GivesStop (KnownAfter mid between) (setup_of mid) addr) (StopsRunning (LivesPast c.stop_idle.result) (KnownAfter host desk) (setup_of host) addr)
          (λ s1 s2 t1 t2 h k. running_then host mid c.in-Ok.ensures.acts.setup desk between (LivesPast c.stop_idle.result) addr s1 s2 t1 t2 h.0.0 (h.2, h.1.1)
          (h.0.1 is_unanswered unanswered_ends ∙ c.is_to_stop.ensures.stops c.if-is_to_stop.true)
          (λ past keeps. c.is_to_stop.ensures.runs c.if-is_to_stop.true past keeps) k)
          (acts_knowing sink.written sink.puts sink.faults went c.args.out.now c.go_on.new.out host mid goes
          c.in-Ok.ensures.acts)
          c.stop_idle.ensures.acts;
    }

pub returns-else-is_to_stop : goal.returns-else-is_to_stop
returns-else-is_to_stop g c =
    let sink = g.K.Sink in
    let link = g.L.CountedLink in
    let addr = c.args.addr in
    let host = c.args.host.now in
    let mid = c.go_on.new.host in
    let desk = c.args.desk.now in
    let between = c.go_on.new.desk in
    let entries = c.go_on.new.page.report.items in
    let went = Both (Exchanges g.L.Link.gives link.sent link.failures (setup_of host).devices
    (watched c.args.link.now c.args.page.now) (watched c.go_on.new.link c.go_on.new.page))
    (FollowsDesk (Ok tt) desk between) in
    let goes = EndsAs (Ok tt) entries
    (GoesOnTo (IsKnown host desk (HasJob (setup_of host) addr false)) until_of.Ended addr) in
    record {
      acts = acts_weaker sink.written sink.puts sink.faults (Ok tt) c.args.out.now c.go_on.new.out host mid
          (Knowing goes went host mid)
          (StopsRunning (LivesPast (Ok tt)) (KnownAfter host desk) (setup_of host) addr)
          (λ steps told h. running_none host mid c.in-Ok.ensures.acts.setup desk between (LivesPast (Ok tt)) addr (list_any is_unanswered entries)
          steps told h.0.0 (h.2, h.1.1) (h.0.1 is_unanswered unanswered_ends)
          (λ none past keeps. c.is_to_stop.ensures.stays c.if-is_to_stop.false none past keeps))
          (acts_knowing sink.written sink.puts sink.faults went c.args.out.now c.go_on.new.out host mid goes
          c.in-Ok.ensures.acts);
    }
