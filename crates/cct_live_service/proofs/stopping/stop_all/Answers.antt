use Rattle.std.proofs.Common.{◌≡◌, ◌+◌, ℕ, suc, Ok, Err, arith, refl, subst}
use Rattle.cct_host.specs.Host.{setup_of}
use Rattle.cct_live_service.specs.AtDesk.{Both, FollowsDesk}
use Rattle.cct_live_service.specs.Doing.{LivesPast, StopsAt, StopsUpTo}
use Rattle.cct_live_service.specs.Known.{KnownAfter}
use Rattle.cct_live_service.specs.Linked.{Exchanges, watched}
use Rattle.cct_live_service.specs.Parts.{Acts}
use Rattle.cct_live_service.proofs.KnownLater.{Knowing, acts_knowing}
use Rattle.cct_live_service.proofs.Linking.{link_none, link_then}
use Rattle.cct_live_service.proofs.Parts.{acts_front}
use Rattle.cct_live_service.proofs.Stops.{all_stop, up_to_then}
use Rattle.cct_live_service.proofs.stopping.stop_all.Goals as goal

one_more : (n : ℕ) → suc n ≡ n + 1
one_more n = omega arith

pub loop-addr-init : goal.loop-addr-init
loop-addr-init g c =
    let sink = g.K.Sink in
    let link = g.L.CountedLink in
    let host = c.args.host.now in
    link_none sink.written sink.puts sink.faults g.L.Link.gives link.sent link.failures (watched c.args.link.now c.args.page.now) c.args.desk.now
    c.args.out.now host (StopsUpTo 0 (LivesPast (Ok tt)) (KnownAfter host c.args.desk.now) (setup_of host)) c.requires.whole (refl, refl)

pub returns-in-Err : goal.returns-in-Err
returns-in-Err g c =
    let sink = g.K.Sink in
    let link = g.L.CountedLink in
    let gives = g.L.Link.gives in
    let host = c.args.host.now in
    let mid = c.loop-addr.host in
    let desk = c.args.desk.now in
    let between = c.loop-addr.desk in
    let addr = c.loop-addr.addr in
    let out = c.args.out.now in
    let went = Both (Exchanges gives link.sent link.failures (setup_of c.args.host.now).devices (watched c.args.link.now c.args.page.now) (watched c.loop-addr.link c.loop-addr.page))
    (FollowsDesk (Ok tt) desk between) in
    let before = StopsUpTo addr (LivesPast (Ok tt)) (KnownAfter host desk) (setup_of host) in
    let next = StopsUpTo (addr + 1) (LivesPast (Err c.in-Err.how)) (KnownAfter host desk) (setup_of host) in
    let acts = link_then sink.written sink.puts sink.faults gives link.sent link.failures (watched c.args.link.now c.args.page.now) (watched c.loop-addr.link c.loop-addr.page)
    (watched c.stop_if_running.new.link c.stop_if_running.new.page) desk between c.stop_if_running.new.desk (Err c.in-Err.how) out c.loop-addr.out c.stop_if_running.new.out
    host mid c.stop_if_running.new.host (Knowing before went host mid)
    (StopsAt (LivesPast (Err c.in-Err.how)) (KnownAfter mid between) (setup_of mid) addr) next
    (λ s1 s2 t1 t2 h k. up_to_then host mid c.loop-addr.invariant.setup desk between (LivesPast (Ok tt)) (LivesPast (Err c.in-Err.how)) (λ lasts. absurd lasts) addr (addr + 1) (one_more addr) s1 s2 t1 t2
    h.0 (h.2, h.1.1) k)
    (acts_knowing sink.written sink.puts sink.faults went out c.loop-addr.out host mid before c.loop-addr.invariant)
    c.in-Err.ensures.acts in
    record {
      acts = acts_front sink.written sink.puts sink.faults c.in-Err.how out c.stop_if_running.new.out host
          c.stop_if_running.new.host next (StopsUpTo 256 (LivesPast (Err c.in-Err.how)) (KnownAfter host desk) (setup_of host))
          (all_stop (LivesPast (Err c.in-Err.how)) (λ no. no) (addr + 1) (omega (arith, c.loop-addr-test.true)) (KnownAfter host desk) (setup_of host)) acts;
    }

pub loop-addr-preserved : goal.loop-addr-preserved
loop-addr-preserved g c =
    let sink = g.K.Sink in
    let link = g.L.CountedLink in
    let gives = g.L.Link.gives in
    let host = c.args.host.now in
    let mid = c.loop-addr.host in
    let desk = c.args.desk.now in
    let between = c.loop-addr.desk in
    let addr = c.loop-addr.addr in
    let out = c.args.out.now in
    let went = Both (Exchanges gives link.sent link.failures (setup_of c.args.host.now).devices (watched c.args.link.now c.args.page.now) (watched c.loop-addr.link c.loop-addr.page))
    (FollowsDesk (Ok tt) desk between) in
    let before = StopsUpTo addr (LivesPast (Ok tt)) (KnownAfter host desk) (setup_of host) in
    let next = StopsUpTo (addr + 1) (LivesPast (Ok tt)) (KnownAfter host desk) (setup_of host) in
    let acts = link_then sink.written sink.puts sink.faults gives link.sent link.failures (watched c.args.link.now c.args.page.now) (watched c.loop-addr.link c.loop-addr.page)
    (watched c.stop_if_running.new.link c.stop_if_running.new.page) desk between c.stop_if_running.new.desk (Ok tt) out c.loop-addr.out c.stop_if_running.new.out
    host mid c.stop_if_running.new.host (Knowing before went host mid)
    (StopsAt (LivesPast (Ok tt)) (KnownAfter mid between) (setup_of mid) addr) next
    (λ s1 s2 t1 t2 h k. up_to_then host mid c.loop-addr.invariant.setup desk between (LivesPast (Ok tt)) (LivesPast (Ok tt)) (λ lasts. lasts) addr (addr + 1) (one_more addr) s1 s2 t1 t2
    h.0 (h.2, h.1.1) k)
    (acts_knowing sink.written sink.puts sink.faults went out c.loop-addr.out host mid before c.loop-addr.invariant)
    c.in-Ok.ensures.acts in
    acts

pub returns-in-Ok : goal.returns-in-Ok
returns-in-Ok g c =
    let sink = g.K.Sink in
    let link = g.L.CountedLink in
    let gives = g.L.Link.gives in
    let host = c.args.host.now in
    let mid = c.loop-addr.host in
    let desk = c.args.desk.now in
    let between = c.loop-addr.desk in
    let addr = c.loop-addr.addr in
    let out = c.args.out.now in
    let went = Both (Exchanges gives link.sent link.failures (setup_of c.args.host.now).devices (watched c.args.link.now c.args.page.now) (watched c.loop-addr.link c.loop-addr.page))
    (FollowsDesk (Ok tt) desk between) in
    let before = StopsUpTo addr (LivesPast (Ok tt)) (KnownAfter host desk) (setup_of host) in
    let next = StopsUpTo (addr + 1) (LivesPast (Ok tt)) (KnownAfter host desk) (setup_of host) in
    let acts = link_then sink.written sink.puts sink.faults gives link.sent link.failures (watched c.args.link.now c.args.page.now) (watched c.loop-addr.link c.loop-addr.page)
    (watched c.stop_if_running.new.link c.stop_if_running.new.page) desk between c.stop_if_running.new.desk (Ok tt) out c.loop-addr.out c.stop_if_running.new.out
    host mid c.stop_if_running.new.host (Knowing before went host mid)
    (StopsAt (LivesPast (Ok tt)) (KnownAfter mid between) (setup_of mid) addr) next
    (λ s1 s2 t1 t2 h k. up_to_then host mid c.loop-addr.invariant.setup desk between (LivesPast (Ok tt)) (LivesPast (Ok tt)) (λ lasts. lasts) addr (addr + 1) (one_more addr) s1 s2 t1 t2
    h.0 (h.2, h.1.1) k)
    (acts_knowing sink.written sink.puts sink.faults went out c.loop-addr.out host mid before c.loop-addr.invariant)
    c.in-Ok.ensures.acts in
    let all : addr + 1 ≡ 256 = omega (arith, c.loop-addr-test.true) in
    record {
      acts = subst (λ n. Acts sink.written sink.puts sink.faults
          (Both (Exchanges gives link.sent link.failures (setup_of c.args.host.now).devices (watched c.args.link.now c.args.page.now) (watched c.stop_if_running.new.link c.stop_if_running.new.page))
          (FollowsDesk (Ok tt) desk c.stop_if_running.new.desk))
          (StopsUpTo n (LivesPast (Ok tt)) (KnownAfter host desk) (setup_of host)) (Ok tt) out c.stop_if_running.new.out host
          c.stop_if_running.new.host) all acts;
    }
