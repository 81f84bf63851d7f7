use Rattle.std.proofs.Common.{◌++◌, ◌+◌, List, Ok, Err, arith}
use Rattle.cct_host.specs.Host.{setup_of}
use Rattle.cct_laws_live.specs.LiveStep.{LiveStep}
use Rattle.cct_live_service.specs.AtDesk.{Both, FollowsDesk}
use Rattle.cct_live_service.specs.Doing.{VisitsOthers, VisitsUnless}
use Rattle.cct_live_service.specs.Known.{TaskAfter, TaskNow}
use Rattle.cct_live_service.specs.Linked.{Exchanges, watched}
use Rattle.cct_live_service.specs.Told.{Told}
use Rattle.cct_live_service.proofs.KnownLater.{Knowing, acts_knowing, task_later}
use Rattle.cct_live_service.proofs.Linking.{link_none, link_then}
use Rattle.cct_live_service.proofs.Parts.{acts_weaker}
use Rattle.cct_live_service.proofs.Polling.{SoFar, far_all, far_more, far_none}
use Rattle.cct_live_service.proofs.Visiting.{unless_weaker}
use Rattle.cct_live_service.proofs.poll.visit_sound.Goals as goal

pub loop-step-init : goal.loop-step-init
loop-step-init g c =
    let sink = g.K.Sink in
    let host = c.args.host.now in
    let tasks = TaskAfter host c.args.desk.now in
    let link = g.L.CountedLink in
    link_none sink.written sink.puts sink.faults g.L.Link.gives link.sent link.failures
    (watched c.args.link.now c.args.page.now) c.args.desk.now c.args.out.now c.args.host.now
    (SoFar tasks c.first-first.result 0 c.args.turn) c.requires.whole (far_none tasks c.first-first.result c.args.turn)

pub returns-in-Err : goal.returns-in-Err
returns-in-Err g c =
    let sink = g.K.Sink in
    let host = c.args.host.now in
    let tasks = TaskAfter host c.args.desk.now in
    let link = g.L.CountedLink in
    let first = c.first-first.result in
    let step = c.loop-step.step in
    let turn = c.args.turn in
    let addr = c.address_after-addr.result in
    let gives = g.L.Link.gives in
    let mid = c.loop-step.host in
    let between = c.loop-step.desk in
    let went = Both (Exchanges gives link.sent link.failures (setup_of host).devices (watched c.args.link.now c.args.page.now)
    (watched c.loop-step.link c.loop-step.page)) (FollowsDesk (Ok tt) c.args.desk.now between) in
    let before = SoFar tasks first step turn in
    let done = acts_knowing sink.written sink.puts sink.faults went c.args.out.now c.loop-step.out host mid before c.loop-step.invariant in
    let more : (s1 s2 : List LiveStep) (t1 t2 : List Told) → Knowing before went host mid s1 t1 →
    VisitsUnless (TaskNow mid between) turn addr s2 t2 → SoFar tasks first (step + 1) turn (s1 ++ s2) (t1 ++ t2) =
    λ s1 s2 t1 t2 h k. far_more tasks first step addr (omega (arith, c.loop-step-test.true)) c.address_after-addr.ensures turn s1 s2 t1 t2 h.0
    (unless_weaker (TaskNow mid between) (tasks t1)
    (task_later host mid c.loop-step.invariant.setup c.args.desk.now between s1 t1 (h.2, h.1.1)) turn addr s2 t2 k) in
    record {
      acts = link_then sink.written sink.puts sink.faults g.L.Link.gives link.sent link.failures (watched c.args.link.now c.args.page.now)
          (watched c.loop-step.link c.loop-step.page) (watched c.visit_if_sound.new.link c.visit_if_sound.new.page) c.args.desk.now
          c.loop-step.desk c.visit_if_sound.new.desk (Err c.in-Err.how) c.args.out.now c.loop-step.out c.visit_if_sound.new.out c.args.host.now
          c.loop-step.host c.visit_if_sound.new.host (Knowing before went host mid) (VisitsUnless (TaskNow mid between) turn addr) (VisitsOthers tasks turn)
          (λ s1 s2 t1 t2 h k. far_all tasks first (step + 1) turn (s1 ++ s2) (t1 ++ t2)
          (more s1 s2 t1 t2 h k)) done c.in-Err.ensures.acts;
    }

pub loop-step-preserved : goal.loop-step-preserved
loop-step-preserved g c =
    let sink = g.K.Sink in
    let host = c.args.host.now in
    let tasks = TaskAfter host c.args.desk.now in
    let link = g.L.CountedLink in
    let first = c.first-first.result in
    let step = c.loop-step.step in
    let turn = c.args.turn in
    let addr = c.address_after-addr.result in
    let gives = g.L.Link.gives in
    let mid = c.loop-step.host in
    let between = c.loop-step.desk in
    let went = Both (Exchanges gives link.sent link.failures (setup_of host).devices (watched c.args.link.now c.args.page.now)
    (watched c.loop-step.link c.loop-step.page)) (FollowsDesk (Ok tt) c.args.desk.now between) in
    let before = SoFar tasks first step turn in
    let done = acts_knowing sink.written sink.puts sink.faults went c.args.out.now c.loop-step.out host mid before c.loop-step.invariant in
    let more : (s1 s2 : List LiveStep) (t1 t2 : List Told) → Knowing before went host mid s1 t1 →
    VisitsUnless (TaskNow mid between) turn addr s2 t2 → SoFar tasks first (step + 1) turn (s1 ++ s2) (t1 ++ t2) =
    λ s1 s2 t1 t2 h k. far_more tasks first step addr (omega (arith, c.loop-step-test.true)) c.address_after-addr.ensures turn s1 s2 t1 t2 h.0
    (unless_weaker (TaskNow mid between) (tasks t1)
    (task_later host mid c.loop-step.invariant.setup c.args.desk.now between s1 t1 (h.2, h.1.1)) turn addr s2 t2 k) in
    link_then sink.written sink.puts sink.faults g.L.Link.gives link.sent link.failures (watched c.args.link.now c.args.page.now)
    (watched c.loop-step.link c.loop-step.page) (watched c.visit_if_sound.new.link c.visit_if_sound.new.page) c.args.desk.now
    c.loop-step.desk c.visit_if_sound.new.desk (Ok tt) c.args.out.now c.loop-step.out c.visit_if_sound.new.out c.args.host.now
    c.loop-step.host c.visit_if_sound.new.host (Knowing before went host mid) (VisitsUnless (TaskNow mid between) turn addr) (SoFar tasks first (step + 1) turn)
    more done c.in-Ok.ensures.acts

pub returns-then-has_failed : goal.returns-then-has_failed
returns-then-has_failed g c =
    let sink = g.K.Sink in
    let host = c.args.host.now in
    let tasks = TaskAfter host c.args.desk.now in
    let link = g.L.CountedLink in
    let first = c.first-first.result in
    let step = c.loop-step.step in
    let turn = c.args.turn in
    let addr = c.address_after-addr.result in
    let gives = g.L.Link.gives in
    let mid = c.loop-step.host in
    let between = c.loop-step.desk in
    let went = Both (Exchanges gives link.sent link.failures (setup_of host).devices (watched c.args.link.now c.args.page.now)
    (watched c.loop-step.link c.loop-step.page)) (FollowsDesk (Ok tt) c.args.desk.now between) in
    let before = SoFar tasks first step turn in
    let done = acts_knowing sink.written sink.puts sink.faults went c.args.out.now c.loop-step.out host mid before c.loop-step.invariant in
    let more : (s1 s2 : List LiveStep) (t1 t2 : List Told) → Knowing before went host mid s1 t1 →
    VisitsUnless (TaskNow mid between) turn addr s2 t2 → SoFar tasks first (step + 1) turn (s1 ++ s2) (t1 ++ t2) =
    λ s1 s2 t1 t2 h k. far_more tasks first step addr (omega (arith, c.loop-step-test.true)) c.address_after-addr.ensures turn s1 s2 t1 t2 h.0
    (unless_weaker (TaskNow mid between) (tasks t1)
    (task_later host mid c.loop-step.invariant.setup c.args.desk.now between s1 t1 (h.2, h.1.1)) turn addr s2 t2 k) in
    record {
      acts = link_then sink.written sink.puts sink.faults g.L.Link.gives link.sent link.failures (watched c.args.link.now c.args.page.now)
          (watched c.loop-step.link c.loop-step.page) (watched c.visit_if_sound.new.link c.visit_if_sound.new.page) c.args.desk.now
          c.loop-step.desk c.visit_if_sound.new.desk (Ok tt) c.args.out.now c.loop-step.out c.visit_if_sound.new.out c.args.host.now
          c.loop-step.host c.visit_if_sound.new.host (Knowing before went host mid) (VisitsUnless (TaskNow mid between) turn addr) (VisitsOthers tasks turn)
          (λ s1 s2 t1 t2 h k. far_all tasks first (step + 1) turn (s1 ++ s2) (t1 ++ t2)
          (more s1 s2 t1 t2 h k)) done c.in-Ok.ensures.acts;
    }

pub returns : goal.returns
returns g c =
    let sink = g.K.Sink in
    let host = c.args.host.now in
    let tasks = TaskAfter host c.args.desk.now in
    let first = c.first-first.result in
    let step = c.loop-step.step in
    let turn = c.args.turn in
    record {
      acts = acts_weaker sink.written sink.puts sink.faults (Ok tt) c.args.out.now c.loop-step.out c.args.host.now
          c.loop-step.host (SoFar tasks first step turn) (VisitsOthers tasks turn) (far_all tasks first step turn) c.loop-step.invariant;
    }
