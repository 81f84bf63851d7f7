use Rattle.std.proofs.Common.{Ok, Err, ◌++◌}
use Rattle.cct_host.specs.Host.{setup_of}
use Rattle.cct_live_service.specs.AtDesk.{Both, FollowsDesk}
use Rattle.cct_live_service.specs.Doing.{Finds, IsPoll, ServesOn, ThenBy}
use Rattle.cct_live_service.specs.Known.{Rested, TaskAfter}
use Rattle.cct_live_service.specs.Linked.{UsesLink, watched}
use Rattle.cct_live_service.proofs.Found.{found_on}
use Rattle.cct_live_service.proofs.KnownLater.{Knowing, acts_knowing, task_then}
use Rattle.cct_live_service.proofs.Linking.{roll_desk}
use Rattle.cct_live_service.proofs.Parts.{acts_weaker}
use Rattle.cct_live_service.proofs.Sessions.{served_alone, served_then}
use Rattle.cct_live_service.proofs.Visiting.{poll_weaker}
use Rattle.cct_live_service.proofs.poll.poll.Goals as goal

pub returns-in-Ok : goal.returns-in-Ok
returns-in-Ok g c =
    let sink = g.K.Sink in
    let link = g.L.CountedLink in
    let roll = c.args.roll.now in
    let known = roll.findings in
    let host = c.args.host.now in
    let was = c.args.desk.now in
    let rested = Rested host was in
    let tasks = TaskAfter host was in
    let mid = c.go_on_with_session.new.roll in
    let between = c.go_on_with_session.new.host in
    let desk = c.go_on_with_session.new.desk in
    let now = c.visit_all.new.roll.findings in
    let first = watched c.args.link.now c.args.page.now in
    let line = watched c.go_on_with_session.new.link c.go_on_with_session.new.page in
    let serves = Finds known mid.findings (ServesOn rested known) in
    let went = Both (UsesLink g.L.Link.gives link.sent link.failures (setup_of host).devices roll mid first line)
    (FollowsDesk (Ok tt) was desk) in
    record {
      acts = roll_desk sink.written sink.puts sink.faults g.L.Link.gives link.sent link.failures roll mid c.visit_all.new.roll
          first line (watched c.visit_all.new.link c.visit_all.new.page) was desk
          c.visit_all.new.desk c.visit_all.result c.args.out.now
          c.go_on_with_session.new.out c.visit_all.new.out host between c.visit_all.new.host
          (Knowing serves went host between) (Finds mid.findings now (IsPoll (TaskAfter between desk)))
          (Finds known now (ThenBy (ServesOn rested known) (λ said. IsPoll (λ more. tasks (said ++ more)))))
          (λ s1 s2 t1 t2 h k. (
            served_then rested tasks known s1 s2 t1 t2 h.0.0
                (poll_weaker (TaskAfter between desk) (λ more. tasks (t1 ++ more))
                (task_then host between c.in-Ok.ensures.acts.setup was desk s1 t1 (h.2, h.1.1)) s2 t2 k.0),
            found_on known mid.findings now t1 t2 h.0.1 k.1,
          ))
          (acts_knowing sink.written sink.puts sink.faults went c.args.out.now c.go_on_with_session.new.out host between serves
          c.in-Ok.ensures.acts)
          c.visit_all.ensures.acts;
    }

pub returns-in-Err : goal.returns-in-Err
returns-in-Err g c =
    let sink = g.K.Sink in
    let known = c.args.roll.now.findings in
    let rested = Rested c.args.host.now c.args.desk.now in
    let tasks = TaskAfter c.args.host.now c.args.desk.now in
    let now = c.go_on_with_session.new.roll.findings in
    record {
      acts = acts_weaker sink.written sink.puts sink.faults (Err c.in-Err.how) c.args.out.now c.go_on_with_session.new.out
          c.args.host.now c.go_on_with_session.new.host (Finds known now (ServesOn rested known))
          (Finds known now (ThenBy (ServesOn rested known) (λ said. IsPoll (λ more. tasks (said ++ more)))))
          (served_alone rested tasks known now) c.in-Err.ensures.acts;
    }
