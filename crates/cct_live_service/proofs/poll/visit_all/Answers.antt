use Rattle.std.proofs.Common.{Ok, Err, ◌++◌}
use Rattle.cct_host.specs.Host.{setup_of}
use Rattle.cct_live_service.specs.AtDesk.{Both, FollowsDesk}
use Rattle.cct_live_service.specs.Doing.{Finds, IsPoll, VisitsLast, VisitsOthers}
use Rattle.cct_live_service.specs.Known.{TaskAfter}
use Rattle.cct_live_service.specs.Linked.{UsesLink, watched}
use Rattle.cct_live_service.proofs.Found.{found_on}
use Rattle.cct_live_service.proofs.KnownLater.{Knowing, acts_knowing, task_then}
use Rattle.cct_live_service.proofs.Linking.{roll_desk, roll_told}
use Rattle.cct_live_service.proofs.Parts.{acts_weaker}
use Rattle.cct_live_service.proofs.Polling.{others_find, polls, polls_alone}
use Rattle.cct_live_service.proofs.Visiting.{last_weaker}
use Rattle.cct_live_service.proofs.poll.visit_all.Goals as goal

pub returns-in-Ok : goal.returns-in-Ok
returns-in-Ok g c =
    let sink = g.K.Sink in
    let link = g.L.CountedLink in
    let turn = c.next_doubtful-turn.result in
    let roll = c.args.roll.now in
    let known = roll.findings in
    let now = c.visit_last.new.roll.findings in
    let first = watched c.args.link.now c.args.page.now in
    let line = watched c.visit_sound.new.link c.visit_sound.new.page in
    let was = c.args.desk.now in
    let desk = c.visit_sound.new.desk in
    let between = c.visit_sound.new.out in
    let host = c.args.host.now in
    let mid = c.visit_sound.new.host in
    let tasks = TaskAfter host was in
    let others = Finds known known (VisitsOthers tasks turn) in
    let went = Both (UsesLink g.L.Link.gives link.sent link.failures (setup_of host).devices roll roll first line)
    (FollowsDesk (Ok tt) was desk) in
    let acts = roll_told sink.written sink.puts sink.faults g.L.Link.gives link.sent link.failures (setup_of host).devices roll
    first line was desk (Ok tt) c.args.out.now between host mid others
    (acts_weaker sink.written sink.puts sink.faults (Ok tt) c.args.out.now between host mid (VisitsOthers tasks turn)
    others (others_find tasks turn known) c.in-Ok.ensures.acts) in
    record {
      acts = roll_desk sink.written sink.puts sink.faults g.L.Link.gives link.sent link.failures roll roll
          c.visit_last.new.roll first line (watched c.visit_last.new.link c.visit_last.new.page) was desk
          c.visit_last.new.desk c.visit_last.result c.args.out.now between
          c.visit_last.new.out host mid c.visit_last.new.host (Knowing others went host mid)
          (Finds known now (VisitsLast (TaskAfter mid desk) turn)) (Finds known now (IsPoll tasks))
          (λ s1 s2 t1 t2 h k. (
            polls tasks turn s1 s2 t1 t2 h.0.0
                (last_weaker (TaskAfter mid desk) (λ more. tasks (t1 ++ more))
                (task_then host mid acts.setup was desk s1 t1 (h.2, h.1.1)) turn s2 t2 k.0),
            found_on known known now t1 t2 h.0.1 k.1,
          ))
          (acts_knowing sink.written sink.puts sink.faults went c.args.out.now between host mid others acts)
          c.visit_last.ensures.acts;
    }

pub returns-in-Err : goal.returns-in-Err
returns-in-Err g c =
    let sink = g.K.Sink in
    let link = g.L.CountedLink in
    let turn = c.next_doubtful-turn.result in
    let roll = c.args.roll.now in
    let known = roll.findings in
    let how = c.in-Err.how in
    let out = c.visit_sound.new.out in
    let host = c.args.host.now in
    let mid = c.visit_sound.new.host in
    let tasks = TaskAfter host c.args.desk.now in
    record {
      acts = roll_told sink.written sink.puts sink.faults g.L.Link.gives link.sent link.failures (setup_of host).devices roll
          (watched c.args.link.now c.args.page.now) (watched c.visit_sound.new.link c.visit_sound.new.page) c.args.desk.now c.visit_sound.new.desk (Err how) c.args.out.now out host mid (Finds known known (IsPoll tasks))
          (acts_weaker sink.written sink.puts sink.faults (Err how) c.args.out.now out host mid (VisitsOthers tasks turn)
          (Finds known known (IsPoll tasks)) (polls_alone tasks turn known) c.in-Err.ensures.acts);
    }
