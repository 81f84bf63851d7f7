use Rattle.std.proofs.Common.{Ok, Err}
use Rattle.cct_host.specs.Host.{setup_of}
use Rattle.cct_live_service.specs.AtDesk.{Both, FollowsDesk}
use Rattle.cct_live_service.specs.Doing.{Finds, IsAsking, VisitsLast, VisitsTurn}
use Rattle.cct_live_service.specs.Known.{TaskAfter, TaskNow}
use Rattle.cct_live_service.specs.Linked.{UsesLink, watched}
use Rattle.cct_live_service.proofs.Found.{found_on}
use Rattle.cct_live_service.proofs.KnownLater.{Knowing, acts_knowing, task_later}
use Rattle.cct_live_service.proofs.Linking.{roll_apart, roll_desk, roll_told}
use Rattle.cct_live_service.proofs.Parts.{acts_weaker}
use Rattle.cct_live_service.proofs.Polling.{asking_alone, asking_then, last_finds}
use Rattle.cct_live_service.proofs.Visiting.{turn_weaker}
use Rattle.cct_live_service.proofs.poll.ask_then_visit.Goals as goal

pub returns-in-Ok : goal.returns-in-Ok
returns-in-Ok g c =
    let sink = g.K.Sink in
    let link = g.L.CountedLink in
    let turn = c.args.turn in
    let known = c.args.roll.now.findings in
    let roll = c.ask_if_unspent.new.roll in
    let now = roll.findings in
    let first = watched c.args.link.now c.args.page.now in
    let line = watched c.ask_if_unspent.new.link c.ask_if_unspent.new.page in
    let last = watched c.visit_doubtful.new.link c.visit_doubtful.new.page in
    let desk = c.args.desk.now in
    let new = c.visit_doubtful.new.desk in
    let result = c.visit_doubtful.result in
    let between = c.ask_if_unspent.new.out in
    let out = c.visit_doubtful.new.out in
    let before = c.args.host.now in
    let mid = c.ask_if_unspent.new.host in
    let host = c.visit_doubtful.new.host in
    let tasks = TaskAfter before desk in
    let visits = VisitsTurn (TaskNow mid desk) turn in
    let asks = Finds known now IsAsking in
    let went = Both (UsesLink g.L.Link.gives link.sent link.failures (setup_of before).devices c.args.roll.now roll first line)
    (FollowsDesk (Ok tt) desk desk) in
    let acts = roll_apart sink.written sink.puts sink.faults g.L.Link.gives link.sent link.failures (setup_of before).devices
    c.args.roll.now roll first line desk (Ok tt) c.args.out.now between before mid asks c.in-Ok.ensures.acts in
    record {
      acts = roll_desk sink.written sink.puts sink.faults g.L.Link.gives link.sent link.failures c.args.roll.now roll roll
          first line last desk desk new result c.args.out.now between out before mid host
          (Knowing asks went before mid) (Finds now now visits) (Finds known now (VisitsLast tasks turn))
          (λ s1 s2 t1 t2 h k. (
            asking_then tasks turn s1 s2 t1 t2 h.0.0
                (turn_weaker (TaskNow mid desk) (tasks t1)
                (task_later before mid acts.setup desk desk s1 t1 (h.2, h.1.1)) turn s2 t2 k.0),
            found_on known now now t1 t2 h.0.1 k.1,
          ))
          (acts_knowing sink.written sink.puts sink.faults went c.args.out.now between before mid asks acts)
          (roll_told sink.written sink.puts sink.faults g.L.Link.gives link.sent link.failures (setup_of mid).devices roll line
          last desk new result between out mid host (Finds now now visits)
          (acts_weaker sink.written sink.puts sink.faults result between out mid host visits (Finds now now visits)
          (last_finds (TaskNow mid desk) turn now) c.visit_doubtful.ensures.acts));
    }

pub returns-in-Err : goal.returns-in-Err
returns-in-Err g c =
    let sink = g.K.Sink in
    let tasks = TaskAfter c.args.host.now c.args.desk.now in
    let link = g.L.CountedLink in
    let known = c.args.roll.now.findings in
    let now = c.ask_if_unspent.new.roll.findings in
    record {
      acts = roll_apart sink.written sink.puts sink.faults g.L.Link.gives link.sent link.failures
          (setup_of c.args.host.now).devices c.args.roll.now c.ask_if_unspent.new.roll (watched c.args.link.now c.args.page.now)
          (watched c.ask_if_unspent.new.link c.ask_if_unspent.new.page) c.args.desk.now (Err c.in-Err.how) c.args.out.now c.ask_if_unspent.new.out c.args.host.now
          c.ask_if_unspent.new.host (Finds known now (VisitsLast tasks c.args.turn))
          (acts_weaker sink.written sink.puts sink.faults (Err c.in-Err.how) c.args.out.now c.ask_if_unspent.new.out c.args.host.now
          c.ask_if_unspent.new.host (Finds known now IsAsking) (Finds known now (VisitsLast tasks c.args.turn))
          (asking_alone tasks c.args.turn known now) c.in-Err.ensures.acts);
    }
