use Rattle.std.proofs.Common.{[], Ok, Err}
use Rattle.cct_host.specs.Host.{setup_of}
use Rattle.cct_live_service.specs.Doing.{Finds, IsAsking, VisitsLast, VisitsTurn}
use Rattle.cct_live_service.specs.Known.{TaskAfter, TaskNow}
use Rattle.cct_live_service.specs.Linked.{watched}
use Rattle.cct_live_service.proofs.Found.{finds_then}
use Rattle.cct_live_service.proofs.KnownLater.{task_now}
use Rattle.cct_live_service.proofs.Linking.{roll_apart, roll_desk, roll_told}
use Rattle.cct_live_service.proofs.Parts.{acts_weaker}
use Rattle.cct_live_service.proofs.Polling.{last_finds, visit_alone, visit_then_asking}
use Rattle.cct_live_service.proofs.Visiting.{turn_weaker}
use Rattle.cct_live_service.proofs.poll.visit_then_ask.Goals as goal

pub returns-in-Ok : goal.returns-in-Ok
returns-in-Ok g c =
    let sink = g.K.Sink in
    let link = g.L.CountedLink in
    let turn = c.args.turn in
    let tasks = TaskAfter c.args.host.now c.args.desk.now in
    let Now = TaskNow c.args.host.now c.args.desk.now in
    let visits = VisitsTurn (tasks []) turn in
    let roll = c.args.roll.now in
    let known = roll.findings in
    let now = c.ask_if_unspent.new.roll.findings in
    let line = watched c.visit_doubtful.new.link c.visit_doubtful.new.page in
    let desk = c.visit_doubtful.new.desk in
    let between = c.visit_doubtful.new.out in
    let host = c.args.host.now in
    let mid = c.visit_doubtful.new.host in
    record {
      acts = roll_desk sink.written sink.puts sink.faults g.L.Link.gives link.sent link.failures roll roll
          c.ask_if_unspent.new.roll (watched c.args.link.now c.args.page.now) line (watched c.ask_if_unspent.new.link c.ask_if_unspent.new.page) c.args.desk.now desk desk
          c.ask_if_unspent.result c.args.out.now between
          c.ask_if_unspent.new.out host mid c.ask_if_unspent.new.host (Finds known known visits) (Finds known now IsAsking)
          (Finds known now (VisitsLast tasks turn)) (finds_then known known now visits IsAsking (VisitsLast tasks turn) (visit_then_asking tasks turn))
          (roll_told sink.written sink.puts sink.faults g.L.Link.gives link.sent link.failures (setup_of host).devices roll
          (watched c.args.link.now c.args.page.now) line c.args.desk.now desk (Ok tt) c.args.out.now between host mid (Finds known known visits)
          (acts_weaker sink.written sink.puts sink.faults (Ok tt) c.args.out.now between host mid (VisitsTurn Now turn)
          (Finds known known visits) (λ s t h. last_finds (tasks []) turn known s t
          (turn_weaker Now (tasks []) (task_now host c.args.desk.now) turn s t h)) c.in-Ok.ensures.acts))
          (roll_apart sink.written sink.puts sink.faults g.L.Link.gives link.sent link.failures (setup_of mid).devices roll
          c.ask_if_unspent.new.roll line (watched c.ask_if_unspent.new.link c.ask_if_unspent.new.page) desk c.ask_if_unspent.result between c.ask_if_unspent.new.out mid
          c.ask_if_unspent.new.host (Finds known now IsAsking) c.ask_if_unspent.ensures.acts);
    }

pub returns-in-Err : goal.returns-in-Err
returns-in-Err g c =
    let sink = g.K.Sink in
    let link = g.L.CountedLink in
    let turn = c.args.turn in
    let tasks = TaskAfter c.args.host.now c.args.desk.now in
    let Now = TaskNow c.args.host.now c.args.desk.now in
    let roll = c.args.roll.now in
    let known = roll.findings in
    let how = c.in-Err.how in
    let out = c.visit_doubtful.new.out in
    let host = c.args.host.now in
    let mid = c.visit_doubtful.new.host in
    record {
      acts = roll_told sink.written sink.puts sink.faults g.L.Link.gives link.sent link.failures (setup_of host).devices roll
          (watched c.args.link.now c.args.page.now) (watched c.visit_doubtful.new.link c.visit_doubtful.new.page) c.args.desk.now c.visit_doubtful.new.desk (Err how) c.args.out.now out host mid (Finds known known (VisitsLast tasks turn))
          (acts_weaker sink.written sink.puts sink.faults (Err how) c.args.out.now out host mid (VisitsTurn Now turn)
          (Finds known known (VisitsLast tasks turn)) (λ s t h. visit_alone tasks turn known s t
          (turn_weaker Now (tasks []) (task_now host c.args.desk.now) turn s t h)) c.in-Err.ensures.acts);
    }
