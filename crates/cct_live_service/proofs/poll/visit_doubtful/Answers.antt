use Rattle.std.proofs.Common.{Some}
use Rattle.cct_live_service.specs.Doing.{VisitsTurn}
use Rattle.cct_live_service.specs.Known.{TaskNow}
use Rattle.cct_live_service.specs.Linked.{watched}
use Rattle.cct_live_service.proofs.Linking.{link_none}
use Rattle.cct_live_service.proofs.Parts.{acts_weaker}
use Rattle.cct_live_service.proofs.Polling.{none_at, visit_at}
use Rattle.cct_live_service.proofs.poll.visit_doubtful.Goals as goal

pub returns-in-Some : goal.returns-in-Some
returns-in-Some g c =
    let sink = g.K.Sink in
    let tasks = TaskNow c.args.host.now c.args.desk.now in
    let turn = c.args.turn in
    let addr = c.in-Some.addr in
    record {
      acts = acts_weaker sink.written sink.puts sink.faults c.visit_if_unspent.result c.args.out.now
          c.visit_if_unspent.new.out c.args.host.now c.visit_if_unspent.new.host (VisitsTurn tasks (Some addr))
          (VisitsTurn tasks turn) (visit_at tasks turn addr c.in-Some.is) c.visit_if_unspent.ensures.acts;
    }

pub returns-in-None : goal.returns-in-None
returns-in-None g c =
    let sink = g.K.Sink in
    let tasks = TaskNow c.args.host.now c.args.desk.now in
    let link = g.L.CountedLink in
    record {
      acts = link_none sink.written sink.puts sink.faults g.L.Link.gives link.sent link.failures
          (watched c.args.link.now c.args.page.now) c.args.desk.now c.args.out.now c.args.host.now (VisitsTurn tasks c.args.turn)
          c.requires.whole (none_at tasks c.args.turn);
    }
