use Rattle.std.proofs.Common.{Some, inl, inr, refl}
use Rattle.cct_live_service.specs.Doing.{IsVisit, VisitsTurn}
use Rattle.cct_live_service.specs.Known.{TaskNow}
use Rattle.cct_live_service.specs.Linked.{watched}
use Rattle.cct_live_service.proofs.Linking.{link_none}
use Rattle.cct_live_service.proofs.Parts.{acts_weaker}
use Rattle.cct_live_service.proofs.poll.visit_if_unspent.Goals as goal

pub returns-then-is_spent : goal.returns-then-is_spent
returns-then-is_spent g c =
    let sink = g.K.Sink in
    let link = g.L.CountedLink in
    let tasks = TaskNow c.args.host.now c.args.desk.now in
    record {
      acts = link_none sink.written sink.puts sink.faults g.L.Link.gives link.sent link.failures
          (watched c.args.link.now c.args.page.now) c.args.desk.now c.args.out.now c.args.host.now (VisitsTurn tasks (Some c.args.addr))
          c.requires.whole (inl (refl, refl));
    }

pub returns : goal.returns
returns g c =
    let sink = g.K.Sink in
    let tasks = TaskNow c.args.host.now c.args.desk.now in
    let addr = c.args.addr in
    record {
      acts = acts_weaker sink.written sink.puts sink.faults c.visit.result c.args.out.now c.visit.new.out c.args.host.now
          c.visit.new.host (IsVisit tasks addr) (VisitsTurn tasks (Some addr)) (λ steps told h. inr h) c.visit.ensures.acts;
    }
