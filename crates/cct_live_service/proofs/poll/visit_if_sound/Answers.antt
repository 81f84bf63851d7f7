use Rattle.std.proofs.Common.{inl, inr, refl}
use Rattle.cct_live_service.specs.Doing.{IsVisit, VisitsUnless}
use Rattle.cct_live_service.specs.Known.{TaskNow}
use Rattle.cct_live_service.specs.Linked.{watched}
use Rattle.cct_live_service.proofs.Linking.{link_none}
use Rattle.cct_live_service.proofs.Parts.{acts_weaker}
use Rattle.cct_live_service.proofs.poll.visit_if_sound.Goals as goal

pub returns-then-is_now : goal.returns-then-is_now
returns-then-is_now g c =
    let sink = g.K.Sink in
    let tasks = TaskNow c.args.host.now c.args.desk.now in
    let addr = c.args.addr in
    record {
      acts = acts_weaker sink.written sink.puts sink.faults c.visit.result c.args.out.now c.visit.new.out c.args.host.now
          c.visit.new.host (IsVisit tasks addr) (VisitsUnless tasks c.args.turn addr)
          (λ steps told h. inr (h, c.is_now.ensures c.if-is_now.true)) c.visit.ensures.acts;
    }

pub returns-else-is_now : goal.returns-else-is_now
returns-else-is_now g c =
    let sink = g.K.Sink in
    let tasks = TaskNow c.args.host.now c.args.desk.now in
    let link = g.L.CountedLink in
    record {
      acts = link_none sink.written sink.puts sink.faults g.L.Link.gives link.sent link.failures
          (watched c.args.link.now c.args.page.now) c.args.desk.now c.args.out.now c.args.host.now (VisitsUnless tasks c.args.turn c.args.addr)
          c.requires.whole (inl (refl, refl));
    }
