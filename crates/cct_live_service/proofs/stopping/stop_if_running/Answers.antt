use Rattle.std.proofs.Common.{◌∙◌, Ok, ap, false, true, inl, inr, refl, sym}
use Rattle.cct_host.specs.Host.{setup_of}
use Rattle.cct_live_service.specs.Doing.{LivesPast, StopsAt, StopsRunning}
use Rattle.cct_live_service.specs.Known.{KnownAfter, Runs}
use Rattle.cct_live_service.specs.Opening.{is_running}
use Rattle.cct_live_service.specs.Linked.{watched}
use Rattle.cct_live_service.proofs.KnownLater.{known_now}
use Rattle.cct_live_service.proofs.Linking.{link_none}
use Rattle.cct_live_service.proofs.Parts.{acts_weaker}
use Rattle.cct_live_service.proofs.stopping.stop_if_running.Goals as goal

pub returns-then-runs : goal.returns-then-runs
returns-then-runs g c =
    let sink = g.K.Sink in
    let addr = c.args.addr in
    let host = c.args.host.now in
    let knows = KnownAfter host c.args.desk.now in
    record {
      acts = acts_weaker sink.written sink.puts sink.faults c.stop.result c.args.out.now c.stop.new.out host c.stop.new.host
          (StopsRunning (LivesPast c.stop.result) knows (setup_of host) addr)
          (StopsAt (LivesPast c.stop.result) knows (setup_of host) addr)
          (λ steps told h. inr (
            h,
            λ lasts. known_now host c.args.desk.now (Runs (setup_of host) addr true)
                (λ past keeps. ap is_running (sym (c.epoch_at.ensures.stands past keeps)) ∙ sym c.runs.ensures
                ∙ c.if-runs.true),
          ))
          c.stop.ensures.acts;
    }

pub returns-else-runs : goal.returns-else-runs
returns-else-runs g c =
    let sink = g.K.Sink in
    let link = g.L.CountedLink in
    let addr = c.args.addr in
    let host = c.args.host.now in
    let desk = c.args.desk.now in
    let setup = setup_of host in
    record {
      acts = link_none sink.written sink.puts sink.faults g.L.Link.gives link.sent link.failures (watched c.args.link.now c.args.page.now) desk
          c.args.out.now host (StopsAt (LivesPast (Ok tt)) (KnownAfter host desk) setup addr) c.requires.whole
          (inl (
            (refl, refl),
            known_now host desk (Runs setup addr false)
                (λ past keeps. ap is_running (sym (c.epoch_at.ensures.stands past keeps)) ∙ sym c.runs.ensures
                ∙ c.if-runs.false),
          ));
    }
