use Rattle.std.proofs.Common.{◌∙◌, refl, subst, sym}
use Rattle.cct_host.specs.Host.{setup_of}
use Rattle.cct_live_service.specs.Asked.{AsksAt}
use Rattle.cct_live_service.specs.AtDesk.{IsApart}
use Rattle.cct_live_service.specs.Doing.{Finds, IsAsking}
use Rattle.cct_live_service.specs.Linked.{watched}
use Rattle.cct_live_service.proofs.Found.{asking_none}
use Rattle.cct_live_service.proofs.Linking.{roll_none}
use Rattle.cct_live_service.proofs.asking.ask_before.Goals as goal

pub returns-in-Some : goal.returns-in-Some
returns-in-Some g c = record {
  acts = c.ask_at.ensures.acts;
  asks = subst (λ whom. AsksAt g.L.Link.gives (setup_of c.args.host.now).devices whom c.args.roll.now c.args.link.now
      c.ask_at.new.roll c.ask_at.new.link) (sym c.in-Some.is ∙ c.asked_before.ensures) c.ask_at.ensures.asks;
  watch = c.ask_at.ensures.watch;
}

pub returns-in-None : goal.returns-in-None
returns-in-None g c =
    let sink = g.K.Sink in
    let known = c.args.roll.now.findings in
    let host = c.args.host.now in
    let roll = c.args.roll.now in
    let line = c.args.link.now in
    let link = g.L.CountedLink in
    record {
      acts = roll_none sink.written sink.puts sink.faults g.L.Link.gives link.sent link.failures (setup_of host).devices roll
          (watched line c.args.page.now) IsApart (λ desk. refl) c.args.out.now host (Finds known known IsAsking) c.requires.whole
          (asking_none known);
      asks = subst (λ whom. AsksAt g.L.Link.gives (setup_of host).devices whom roll line roll line)
          (sym c.in-None.is ∙ c.asked_before.ensures) (refl, refl);
      watch = refl;
    }
