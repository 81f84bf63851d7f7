use Rattle.std.proofs.Common.{Some, ap, drop, length, subst}
use Rattle.cct_host.specs.Host.{setup_of}
use Rattle.cct_live_survey.specs.declared.roll.TheConstants.{MOST_FINDINGS}
use Rattle.cct_live_survey.specs.Roll.{AsksRoll}
use Rattle.cct_live_service.specs.Doing.{Finds, IsAsking, IsFound}
use Rattle.cct_live_service.proofs.Found.{asking_rest}
use Rattle.cct_live_service.proofs.Linking.{roll_asked}
use Rattle.cct_live_service.proofs.Parts.{acts_weaker}
use Rattle.cct_live_service.proofs.asking.ask_at.Goals as goal

pub returns : goal.returns
returns g c =
    let sink = g.K.Sink in
    let link = g.L.CountedLink in
    let old = c.args.roll.now.findings in
    let asked = c.ask_at-answered in
    let now = asked.new.self.findings in
    let known = length c.findings-known.result.now in
    let host = c.args.host.now in
    let asks = subst (λ setup. AsksRoll g.L.Link.gives setup.devices (Some c.args.addr) MOST_FINDINGS c.args.roll.now
    c.args.link.now asked.result asked.new.self asked.new.link) c.setup.ensures asked.ensures.asks in
    record {
      acts = roll_asked sink.written sink.puts sink.faults g.L.Link.gives link.sent link.failures (setup_of host).devices
          (Some c.args.addr) asked.result c.args.roll.now asked.new.self c.args.link.now asked.new.link c.args.page.now
          c.tell_new.new.page c.tell_new.ensures.watch asks
          c.tell_new.result c.args.out.now c.tell_new.new.out host c.tell_new.new.host (Finds old now IsAsking)
          (acts_weaker sink.written sink.puts sink.faults c.tell_new.result c.args.out.now c.tell_new.new.out
          host c.tell_new.new.host (IsFound (drop known now)) (Finds old now IsAsking)
          (asking_rest old now asked.ensures.grows.0 known asked.ensures.grows.1 (ap length c.findings-known.ensures))
          c.tell_new.ensures.acts);
      asks = (asked.result, asks);
      watch = c.tell_new.ensures.watch;
    }
