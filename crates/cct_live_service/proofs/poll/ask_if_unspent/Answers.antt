use Rattle.std.proofs.Common.{refl}
use Rattle.cct_host.specs.Host.{setup_of}
use Rattle.cct_live_service.specs.AtDesk.{IsApart}
use Rattle.cct_live_service.specs.Doing.{Finds, IsAsking}
use Rattle.cct_live_service.specs.Linked.{watched}
use Rattle.cct_live_service.proofs.Found.{asking_none}
use Rattle.cct_live_service.proofs.Linking.{roll_none}
use Rattle.cct_live_service.proofs.poll.ask_if_unspent.Goals as goal

pub returns-then-is_spent : goal.returns-then-is_spent
returns-then-is_spent g c =
    let sink = g.K.Sink in
    let link = g.L.CountedLink in
    let known = c.args.roll.now.findings in
    record {
      acts = roll_none sink.written sink.puts sink.faults g.L.Link.gives link.sent link.failures
          (setup_of c.args.host.now).devices c.args.roll.now (watched c.args.link.now c.args.page.now) IsApart
          (λ desk. refl) c.args.out.now c.args.host.now (Finds known known IsAsking) c.requires.whole (asking_none known);
    }
