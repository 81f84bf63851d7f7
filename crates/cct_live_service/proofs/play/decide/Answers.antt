use Rattle.std.proofs.Common.{subst}
use Rattle.cct_host.specs.Host.{setup_of}
use Rattle.cct_live_survey.specs.Finding.{withheld_by}
use Rattle.cct_live_service.specs.Asked.{asked_before}
use Rattle.cct_live_service.specs.AtDesk.{Both, IsApart}
use Rattle.cct_live_service.specs.Doing.{Decides, DoesCommand, Finds, IsAsking}
use Rattle.cct_live_service.specs.Linked.{IsDecision, UsesLink, watched}
use Rattle.cct_live_service.specs.Parts.{Acts}
use Rattle.cct_live_service.proofs.Desks.{apart_then}
use Rattle.cct_live_service.proofs.Found.{decides_broken, decides_then}
use Rattle.cct_live_service.proofs.Linking.{roll_decided}
use Rattle.cct_live_service.proofs.Parts.{acts_front}
use Rattle.cct_live_service.proofs.play.decide.Goals as goal

pub returns-in-Ok : goal.returns-in-Ok
returns-in-Ok g c =
    let sink = g.K.Sink in
    let link = g.L.CountedLink in
    let old = c.args.roll.now.findings in
    let now = c.ask_before.new.roll.findings in
    let said = c.args.command.now in
    let host = c.args.host.now in
    let mid = c.ask_before.new.host in
    let uses = UsesLink g.L.Link.gives link.sent link.failures (setup_of host).devices c.args.roll.now c.ask_before.new.roll
    (watched c.args.link.now c.args.page.now) (watched c.ask_before.new.link c.ask_before.new.page) in
    record {
      acts = roll_decided sink.written sink.puts sink.faults g.L.Link.gives link.sent link.failures (asked_before said)
          c.args.roll.now c.ask_before.new.roll c.args.link.now c.ask_before.new.link c.args.page.now c.ask_before.new.page
          c.answer_or_withhold.new.page c.ask_before.ensures.watch c.answer_or_withhold.ensures.watch uses IsApart IsApart IsApart
          apart_then c.answer_or_withhold.result c.args.out.now c.ask_before.new.out c.answer_or_withhold.new.out host mid
          c.answer_or_withhold.new.host old now (DoesCommand said (withheld_by now said)) (Finds old now (Decides old said))
          (decides_then old now said) c.in-Ok.ensures.asks c.in-Ok.ensures.acts
          (subst (λ f. Acts sink.written sink.puts sink.faults (Both (IsDecision (asked_before said)) IsApart) (DoesCommand said (withheld_by f said))
          c.answer_or_withhold.result c.ask_before.new.out c.answer_or_withhold.new.out mid c.answer_or_withhold.new.host)
          c.findings.ensures c.answer_or_withhold.ensures.acts);
      asks = c.in-Ok.ensures.asks;
    }

pub returns-in-Err : goal.returns-in-Err
returns-in-Err g c =
    let sink = g.K.Sink in
    let old = c.args.roll.now.findings in
    let now = c.ask_before.new.roll.findings in
    let said = c.args.command.now in
    record {
      acts = acts_front sink.written sink.puts sink.faults c.in-Err.how c.args.out.now c.ask_before.new.out
          c.args.host.now c.ask_before.new.host (Finds old now IsAsking) (Finds old now (Decides old said))
          (decides_broken old now said) c.in-Err.ensures.acts;
      asks = c.in-Err.ensures.asks;
    }
