use Rattle.std.proofs.Common.{Err, Ok, Some, subst}
use Rattle.cct_host.specs.Host.{setup_of}
use Rattle.cct_live_survey.specs.Finding.{withheld_by}
use Rattle.cct_live_service.specs.Asked.{AsksAt, asked_before}
use Rattle.cct_live_service.specs.AtDesk.{Both, FollowsDesk, IsApart}
use Rattle.cct_live_service.specs.Doing.{DecidesPay, DoesPay, Finds, IsAsking}
use Rattle.cct_live_service.specs.Linked.{IsDecision, UsesLink, watched}
use Rattle.cct_live_service.specs.Parts.{Acts}
use Rattle.cct_live_service.specs.Told.{pay_of}
use Rattle.cct_live_service.proofs.Desks.{apart_follows, follows_then}
use Rattle.cct_live_service.proofs.Linking.{roll_apart, roll_decided}
use Rattle.cct_live_service.proofs.Parts.{acts_front}
use Rattle.cct_live_service.proofs.Sessions.{pays_broken, pays_then}
use Rattle.cct_live_service.proofs.session.pay.Goals as goal

pub returns-in-Ok : goal.returns-in-Ok
returns-in-Ok g c =
    let sink = g.K.Sink in
    let link = g.L.CountedLink in
    let old = c.args.roll.now.findings in
    let now = c.ask_before.new.roll.findings in
    let p = c.args.payment in
    let host = c.args.host.now in
    let mid = c.ask_before.new.host in
    let new = c.give_or_withhold.new.desk in
    let result = c.give_or_withhold.result in
    let whom = Some p.addr in
    let does = DoesPay p (withheld_by now (pay_of p)) in
    let uses = UsesLink g.L.Link.gives link.sent link.failures (setup_of host).devices c.args.roll.now c.ask_before.new.roll
    (watched c.args.link.now c.args.page.now) (watched c.ask_before.new.link c.ask_before.new.page) in
    let asks = subst (λ said. AsksAt g.L.Link.gives (setup_of host).devices (asked_before said) c.args.roll.now c.args.link.now
    c.ask_before.new.roll c.ask_before.new.link) c.command_of.ensures c.in-Ok.ensures.asks in
    record {
      acts = λ before due. roll_decided sink.written sink.puts sink.faults g.L.Link.gives link.sent link.failures whom
          c.args.roll.now c.ask_before.new.roll c.args.link.now c.ask_before.new.link c.args.page.now c.ask_before.new.page
          c.give_or_withhold.new.page c.ask_before.ensures.watch c.give_or_withhold.ensures.watch uses IsApart
          (FollowsDesk result before new) (FollowsDesk result before new)
          (λ t1 t2 h k. follows_then result before before new t1 t2 (apart_follows (Ok tt) before t1 h) k)
          result c.args.out.now c.ask_before.new.out c.give_or_withhold.new.out host mid c.give_or_withhold.new.host
          old now does (Finds old now (DecidesPay old p)) (pays_then old now p) asks c.in-Ok.ensures.acts
          (subst (λ f. Acts sink.written sink.puts sink.faults
          (Both (IsDecision whom) (FollowsDesk result before new)) (DoesPay p (withheld_by f (pay_of p)))
          result c.ask_before.new.out c.give_or_withhold.new.out mid c.give_or_withhold.new.host) c.findings.ensures
          (c.give_or_withhold.ensures.acts before due));
    }

pub returns-in-Err : goal.returns-in-Err
returns-in-Err g c =
    let sink = g.K.Sink in
    let link = g.L.CountedLink in
    let old = c.args.roll.now.findings in
    let now = c.ask_before.new.roll.findings in
    let p = c.args.payment in
    record {
      acts = λ before asks. acts_front sink.written sink.puts sink.faults c.in-Err.how c.args.out.now c.ask_before.new.out
          c.args.host.now c.ask_before.new.host (Finds old now IsAsking) (Finds old now (DecidesPay old p))
          (pays_broken old now p)
          (roll_apart sink.written sink.puts sink.faults g.L.Link.gives link.sent link.failures (setup_of c.args.host.now).devices
          c.args.roll.now c.ask_before.new.roll (watched c.args.link.now c.args.page.now) (watched c.ask_before.new.link c.ask_before.new.page) before (Err c.in-Err.how) c.args.out.now
          c.ask_before.new.out c.args.host.now c.ask_before.new.host (Finds old now IsAsking) c.in-Err.ensures.acts);
    }
