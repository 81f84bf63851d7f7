use Rattle.std.proofs.Common.{◌≡◌, ◌∙◌, None, Some, ap, subst, sym}
use Rattle.cct_live_survey.specs.Finding.{withheld_by}
use Rattle.cct_live_service.specs.AtDesk.{Both, FollowsDesk}
use Rattle.cct_live_service.specs.Doing.{DoesPay}
use Rattle.cct_live_service.specs.Linked.{IsDecision}
use Rattle.cct_live_service.specs.Parts.{Acts}
use Rattle.cct_live_service.specs.Told.{pay_of}
use Rattle.cct_live_service.proofs.session.give_or_withhold.Goals as goal

pub returns-in-None : goal.returns-in-None
returns-in-None g c =
    let sink = g.K.Sink in
    let findings = c.args.findings.now in
    let p = c.args.payment in
    let is : withheld_by findings (pay_of p) ≡ None =
    ap (withheld_by findings) (sym c.command_of.ensures) ∙ sym c.withheld_by.ensures ∙ c.in-None.is in
    record {
      acts = λ old asks. subst (λ why. Acts sink.written sink.puts sink.faults
          (Both (IsDecision (Some p.addr)) (FollowsDesk c.give.result old c.give.new.desk)) (DoesPay p why) c.give.result c.args.out.now
          c.give.new.out c.args.host.now c.give.new.host) (sym is) (c.give.ensures.acts old asks);
      watch = c.give.ensures.watch;
    }

pub returns-in-Some : goal.returns-in-Some
returns-in-Some g c =
    let sink = g.K.Sink in
    let findings = c.args.findings.now in
    let p = c.args.payment in
    let is : withheld_by findings (pay_of p) ≡ Some c.in-Some.why =
    ap (withheld_by findings) (sym c.command_of.ensures) ∙ sym c.withheld_by.ensures ∙ c.in-Some.is in
    record {
      acts = λ old asks. subst (λ why. Acts sink.written sink.puts sink.faults
          (Both (IsDecision (Some p.addr)) (FollowsDesk c.withhold.result old c.withhold.new.desk)) (DoesPay p why) c.withhold.result c.args.out.now
          c.withhold.new.out c.args.host.now c.withhold.new.host) (sym is) (c.withhold.ensures.acts old asks);
      watch = c.withhold.ensures.watch;
    }
