use Rattle.std.proofs.Common.{◌∙◌, Ok, ap, false, is_some, subst, sym, true}
use Rattle.cct_host.specs.Host.{setup_of}
use Rattle.cct_model.specs.lines.command.Step.TheVariants as step
use Rattle.cct_host_change.specs.Serving.{ServesBy}
use Rattle.cct_live_service.specs.AtDesk.{FollowsDesk}
use Rattle.cct_live_service.specs.Doing.{Finds, IsServing, ServesOn, TellsStep}
use Rattle.cct_live_service.specs.Known.{Rested}
use Rattle.cct_live_service.specs.Linked.{watched}
use Rattle.cct_live_service.proofs.Desks.{idle_rests, idle_same, serves_unrested, wait_rests, wait_same}
use Rattle.cct_live_service.proofs.Found.{finds_none, finds_weaker}
use Rattle.cct_live_service.proofs.Linking.{roll_none, roll_quiet}
use Rattle.cct_live_service.proofs.Parts.{acts_weaker}
use Rattle.cct_live_service.proofs.Sessions.{asked_by, goes_unrested, may_rest, step_finds, step_serves}
use Rattle.cct_live_service.proofs.session.go_on_with_session.Goals as goal

pub returns-in-Idle : goal.returns-in-Idle
returns-in-Idle g c =
    let sink = g.K.Sink in
    let link = g.L.CountedLink in
    let roll = c.args.roll.now in
    let known = roll.findings in
    let setup = setup_of c.args.host.now in
    let rested = Rested c.args.host.now c.args.desk.now in
    let old = c.args.desk.now in
    let new = c.serve.new.self in
    record {
      acts = roll_none sink.written sink.puts sink.faults g.L.Link.gives link.sent link.failures setup.devices
          roll (watched c.args.link.now c.args.page.now) (FollowsDesk (Ok tt) old new)
          (idle_same setup old new (subst (λ serving. ServesBy serving old new) c.in-Idle.is c.serve.ensures))
          c.args.out.now c.args.host.now (Finds known known (ServesOn rested known)) c.requires.whole
          (may_rest rested (λ past keeps. idle_rests setup past old new
          (subst (λ serving. ServesBy serving old new) c.in-Idle.is c.serve.ensures)) known);
    }

pub returns-then-is_some : goal.returns-then-is_some
returns-then-is_some g c =
    let sink = g.K.Sink in
    let link = g.L.CountedLink in
    let roll = c.args.roll.now in
    let known = roll.findings in
    let setup = setup_of c.args.host.now in
    let rested = Rested c.args.host.now c.args.desk.now in
    let old = c.args.desk.now in
    let new = c.serve.new.self in
    record {
      acts = roll_none sink.written sink.puts sink.faults g.L.Link.gives link.sent link.failures setup.devices
          roll (watched c.args.link.now c.args.page.now) (FollowsDesk (Ok tt) old new)
          (wait_same setup c.in-Wait.addr old new (subst (λ serving. ServesBy serving old new) c.in-Wait.is c.serve.ensures))
          c.args.out.now c.args.host.now (Finds known known (ServesOn rested known)) c.requires.whole
          (may_rest rested (λ past keeps. wait_rests setup past c.in-Wait.addr true old new
          (subst (λ serving. ServesBy serving old new) c.in-Wait.is c.serve.ensures)
          (ap is_some (sym (c.command_at.ensures past keeps)) ∙ sym c.is_some.ensures ∙ c.if-is_some.true)) known);
    }

pub returns-else-is_some : goal.returns-else-is_some
returns-else-is_some g c =
    let sink = g.K.Sink in
    let link = g.L.CountedLink in
    let roll = c.args.roll.now in
    let known = roll.findings in
    let host = c.args.host.now in
    let rested = Rested host c.args.desk.now in
    let serves = ServesOn rested known in
    let old = c.args.desk.now in
    let new = c.serve.new.self in
    let result = c.tell_desk.result in
    let ends = subst (λ serving. ServesBy serving old new) c.in-Wait.is c.serve.ensures in
    record {
      acts = roll_quiet sink.written sink.puts sink.faults g.L.Link.gives link.sent link.failures (setup_of host).devices roll
          c.args.link.now c.args.page.now c.tell_desk.new.page c.tell_desk.ensures.watch (FollowsDesk result old new) result
          c.args.out.now c.tell_desk.new.out host c.tell_desk.new.host
          (Finds known known serves)
          (acts_weaker sink.written sink.puts sink.faults result c.args.out.now c.tell_desk.new.out host
          c.tell_desk.new.host (TellsStep step.Serve) (Finds known known serves)
          (λ steps told h. finds_weaker known known (TellsStep step.Serve) serves
          (λ s t k. goes_unrested rested
          (λ past keeps. wait_rests (setup_of host) past c.in-Wait.addr false old new ends
          (ap is_some (sym (c.command_at.ensures past keeps)) ∙ sym c.is_some.ensures ∙ c.if-is_some.false))
          known s t (step_serves known s t k)) steps told
          (finds_none known (TellsStep step.Serve) (step_finds step.Serve) steps told h))
          (c.tell_desk.ensures.acts step.Serve old new (tt, ends.entries) ends.desk));
    }

pub act_on-requires : goal.act_on-requires
act_on-requires g c = record {
  whole = c.requires.whole;
  asked = asked_by c.serve.result c.args.desk.now c.serve.new.self c.serve.ensures;
}

pub returns-in_default : goal.returns-in_default
returns-in_default g c =
    let sink = g.K.Sink in
    let known = c.args.roll.now.findings in
    let now = c.act_on.new.roll.findings in
    let host = c.args.host.now in
    let rested = Rested host c.args.desk.now in
    let unrested : Rested host c.args.desk.now false = λ past keeps. serves_unrested (setup_of host) past c.serve.result c.args.desk.now c.serve.new.self
    c.in_default.not-Idle c.in_default.not-Wait c.serve.ensures in
    record {
      acts = acts_weaker sink.written sink.puts sink.faults c.act_on.result c.args.out.now c.act_on.new.out c.args.host.now
          c.act_on.new.host (Finds known now (IsServing known)) (Finds known now (ServesOn rested known))
          (finds_weaker known now (IsServing known) (ServesOn rested known) (goes_unrested rested unrested known))
          (c.act_on.ensures.acts c.args.desk.now c.serve.ensures);
    }
