use Rattle.std.proofs.Common.{subst, sym}
use Rattle.cct_host.specs.Host.{setup_of}
use Rattle.cct_model.specs.lines.command.Step.TheVariants as step
use Rattle.cct_host_change.specs.Serving.{Ends, ServesBy}
use Rattle.cct_live_service.specs.AtDesk.{FollowsDesk}
use Rattle.cct_live_service.specs.Doing.{DecidesPay, Finds, IsServing, TellsStep}
use Rattle.cct_live_service.specs.Session.{HasAsked}
use Rattle.cct_live_service.proofs.Found.{finds_none, finds_weaker}
use Rattle.cct_live_service.proofs.Linking.{roll_quiet}
use Rattle.cct_live_service.proofs.Parts.{acts_weaker}
use Rattle.cct_live_service.proofs.Sessions.{pay_serves, step_finds, step_serves}
use Rattle.cct_live_service.proofs.session.act_on.Goals as goal

pub pay-requires : goal.pay-requires
pay-requires g c =
    let asked = subst (λ serving. HasAsked serving c.args.desk.now) c.in-Pay.is c.requires.asked in
    record { whole = c.requires.whole; payable = asked.0; waits = asked.1 }

pub returns-in-Pay : goal.returns-in-Pay
returns-in-Pay g c =
    let sink = g.K.Sink in
    let known = c.args.roll.now.findings in
    let now = c.pay.new.roll.findings in
    let p = c.in-Pay.payment in
    record {
      acts = λ old serves. acts_weaker sink.written sink.puts sink.faults c.pay.result c.args.out.now c.pay.new.out c.args.host.now
          c.pay.new.host (Finds known now (DecidesPay known p)) (Finds known now (IsServing known))
          (finds_weaker known now (DecidesPay known p) (IsServing known) (pay_serves known p))
          (c.pay.ensures.acts old (subst (λ serving. ServesBy serving old c.args.desk.now) c.in-Pay.is serves));
    }

pub returns-in-Idle : goal.returns-in-Idle
returns-in-Idle g c =
    let sink = g.K.Sink in
    let link = g.L.CountedLink in
    let roll = c.args.roll.now in
    let known = roll.findings in
    let host = c.args.host.now in
    let new = c.args.desk.now in
    let result = c.tell_desk.result in
    record {
      acts = λ old serves.
          let ends = subst (λ serving. ServesBy serving old new) c.in-Idle.is serves in
          roll_quiet sink.written sink.puts sink.faults g.L.Link.gives link.sent link.failures (setup_of host).devices roll
          c.args.link.now c.args.page.now c.tell_desk.new.page c.tell_desk.ensures.watch (FollowsDesk result old new) result
          c.args.out.now c.tell_desk.new.out host c.tell_desk.new.host
          (Finds known known (IsServing known))
          (acts_weaker sink.written sink.puts sink.faults result c.args.out.now c.tell_desk.new.out host
          c.tell_desk.new.host (TellsStep step.Serve) (Finds known known (IsServing known))
          (λ steps told h. finds_weaker known known (TellsStep step.Serve) (IsServing known) (step_serves known) steps told
          (finds_none known (TellsStep step.Serve) (step_finds step.Serve) steps told h))
          (c.tell_desk.ensures.acts step.Serve old new (tt, ends.entries) ends.desk));
    }

pub returns-in-Wait : goal.returns-in-Wait
returns-in-Wait g c =
    let sink = g.K.Sink in
    let link = g.L.CountedLink in
    let roll = c.args.roll.now in
    let known = roll.findings in
    let host = c.args.host.now in
    let new = c.args.desk.now in
    let result = c.tell_desk-in-Wait.result in
    record {
      acts = λ old serves.
          let ends = subst (λ serving. ServesBy serving old new) c.in-Wait.is serves in
          roll_quiet sink.written sink.puts sink.faults g.L.Link.gives link.sent link.failures (setup_of host).devices roll
          c.args.link.now c.args.page.now c.tell_desk-in-Wait.new.page c.tell_desk-in-Wait.ensures.watch (FollowsDesk result old new) result
          c.args.out.now c.tell_desk-in-Wait.new.out host c.tell_desk-in-Wait.new.host
          (Finds known known (IsServing known))
          (acts_weaker sink.written sink.puts sink.faults result c.args.out.now c.tell_desk-in-Wait.new.out host
          c.tell_desk-in-Wait.new.host (TellsStep step.Serve) (Finds known known (IsServing known))
          (λ steps told h. finds_weaker known known (TellsStep step.Serve) (IsServing known) (step_serves known) steps told
          (finds_none known (TellsStep step.Serve) (step_finds step.Serve) steps told h))
          (c.tell_desk-in-Wait.ensures.acts step.Serve old new (tt, ends.entries) ends.desk));
    }

pub returns-in-Odd : goal.returns-in-Odd
returns-in-Odd g c =
    let sink = g.K.Sink in
    let link = g.L.CountedLink in
    let roll = c.args.roll.now in
    let known = roll.findings in
    let host = c.args.host.now in
    let new = c.args.desk.now in
    let result = c.tell_desk-in-Odd.result in
    record {
      acts = λ old serves.
          let ends = subst (λ serving. ServesBy serving old new) c.in-Odd.is serves in
          roll_quiet sink.written sink.puts sink.faults g.L.Link.gives link.sent link.failures (setup_of host).devices roll
          c.args.link.now c.args.page.now c.tell_desk-in-Odd.new.page c.tell_desk-in-Odd.ensures.watch (FollowsDesk result old new) result
          c.args.out.now c.tell_desk-in-Odd.new.out host c.tell_desk-in-Odd.new.host
          (Finds known known (IsServing known))
          (acts_weaker sink.written sink.puts sink.faults result c.args.out.now c.tell_desk-in-Odd.new.out host
          c.tell_desk-in-Odd.new.host (TellsStep step.Serve) (Finds known known (IsServing known))
          (λ steps told h. finds_weaker known known (TellsStep step.Serve) (IsServing known) (step_serves known) steps told
          (finds_none known (TellsStep step.Serve) (step_finds step.Serve) steps told h))
          (c.tell_desk-in-Odd.ensures.acts step.Serve old new (tt, ends.entries) ends.desk));
    }

pub returns-in-Served : goal.returns-in-Served
returns-in-Served g c =
    let sink = g.K.Sink in
    let link = g.L.CountedLink in
    let roll = c.args.roll.now in
    let known = roll.findings in
    let host = c.args.host.now in
    let new = c.args.desk.now in
    let result = c.tell_desk-in-Served.result in
    record {
      acts = λ old serves.
          let ends = subst (λ serving. ServesBy serving old new) c.in-Served.is serves in
          roll_quiet sink.written sink.puts sink.faults g.L.Link.gives link.sent link.failures (setup_of host).devices roll
          c.args.link.now c.args.page.now c.tell_desk-in-Served.new.page c.tell_desk-in-Served.ensures.watch (FollowsDesk result old new) result
          c.args.out.now c.tell_desk-in-Served.new.out host c.tell_desk-in-Served.new.host
          (Finds known known (IsServing known))
          (acts_weaker sink.written sink.puts sink.faults result c.args.out.now c.tell_desk-in-Served.new.out host
          c.tell_desk-in-Served.new.host (TellsStep step.Serve) (Finds known known (IsServing known))
          (λ steps told h. finds_weaker known known (TellsStep step.Serve) (IsServing known) (step_serves known) steps told
          (finds_none known (TellsStep step.Serve) (step_finds step.Serve) steps told h))
          (c.tell_desk-in-Served.ensures.acts step.Serve old new (tt, ends.entries) ends.desk));
    }

pub returns-in-Short : goal.returns-in-Short
returns-in-Short g c =
    let sink = g.K.Sink in
    let link = g.L.CountedLink in
    let roll = c.args.roll.now in
    let known = roll.findings in
    let host = c.args.host.now in
    let new = c.args.desk.now in
    let result = c.tell_desk-in-Short.result in
    record {
      acts = λ old serves.
          let ends = subst (Ends old new) (sym c.short_entry.ensures)
          (subst (λ serving. ServesBy serving old new) c.in-Short.is serves) in
          roll_quiet sink.written sink.puts sink.faults g.L.Link.gives link.sent link.failures (setup_of host).devices roll
          c.args.link.now c.args.page.now c.tell_desk-in-Short.new.page c.tell_desk-in-Short.ensures.watch (FollowsDesk result old new) result
          c.args.out.now c.tell_desk-in-Short.new.out host c.tell_desk-in-Short.new.host
          (Finds known known (IsServing known))
          (acts_weaker sink.written sink.puts sink.faults result c.args.out.now c.tell_desk-in-Short.new.out host
          c.tell_desk-in-Short.new.host (TellsStep step.Serve) (Finds known known (IsServing known))
          (λ steps told h. finds_weaker known known (TellsStep step.Serve) (IsServing known) (step_serves known) steps told
          (finds_none known (TellsStep step.Serve) (step_finds step.Serve) steps told h))
          (c.tell_desk-in-Short.ensures.acts step.Serve old new (tt, ends.entries) ends.desk));
    }
