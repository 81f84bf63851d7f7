use Rattle.std.proofs.Common.{Ok, arith, subst, sym}
use Rattle.cct_edge.specs.Faults.{Rose}
use Rattle.cct_host.specs.Host.{setup_of}
use Rattle.cct_model.specs.lines.command.Step.TheVariants as step
use Rattle.cct_laws_live.specs.LiveStep as live
use Rattle.cct_live_service.specs.declared.attempts.Until.TheVariants as until_of
use Rattle.cct_live_service.specs.AtDesk.{Both, FollowsDesk, IsApart}
use Rattle.cct_live_service.specs.Doing.{Decides, Does, Finds, IsAttempt, IsOrder, IsStatus, MakesAttempts, TellsOne, TellsStep}
use Rattle.cct_live_service.specs.Known.{MissedFrom, Rested, TaskAfter}
use Rattle.cct_live_service.specs.Linked.{UsesLink, watched}
use Rattle.cct_live_service.specs.Parts.{Acts}
use Rattle.cct_live_service.specs.Said.{IsSayable}
use Rattle.cct_live_service.specs.declared.input.InputLine.TheVariants as input
use Rattle.cct_live_service.proofs.Found.{attempt_finds, attempts_find, finds_none, one_finds, order_finds, status_finds}
use Rattle.cct_live_service.proofs.Linking.{quiet_at_desk, roll_apart, roll_quiet, roll_standing, roll_told}
use Rattle.cct_live_service.proofs.Parts.{acts_weaker}
use Rattle.cct_live_service.proofs.Sessions.{step_finds}
use Rattle.cct_live_service.proofs.play.obey.Goals as goal

pub returns-in-End : goal.returns-in-End
returns-in-End g c = absurd (subst (λ said. IsSayable (Ok (input.Host said))) c.in-End.is c.requires.sayable)

pub returns-in-Next : goal.returns-in-Next
returns-in-Next g c =
    let sink = g.K.Sink in
    let link = g.L.CountedLink in
    let roll = c.args.roll.now in
    let known = roll.findings in
    let line = watched c.args.link.now c.args.page.now in
    let host = c.args.host.now in
    let desk = c.args.desk.now in
    let devices = (setup_of host).devices in
    let misses = g.O.Outside.misses in
    let missed = MissedFrom host (Rose (misses c.args.outside.now) (misses c.args.outside.now)) in
    let does = IsAttempt c.in-Next.addr in
    let result = c.next.result in
    let follows = FollowsDesk result desk c.next.new.desk in
    let uses = Both (UsesLink g.L.Link.gives link.sent link.failures devices roll roll line (watched c.next.new.link c.next.new.page)) follows in
    let out = c.args.out.now in
    let out1 = c.next.new.out in
    let after = c.next.new.host in
    record {
      acts = subst (λ said. Acts sink.written sink.puts sink.faults uses (Finds known known (Does (Rested host c.args.desk.now) (TaskAfter host c.args.desk.now) missed devices known said)) result out out1
          host after) (sym c.in-Next.is)
          (roll_told sink.written sink.puts sink.faults g.L.Link.gives link.sent link.failures devices roll line (watched c.next.new.link c.next.new.page)
          desk c.next.new.desk result out out1 host after (Finds known known does)
          (acts_weaker sink.written sink.puts sink.faults result out out1 host after does (Finds known known does)
          (finds_none known does (attempt_finds c.in-Next.addr)) c.next.ensures.acts));
      later = omega arith;
      heard = λ before h. h;
    }

pub returns-in-Do : goal.returns-in-Do
returns-in-Do g c =
    let sink = g.K.Sink in
    let link = g.L.CountedLink in
    let roll = c.args.roll.now in
    let known = roll.findings in
    let line = watched c.args.link.now c.args.page.now in
    let host = c.args.host.now in
    let desk = c.args.desk.now in
    let devices = (setup_of host).devices in
    let misses = g.O.Outside.misses in
    let missed = MissedFrom host (Rose (misses c.args.outside.now) (misses c.args.outside.now)) in
    let does = MakesAttempts until_of.Ended c.in-Do.addr in
    let result = c.do_job.result in
    let follows = FollowsDesk result desk c.do_job.new.desk in
    let uses = Both (UsesLink g.L.Link.gives link.sent link.failures devices roll roll line (watched c.do_job.new.link c.do_job.new.page)) follows in
    let out = c.args.out.now in
    let out1 = c.do_job.new.out in
    let after = c.do_job.new.host in
    record {
      acts = subst (λ said. Acts sink.written sink.puts sink.faults uses (Finds known known (Does (Rested host c.args.desk.now) (TaskAfter host c.args.desk.now) missed devices known said)) result out out1
          host after) (sym c.in-Do.is)
          (roll_told sink.written sink.puts sink.faults g.L.Link.gives link.sent link.failures devices roll line (watched c.do_job.new.link c.do_job.new.page)
          desk c.do_job.new.desk result out out1 host after (Finds known known does)
          (acts_weaker sink.written sink.puts sink.faults result out out1 host after does (Finds known known does)
          (finds_none known does (attempts_find until_of.Ended c.in-Do.addr)) c.do_job.ensures.acts));
      later = omega arith;
      heard = λ before h. h;
    }

pub returns-in-Balance : goal.returns-in-Balance
returns-in-Balance g c =
    let sink = g.K.Sink in
    let link = g.L.CountedLink in
    let roll = c.args.roll.now in
    let known = roll.findings in
    let line = watched c.args.link.now c.args.page.now in
    let host = c.args.host.now in
    let desk = c.args.desk.now in
    let devices = (setup_of host).devices in
    let misses = g.O.Outside.misses in
    let missed = MissedFrom host (Rose (misses c.args.outside.now) (misses c.args.outside.now)) in
    let does = TellsOne live.balance in
    let result = c.balance.result in
    let follows = FollowsDesk result desk desk in
    let uses = Both (UsesLink g.L.Link.gives link.sent link.failures devices roll roll line (watched c.args.link.now c.balance.new.page)) follows in
    let out = c.args.out.now in
    let out1 = c.balance.new.out in
    let after = c.balance.new.host in
    record {
      acts = subst (λ said. Acts sink.written sink.puts sink.faults uses (Finds known known (Does (Rested host c.args.desk.now) (TaskAfter host c.args.desk.now) missed devices known said)) result out out1
          host after) (sym c.in-Balance.is)
          (roll_quiet sink.written sink.puts sink.faults g.L.Link.gives link.sent link.failures devices roll
          c.args.link.now c.args.page.now c.balance.new.page c.balance.ensures.watch follows result out out1 host after (Finds known known does)
          (quiet_at_desk sink.written sink.puts sink.faults desk result out out1 host after (Finds known known does)
          (acts_weaker sink.written sink.puts sink.faults result out out1 host after does (Finds known known does)
          (finds_none known does (one_finds live.balance)) c.balance.ensures.acts)));
      later = omega arith;
      heard = λ before h. h;
    }

pub returns-in-Status : goal.returns-in-Status
returns-in-Status g c =
    let sink = g.K.Sink in
    let link = g.L.CountedLink in
    let roll = c.args.roll.now in
    let known = roll.findings in
    let line = watched c.args.link.now c.args.page.now in
    let host = c.args.host.now in
    let desk = c.args.desk.now in
    let devices = (setup_of host).devices in
    let misses = g.O.Outside.misses in
    let missed = MissedFrom host (Rose (misses c.args.outside.now) (misses c.args.outside.now)) in
    let does = IsStatus devices in
    let result = c.status.result in
    let follows = FollowsDesk result desk desk in
    let uses = Both (UsesLink g.L.Link.gives link.sent link.failures devices roll roll line (watched c.args.link.now c.status.new.page)) follows in
    let out = c.args.out.now in
    let out1 = c.status.new.out in
    let after = c.status.new.host in
    record {
      acts = subst (λ said. Acts sink.written sink.puts sink.faults uses (Finds known known (Does (Rested host c.args.desk.now) (TaskAfter host c.args.desk.now) missed devices known said)) result out out1
          host after) (sym c.in-Status.is)
          (roll_apart sink.written sink.puts sink.faults g.L.Link.gives link.sent link.failures devices roll roll line
          (watched c.args.link.now c.status.new.page) desk result out out1 host after (Finds known known does)
          (roll_standing sink.written sink.puts sink.faults g.L.Link.gives link.sent link.failures devices roll
          c.args.link.now c.args.page.now c.status.new.page c.status.ensures.watch IsApart result out out1 host after
          (Finds known known does)
          (acts_weaker sink.written sink.puts sink.faults result out out1 host after does (Finds known known does)
          (finds_none known does (status_finds devices)) c.status.ensures.acts)));
      later = omega arith;
      heard = λ before h. h;
    }

pub returns-in-Order : goal.returns-in-Order
returns-in-Order g c =
    let sink = g.K.Sink in
    let link = g.L.CountedLink in
    let roll = c.args.roll.now in
    let known = roll.findings in
    let line = watched c.args.link.now c.args.page.now in
    let host = c.args.host.now in
    let desk = c.args.desk.now in
    let devices = (setup_of host).devices in
    let misses = g.O.Outside.misses in
    let missed = MissedFrom host (Rose (misses c.args.outside.now) (misses c.order.new.outside)) in
    let does = IsOrder missed c.in-Order.id in
    let result = c.order.result in
    let follows = FollowsDesk result desk desk in
    let uses = Both (UsesLink g.L.Link.gives link.sent link.failures devices roll roll line (watched c.args.link.now c.order.new.page)) follows in
    let out = c.args.out.now in
    let out1 = c.order.new.out in
    let after = c.order.new.host in
    record {
      acts = subst (λ said. Acts sink.written sink.puts sink.faults uses (Finds known known (Does (Rested host c.args.desk.now) (TaskAfter host c.args.desk.now) missed devices known said)) result out out1
          host after) (sym c.in-Order.is)
          (roll_quiet sink.written sink.puts sink.faults g.L.Link.gives link.sent link.failures devices roll
          c.args.link.now c.args.page.now c.order.new.page c.order.ensures.watch follows result out out1 host after (Finds known known does)
          (quiet_at_desk sink.written sink.puts sink.faults desk result out out1 host after (Finds known known does)
          (acts_weaker sink.written sink.puts sink.faults result out out1 host after does (Finds known known does)
          (finds_none known does (order_finds missed c.in-Order.id)) c.order.ensures.acts)));
      later = c.order.ensures.later;
      heard = c.order.ensures.heard;
    }

pub returns-in-Stock : goal.returns-in-Stock
returns-in-Stock g c =
    let sink = g.K.Sink in
    let link = g.L.CountedLink in
    let roll = c.args.roll.now in
    let known = roll.findings in
    let line = watched c.args.link.now c.args.page.now in
    let host = c.args.host.now in
    let desk = c.args.desk.now in
    let devices = (setup_of host).devices in
    let misses = g.O.Outside.misses in
    let missed = MissedFrom host (Rose (misses c.args.outside.now) (misses c.args.outside.now)) in
    let s = step.Stock c.in-Stock.addr c.in-Stock.count in
    let does = TellsStep s in
    let result = c.count_stock.result in
    let follows = FollowsDesk result desk c.count_stock.new.desk in
    let uses = Both (UsesLink g.L.Link.gives link.sent link.failures devices roll roll line (watched c.args.link.now c.count_stock.new.page)) follows in
    let out = c.args.out.now in
    let out1 = c.count_stock.new.out in
    let after = c.count_stock.new.host in
    record {
      acts = subst (λ said. Acts sink.written sink.puts sink.faults uses (Finds known known (Does (Rested host c.args.desk.now) (TaskAfter host c.args.desk.now) missed devices known said)) result out out1
          host after) (sym c.in-Stock.is)
          (roll_quiet sink.written sink.puts sink.faults g.L.Link.gives link.sent link.failures devices roll
          c.args.link.now c.args.page.now c.count_stock.new.page c.count_stock.ensures.watch follows result out out1 host after (Finds known known does)
          (acts_weaker sink.written sink.puts sink.faults result out out1 host after does (Finds known known does)
          (finds_none known does (step_finds s)) c.count_stock.ensures.acts));
      later = omega arith;
      heard = λ before h. h;
    }

pub returns-in-Change : goal.returns-in-Change
returns-in-Change g c =
    let sink = g.K.Sink in
    let link = g.L.CountedLink in
    let roll = c.args.roll.now in
    let known = roll.findings in
    let line = watched c.args.link.now c.args.page.now in
    let host = c.args.host.now in
    let desk = c.args.desk.now in
    let devices = (setup_of host).devices in
    let misses = g.O.Outside.misses in
    let missed = MissedFrom host (Rose (misses c.args.outside.now) (misses c.args.outside.now)) in
    let s = step.Change c.in-Change.first c.in-Change.amount in
    let does = TellsStep s in
    let result = c.begin_session.result in
    let follows = FollowsDesk result desk c.begin_session.new.desk in
    let uses = Both (UsesLink g.L.Link.gives link.sent link.failures devices roll roll line (watched c.args.link.now c.begin_session.new.page)) follows in
    let out = c.args.out.now in
    let out1 = c.begin_session.new.out in
    let after = c.begin_session.new.host in
    record {
      acts = subst (λ said. Acts sink.written sink.puts sink.faults uses (Finds known known (Does (Rested host c.args.desk.now) (TaskAfter host c.args.desk.now) missed devices known said)) result out out1
          host after) (sym c.in-Change.is)
          (roll_quiet sink.written sink.puts sink.faults g.L.Link.gives link.sent link.failures devices roll
          c.args.link.now c.args.page.now c.begin_session.new.page c.begin_session.ensures.watch follows result out out1 host after (Finds known known does)
          (acts_weaker sink.written sink.puts sink.faults result out out1 host after does (Finds known known does)
          (finds_none known does (step_finds s)) c.begin_session.ensures.acts));
      later = omega arith;
      heard = λ before h. h;
    }

pub begin_session-requires : goal.begin_session-requires
begin_session-requires g c =
    let sayable = subst (λ said. IsSayable (Ok (input.Host said))) c.in-Change.is c.requires.sayable in
    record { whole = c.requires.whole; ids = sayable.0; within = sayable.1 }

pub returns-in-Command : goal.returns-in-Command
returns-in-Command g c =
    let sink = g.K.Sink in
    let link = g.L.CountedLink in
    let roll = c.args.roll.now in
    let known = roll.findings in
    let now = c.decide.new.roll.findings in
    let line = watched c.args.link.now c.args.page.now in
    let host = c.args.host.now in
    let desk = c.args.desk.now in
    let devices = (setup_of host).devices in
    let misses = g.O.Outside.misses in
    let missed = MissedFrom host (Rose (misses c.args.outside.now) (misses c.args.outside.now)) in
    let result = c.decide.result in
    let out = c.args.out.now in
    let out1 = c.decide.new.out in
    let after = c.decide.new.host in
    let uses = Both (UsesLink g.L.Link.gives link.sent link.failures devices roll c.decide.new.roll line (watched c.decide.new.link c.decide.new.page))
    (FollowsDesk result desk desk) in
    record {
      acts = subst (λ said. Acts sink.written sink.puts sink.faults uses (Finds known now (Does (Rested host c.args.desk.now) (TaskAfter host c.args.desk.now) missed devices known said)) result out out1
          host after) (sym c.in-Command.is)
          (roll_apart sink.written sink.puts sink.faults g.L.Link.gives link.sent link.failures devices roll c.decide.new.roll line
          (watched c.decide.new.link c.decide.new.page) desk result out out1 host after (Finds known now (Decides known c.in-Command.command))
          c.decide.ensures.acts);
      later = omega arith;
      heard = λ before h. h;
    }
