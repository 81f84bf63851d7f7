use Rattle.std.proofs.Common.{◌∙◌, refl}
use Rattle.cct_live_service.specs.declared.visit.Task.TheVariants as task
use Rattle.cct_live_service.specs.Doing.{IsAttemptWith, IsVisit, ReadsOut}
use Rattle.cct_live_service.specs.Known.{TaskNow}
use Rattle.cct_live_service.specs.Linked.{watched}
use Rattle.cct_live_service.proofs.Linking.{link_none}
use Rattle.cct_live_service.proofs.Parts.{acts_weaker}
use Rattle.cct_live_service.proofs.visit.visit.Goals as goal

pub returns-in-Nothing : goal.returns-in-Nothing
returns-in-Nothing g c =
    let sink = g.K.Sink in
    let tasks = TaskNow c.args.host.now c.args.desk.now in
    let link = g.L.CountedLink in
    record {
      acts = link_none sink.written sink.puts sink.faults g.L.Link.gives link.sent link.failures (watched c.args.link.now c.args.page.now) c.args.desk.now c.args.out.now c.args.host.now
          (IsVisit tasks c.args.addr) c.requires.whole
          (task.Nothing, λ past keeps. c.task_at.ensures past keeps ∙ c.in-Nothing.is, (refl, refl));
    }

pub returns-in-Attempt : goal.returns-in-Attempt
returns-in-Attempt g c =
    let sink = g.K.Sink in
    let tasks = TaskNow c.args.host.now c.args.desk.now in
    let is_sent = g.L.CountedLink.sent c.attempt.new.link in
    let entries = c.attempt.new.page.report.items in
    record {
      acts = acts_weaker sink.written sink.puts sink.faults c.attempt.result c.args.out.now c.attempt.new.out
          c.args.host.now c.attempt.new.host (IsAttemptWith is_sent entries c.args.addr)
          (IsVisit tasks c.args.addr)
          (λ steps told h. (task.Attempt, λ past keeps. c.task_at.ensures past keeps ∙ c.in-Attempt.is, (is_sent, entries, h))) c.attempt.ensures.acts;
    }

pub returns-in-ReadOut : goal.returns-in-ReadOut
returns-in-ReadOut g c =
    let sink = g.K.Sink in
    let tasks = TaskNow c.args.host.now c.args.desk.now in
    record {
      acts = acts_weaker sink.written sink.puts sink.faults c.read_out.result c.args.out.now c.read_out.new.out
          c.args.host.now c.read_out.new.host (ReadsOut c.args.addr) (IsVisit tasks c.args.addr)
          (λ steps told h. (task.ReadOut, λ past keeps. c.task_at.ensures past keeps ∙ c.in-ReadOut.is, h)) c.read_out.ensures.acts;
    }
