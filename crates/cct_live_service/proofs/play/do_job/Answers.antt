use Rattle.cct_live_service.specs.declared.attempts.Until.TheVariants as until_of
use Rattle.cct_live_service.specs.Doing.{EndsAs, MakesAttempts}
use Rattle.cct_live_service.proofs.Parts.{acts_weaker}
use Rattle.cct_live_service.proofs.play.do_job.Goals as goal

pub returns : goal.returns
returns g c =
    let sink = g.K.Sink in
    let result = c.attempts.result in
    let makes = MakesAttempts until_of.Ended c.args.addr in
    record {
      acts = acts_weaker sink.written sink.puts sink.faults result c.args.out.now c.attempts.new.out c.args.host.now
          c.attempts.new.host (EndsAs result c.attempts.new.page.report.items makes) makes (λ steps told h. h.0)
          c.attempts.ensures.acts;
    }
