use Rattle.cct_live_service.specs.Doing.{IsAttempt, IsAttemptWith}
use Rattle.cct_live_service.proofs.Parts.{acts_weaker}
use Rattle.cct_live_service.proofs.play.next.Goals as goal

pub returns : goal.returns
returns g c =
    let sink = g.K.Sink in
    let is_sent = g.L.CountedLink.sent c.attempt.new.link in
    let entries = c.attempt.new.page.report.items in
    record {
      acts = acts_weaker sink.written sink.puts sink.faults c.attempt.result c.args.out.now c.attempt.new.out c.args.host.now
          c.attempt.new.host (IsAttemptWith is_sent entries c.args.addr) (IsAttempt c.args.addr)
          (λ steps told h. (is_sent, entries, h))
          c.attempt.ensures.acts;
    }
