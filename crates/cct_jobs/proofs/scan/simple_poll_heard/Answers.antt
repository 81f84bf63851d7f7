use Rattle.std.proofs.Common.{◌≡◌, ◌∷◌, true, false, refl, sym, subst}
use Rattle.cct_model.specs.terms.wire.CheckKind.TheVariants.{Simple}
use Rattle.cct_model.specs.Exchange.{after_echo}
use Rattle.cct_model.specs.Line.{Line, scanned}
use Rattle.cct_model.specs.Scan.{is_acknowledged}
use Rattle.cct_jobs.specs.declared.job.Job.TheVariants.{ScanPollsCrc}
use Rattle.cct_jobs.specs.Scans.{StandsScan}
use Rattle.cct_jobs.proofs.Scans.{after_found, polls_again, simple_found, simple_line}
use Rattle.cct_jobs.proofs.scan.simple_poll_heard.Goals as goal

pub returns-then-is_acknowledged-clause-scan : goal.returns-then-is_acknowledged-clause-scan
returns-then-is_acknowledged-clause-scan c = λ since at is_ask.
    let addr = c.args.addr in
    let rest = after_echo c.args.sent.now c.args.heard.now in
    let acked : is_acknowledged Simple addr rest ≡ true = cc in
    let listed = record c.args.listed { simple = c.insert.new.self } in
    let lists =
    simple_found addr rest c.args.due c.remove.new.self c.args.listed listed since at c.remove.ensures.one_less c.insert.ensures.one_more c.insert.ensures.whole refl acked in
    subst (λ (line : Line). StandsScan c.next_poll.result (line ∷ since))
    (sym (simple_line addr c.args.sent.now c.args.heard.now is_ask))
    (c.next_poll.ensures.scan (scanned Simple addr rest ∷ since) lists (after_found addr rest since acked))

pub returns-else-is_acknowledged-clause-scan : goal.returns-else-is_acknowledged-clause-scan
returns-else-is_acknowledged-clause-scan c = λ since at is_ask.
    let addr = c.args.addr in
    let rest = after_echo c.args.sent.now c.args.heard.now in
    let unacked : is_acknowledged Simple addr rest ≡ false = cc in
    subst (λ (line : Line). StandsScan (ScanPollsCrc addr c.remove.new.self c.args.listed) (line ∷ since))
    (sym (simple_line addr c.args.sent.now c.args.heard.now is_ask))
    (polls_again addr rest c.args.due c.remove.new.self c.args.listed since at c.remove.ensures.one_less unacked)
