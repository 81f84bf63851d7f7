use Rattle.std.proofs.Common.{◌≡◌, ◌∷◌, refl, sym, subst, Some, None, arith}
use Rattle.cct_model.specs.lines.entry.Listed.{Listed}
use Rattle.cct_model.specs.lines.entry.End.TheVariants.{NoAnswer}
use Rattle.cct_model.specs.terms.wire.CheckKind.TheVariants.{Crc}
use Rattle.cct_model.specs.Exchange.{after_echo}
use Rattle.cct_model.specs.Line.{Line, scanned}
use Rattle.cct_jobs.specs.declared.job.Job.TheVariants.{ScanCallsCrc, Done}
use Rattle.cct_jobs.specs.Jobs.{after_failed}
use Rattle.cct_jobs.specs.Scans.{StandsScan}
use Rattle.cct_jobs.proofs.Scans.{crc_again, crc_called, crc_heard, crc_unanswered}
use Rattle.cct_jobs.proofs.scan.crc_call_heard.Goals as goal

pub returns-in-Ok-clause-scan : goal.returns-in-Ok-clause-scan
returns-in-Ok-clause-scan c = λ since at is_ask.
    let rest = c.in-Ok.rest.now in
    let echoed : after_echo c.args.sent.now c.args.heard.now ≡ Some rest = c.in-Ok.ensures.rest in
    let line_is = crc_heard 0 c.args.sent.now c.args.heard.now (Some rest) (omega arith) is_ask echoed in
    let listed : Listed = record { simple = c.new.result; crc = c.new-in-Ok.result } in
    let lists =
    crc_called c.args.failed c.args.due c.note.new.due listed rest since at c.note.ensures c.new.ensures.none c.new-in-Ok.ensures.none c.new.ensures.whole c.new-in-Ok.ensures.whole in
    subst (λ (line : Line). StandsScan c.next_poll.result (line ∷ since)) (sym line_is)
    (c.next_poll.ensures.scan (scanned Crc 0 (Some rest) ∷ since) lists refl)

pub returns-in-Some-clause-scan : goal.returns-in-Some-clause-scan
returns-in-Some-clause-scan c = λ since at is_ask.
    let broken : after_echo c.args.sent.now c.args.heard.now ≡ None = c.in-Err.ensures.damaged.0 refl in
    let more : after_failed c.args.failed ≡ Some c.in-Some.failed = cc (c.after_failed.ensures at.few) in
    subst (λ (line : Line). StandsScan (ScanCallsCrc c.in-Some.failed c.args.due) (line ∷ since))
    (sym (crc_heard 0 c.args.sent.now c.args.heard.now None (omega arith) is_ask broken))
    (crc_again c.args.failed c.in-Some.failed c.args.due since at more)

pub returns-in-None-clause-scan : goal.returns-in-None-clause-scan
returns-in-None-clause-scan c = λ since at is_ask.
    let broken : after_echo c.args.sent.now c.args.heard.now ≡ None = c.in-Err.ensures.damaged.0 refl in
    let last : after_failed c.args.failed ≡ None = cc (c.after_failed.ensures at.few) in
    subst (λ (line : Line). StandsScan (Done NoAnswer) (line ∷ since))
    (sym (crc_heard 0 c.args.sent.now c.args.heard.now None (omega arith) is_ask broken))
    (crc_unanswered c.args.failed c.args.due since at last)
