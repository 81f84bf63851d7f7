use Rattle.std.proofs.Common.{◌≡◌, ◌∷◌, refl, sym, subst, Some, None}
use Rattle.cct_model.specs.lines.entry.End.TheVariants.{NoAnswer}
use Rattle.cct_model.specs.Exchange.{after_echo}
use Rattle.cct_model.specs.Line.{Line}
use Rattle.cct_jobs.specs.declared.job.Job.TheVariants.{ScanCallsSimple, ScanCallsCrc, Done}
use Rattle.cct_jobs.specs.Jobs.{after_failed}
use Rattle.cct_jobs.specs.Scans.{StandsScan}
use Rattle.cct_jobs.proofs.Scans.{simple_again, simple_called, simple_heard, simple_unanswered}
use Rattle.cct_jobs.proofs.scan.simple_call_heard.Goals as goal

pub returns-in-Ok-clause-scan : goal.returns-in-Ok-clause-scan
returns-in-Ok-clause-scan c = λ since at is_ask.
    let rest = c.in-Ok.rest.now in
    let echoed : after_echo c.args.sent.now c.args.heard.now ≡ Some rest = c.in-Ok.ensures.rest in
    subst (λ (line : Line). StandsScan (ScanCallsCrc 0 c.note.new.due) (line ∷ since))
    (sym (simple_heard 0 c.args.sent.now c.args.heard.now (Some rest) is_ask echoed))
    (simple_called c.args.failed c.new-due.result c.note.new.due rest since at c.new-due.ensures.none c.note.ensures)

pub returns-in-Some-clause-scan : goal.returns-in-Some-clause-scan
returns-in-Some-clause-scan c = λ since at is_ask.
    let broken : after_echo c.args.sent.now c.args.heard.now ≡ None = c.in-Err.ensures.damaged.0 refl in
    let more : after_failed c.args.failed ≡ Some c.in-Some.failed = cc (c.after_failed.ensures at.few) in
    subst (λ (line : Line). StandsScan (ScanCallsSimple c.in-Some.failed) (line ∷ since))
    (sym (simple_heard 0 c.args.sent.now c.args.heard.now None is_ask broken))
    (simple_again c.args.failed c.in-Some.failed since at more)

pub returns-in-None-clause-scan : goal.returns-in-None-clause-scan
returns-in-None-clause-scan c = λ since at is_ask.
    let broken : after_echo c.args.sent.now c.args.heard.now ≡ None = c.in-Err.ensures.damaged.0 refl in
    let last : after_failed c.args.failed ≡ None = cc (c.after_failed.ensures at.few) in
    subst (λ (line : Line). StandsScan (Done NoAnswer) (line ∷ since))
    (sym (simple_heard 0 c.args.sent.now c.args.heard.now None is_ask broken))
    (simple_unanswered c.args.failed since at last)
