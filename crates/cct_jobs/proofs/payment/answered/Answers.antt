use Rattle.std.proofs.Common.{◌∙◌, ◌∷◌, Some, ap, refl, subst, sym}
use Rattle.cct_model.specs.terms.request.Request.TheVariants.{StopNow}
use Rattle.cct_model.specs.Line.{exchange}
use Rattle.cct_model.specs.Reply.{reply_shown}
use Rattle.cct_model.specs.Request.{form_of}
use Rattle.cct_jobs.specs.declared.payout.Payout.{Payout}
use Rattle.cct_jobs.specs.declared.stage.Stage.TheVariants.{Pays}
use Rattle.cct_jobs.specs.declared.job.Job.{Job}
use Rattle.cct_jobs.specs.Jobs.{Asking, Stands, payout_request}
use Rattle.cct_jobs.proofs.Payments.{stop_waits}
use Rattle.cct_jobs.proofs.Stages.{as_answered}
use Rattle.cct_jobs.proofs.payment.answered.Goals as goal

pub life_in-requires-clause-wanted : goal.life_in-requires-clause-wanted
unfolding form_of
life_in-requires-clause-wanted c =
    c.requires.wanted ∙ ap (λ (r : Payout). form_of (payout_request r)) c.in-Counts.is

pub life_in-requires-in-Recounts-clause-wanted : goal.life_in-requires-in-Recounts-clause-wanted
unfolding form_of
life_in-requires-in-Recounts-clause-wanted c =
    c.requires.wanted ∙ ap (λ (r : Payout). form_of (payout_request r)) c.in-Recounts.is

pub returns-in-Counts-clause-device : goal.returns-in-Counts-clause-device
returns-in-Counts-clause-device c = λ failed d command since state owed at.
    as_answered d _ command since state owed _ _ _ _ (ap payout_request c.in-Counts.is) c.life_in.ensures.value
    (c.opens.ensures.device failed d command since state owed
    (subst (λ (r : Payout). Asking d c.args.device (Pays r) failed command since state owed) c.in-Counts.is at))

pub returns-in-Recounts-clause-device : goal.returns-in-Recounts-clause-device
returns-in-Recounts-clause-device c = λ failed d command since state owed at.
    as_answered d _ command since state owed _ _ _ _ (ap payout_request c.in-Recounts.is)
    c.life_in-in-Recounts.ensures.value
    (c.closes.ensures.device c.args.device c.in-Recounts.closing failed d command since state owed
    (subst (λ (r : Payout). Asking d c.args.device (Pays r) failed command since state owed) c.in-Recounts.is at))

pub returns-in-Stops-clause-device : goal.returns-in-Stops-clause-device
unfolding form_of
returns-in-Stops-clause-device c = λ failed d command since state owed at.
    let a = c.in-Stops in
    as_answered d _ command since state owed _ _ _ _ (ap payout_request a.is) refl
    (subst (λ (job : Job). Stands d job command (exchange (Some StopNow) (Some (reply_shown c.args.reply.now)) ∷ since)
    state owed) (sym c.settles.ensures)
    (stop_waits (reply_shown c.args.reply.now)
    (c.requires.wanted ∙ ap (λ (r : Payout). form_of (payout_request r)) a.is)
    (subst (λ (r : Payout). Asking d c.args.device (Pays r) failed command since state owed) a.is at)))
