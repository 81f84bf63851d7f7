use Rattle.std.proofs.Common.{◌∙◌, ◌∷◌, Some, ap, refl, subst, sym}
use Rattle.cct_model.specs.terms.request.Request.TheVariants.{Dispense}
use Rattle.cct_model.specs.Line.{exchange}
use Rattle.cct_model.specs.Reply.{reply_shown}
use Rattle.cct_model.specs.Request.{form_of}
use Rattle.cct_jobs.specs.declared.payout.Payout.{Payout}
use Rattle.cct_jobs.specs.declared.payout.Payout.TheVariants.{Counts}
use Rattle.cct_jobs.specs.declared.stage.Stage.TheVariants.{Pays}
use Rattle.cct_jobs.specs.declared.job.Job.TheVariants.{Asks}
use Rattle.cct_jobs.specs.Jobs.{Asking, Stands, payout_request}
use Rattle.cct_jobs.proofs.Payments.{dispense_leaves, enabled_counts}
use Rattle.cct_jobs.proofs.Stages.{as_answered}
use Rattle.cct_jobs.proofs.payment.pays_on.Goals as goal

pub is_paid_out-requires : goal.is_paid_out-requires
unfolding form_of
is_paid_out-requires c = c.requires.wanted ∙ ap (λ (r : Payout). form_of (payout_request r)) c.in-Waits.is

pub returns-in-Enables-clause-device : goal.returns-in-Enables-clause-device
returns-in-Enables-clause-device c = λ is device failed d command since state owed at.
    let a = c.in-Enables in
    as_answered d (Asks device (Pays (Counts a.id a.count a.halted)) 0) command since state owed _ _
    (reply_shown c.args.reply.now) _ (ap payout_request c.in-Enables.is) refl
    (enabled_counts (reply_shown c.args.reply.now)
    (subst (λ (r : Payout). Asking d device (Pays r) failed command since state owed) c.in-Enables.is at))

pub returns-in-Dispenses-clause-device : goal.returns-in-Dispenses-clause-device
returns-in-Dispenses-clause-device c = λ is device failed d command since state owed at.
    let a = c.in-Dispenses in
    as_answered d (Asks device (Pays c.settling-next.result) 0) command since state owed _ _
    (reply_shown c.args.reply.now) _ (ap payout_request a.is) refl
    (subst (λ (r : Payout). Stands d (Asks device (Pays r) 0) command
    (exchange (Some (Dispense a.serial a.owed.order.count)) (Some (reply_shown c.args.reply.now)) ∷ since) state owed)
    (sym c.settling-next.ensures)
    (dispense_leaves d device a.owed a.halted a.serial failed command since state owed (Some (reply_shown c.args.reply.now))
    (subst (λ (r : Payout). Asking d device (Pays r) failed command since state owed) a.is at)))

pub returns-in-Waits-clause-device : goal.returns-in-Waits-clause-device
returns-in-Waits-clause-device c = λ is device failed d command since state owed at.
    as_answered d (Asks device (Pays c.waited-next.result) 0) command since state owed _ _
    (reply_shown c.args.reply.now) _ (ap payout_request c.in-Waits.is) refl
    (c.waited-next.ensures.device device failed (reply_shown c.args.reply.now) c.is_paid_out.ensures d command since state owed
    (subst (λ (r : Payout). Asking d device (Pays r) failed command since state owed) c.in-Waits.is at))
