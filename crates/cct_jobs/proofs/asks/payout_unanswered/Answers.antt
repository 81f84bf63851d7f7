use Rattle.std.proofs.Common.{◌∷◌, Some, None, ap, sym, subst}
use Rattle.cct_model.specs.terms.request.Request.{Request}
use Rattle.cct_model.specs.Line.{exchange}
use Rattle.cct_jobs.specs.declared.payout.Payout.{Payout}
use Rattle.cct_jobs.specs.declared.stage.Stage.TheVariants.{Pays}
use Rattle.cct_jobs.specs.Jobs.{Asking, Stands, payout_request}
use Rattle.cct_jobs.proofs.asks.payout_unanswered.Goals as goal

pub returns-in-Dispenses-clause-device : goal.returns-in-Dispenses-clause-device
returns-in-Dispenses-clause-device c = λ d command since state owed at.
    let a = c.in-Dispenses in
    subst (λ (q : Request). Stands d c.dispensed.result command (exchange (Some q) None ∷ since) state owed)
    (sym (ap payout_request a.is))
    (c.dispensed.ensures.device a.serial c.args.failed None d command since state owed
    (subst (λ (r : Payout). Asking d c.args.device (Pays r) c.args.failed command since state owed) a.is at))
