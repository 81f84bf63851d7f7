use Rattle.std.proofs.Common.{◌∷◌, Some, subst, sym}
use Rattle.cct_model.specs.terms.request.Request.TheVariants.{Dispense}
use Rattle.cct_model.specs.Line.{exchange}
use Rattle.cct_jobs.specs.declared.job.Job.{Job}
use Rattle.cct_jobs.specs.Jobs.{Stands}
use Rattle.cct_jobs.proofs.Payments.{dispense_leaves}
use Rattle.cct_jobs.proofs.payment.dispensed.Goals as goal

pub returns-clause-device : goal.returns-clause-device
returns-clause-device c = λ serial failed got d command since state owed at.
    subst (λ (job : Job). Stands d job command (exchange (Some (Dispense serial c.args.owed.order.count)) got ∷ since)
    state owed) (sym c.settles.ensures)
    (dispense_leaves d c.args.device c.args.owed c.args.halted serial failed command since state owed got at)
