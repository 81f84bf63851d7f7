use Rattle.cct_jobs.proofs.Payments.{recount_closes}
use Rattle.cct_jobs.proofs.payment.closes.Goals as goal

pub returns-clause-device : goal.returns-clause-device
returns-clause-device c = λ device closing failed d command since state owed at.
    recount_closes c.args.owed c.args.life c.close-entry.result c.end_of-end.result c.close-entry.ensures
    c.end_of-end.ensures at
