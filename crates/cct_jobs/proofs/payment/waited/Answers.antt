use Rattle.cct_jobs.proofs.Payments.{status_goes_on, status_paid}
use Rattle.cct_jobs.proofs.payment.waited.Goals as goal

pub returns-then-is_paid_out-clause-device : goal.returns-then-is_paid_out-clause-device
returns-then-is_paid_out-clause-device c = λ device failed y is d command since state owed at.
    status_paid y c.args.is_paid_out is c.if-is_paid_out.true at

pub returns-else-is_paid_out-clause-device : goal.returns-else-is_paid_out-clause-device
returns-else-is_paid_out-clause-device c = λ device failed y is d command since state owed at.
    status_goes_on y c.args.is_paid_out is c.if-is_paid_out.false at
