use Rattle.std.proofs.Common.{refl}
use Rattle.cct_jobs.proofs.Payments.{count_opens}
use Rattle.cct_jobs.proofs.payment.opens.Goals as goal

pub returns-clause-device : goal.returns-clause-device
returns-clause-device c = λ failed d command since state owed at. count_opens _ c.args.life refl at
