use Rattle.cct_jobs.proofs.Reserves.{closes_known}
use Rattle.cct_jobs.proofs.job.Job.closes_order.Goals as goal

pub returns-clause-row : goal.returns-clause-row
returns-clause-row c = λ d own since state owed at on.
    closes_known d c.args.self.now own since state owed c.closes.result c.closes.ensures at on
