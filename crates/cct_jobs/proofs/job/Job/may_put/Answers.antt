use Rattle.cct_jobs.proofs.Needs.{may_put_known}
use Rattle.cct_jobs.proofs.job.Job.may_put.Goals as goal

pub returns-clause-row : goal.returns-clause-row
returns-clause-row c = λ d command since state owed at on.
    may_put_known d c.args.self.now command since state owed c.records.result c.records.ensures at on
