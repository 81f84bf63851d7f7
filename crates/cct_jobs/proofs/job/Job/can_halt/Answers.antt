use Rattle.cct_jobs.proofs.Halts.{halts_known}
use Rattle.cct_jobs.proofs.job.Job.can_halt.Goals as goal

pub returns-clause-row : goal.returns-clause-row
returns-clause-row c = λ d own since state owed at on.
    halts_known d c.args.self.now own since state owed c.may_halt.result c.may_halt.ensures at on
