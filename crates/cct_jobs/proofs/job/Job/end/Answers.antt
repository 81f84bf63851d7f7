use Rattle.cct_jobs.proofs.Needs.{end_known}
use Rattle.cct_jobs.proofs.job.Job.end.Goals as goal

pub returns-clause-row : goal.returns-clause-row
returns-clause-row c = λ d own since state owed at.
    end_known d c.args.self.now own since state owed c.told_end.result c.told_end.ensures at
