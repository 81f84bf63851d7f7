use Rattle.cct_jobs.proofs.Needs.{sending_is, poll_is}
use Rattle.cct_jobs.proofs.job.Job.request.Goals as goal

pub returns-clause-row : goal.returns-clause-row
returns-clause-row c = λ d command since state owed q at row.
    sending_is d c.args.self.now command since state owed q c.own_request.result c.own_request.ensures at row

pub returns-clause-scan : goal.returns-clause-scan
returns-clause-scan c = λ since check addr at row.
    poll_is c.args.self.now since check addr c.own_request.result c.own_request.ensures at row
