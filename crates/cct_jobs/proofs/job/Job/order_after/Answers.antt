use Rattle.cct_jobs.proofs.Orders.{put_owes}
use Rattle.cct_jobs.proofs.job.Job.order_after.Goals as goal

pub returns-clause-put : goal.returns-clause-put
returns-clause-put c = λ d command since state entry puts at.
    put_owes d c.args.self.now command since state c.args.before c.owed_after.result entry c.owed_after.ensures puts at
