use Rattle.cct_jobs.proofs.Halts.{halt_ahead}
use Rattle.cct_jobs.proofs.job.Job.halt.Goals as goal

pub returns-clause-ahead : goal.returns-clause-ahead
returns-clause-ahead c = halt_ahead c.args.self c.halted.result c.halted.ensures
