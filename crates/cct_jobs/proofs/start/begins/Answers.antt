use Rattle.cct_jobs.proofs.Epochs.{start_puts}
use Rattle.cct_jobs.proofs.start.begins.Goals as goal

pub returns-clause-device : goal.returns-clause-device
returns-clause-device c = λ failed d command since state owed at. start_puts at c.args.counted
