use Rattle.std.proofs.Common.{eq-eqb}
use Rattle.cct_jobs.proofs.Epochs.{start_counts}
use Rattle.cct_jobs.proofs.start.after_reset.Goals as goal

pub returns-then-credits-eq0-clause-device : goal.returns-then-credits-eq0-clause-device
returns-then-credits-eq0-clause-device c = λ failed d command since state owed at.
    start_counts at c.args.credits.now c.first_try.result c.first_try.ensures (eq-eqb _ _ c.if-credits-eq0.true)
