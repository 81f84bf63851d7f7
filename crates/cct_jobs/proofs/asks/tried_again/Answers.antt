use Rattle.std.proofs.Common.{◌≡◌, Some, None}
use Rattle.cct_jobs.specs.Jobs.{after_failed}
use Rattle.cct_jobs.proofs.Stages.{stage_again, stage_no_answer}
use Rattle.cct_jobs.proofs.asks.tried_again.Goals as goal

pub returns-in-Some-clause-device : goal.returns-in-Some-clause-device
returns-in-Some-clause-device c = λ d command since state owed at.
    let more : after_failed c.args.failed ≡ Some c.in-Some.failed = cc (c.after_failed.ensures at.trying.few) in
    stage_again at c.in-Some.failed c.requires more

pub returns-in-None-clause-device : goal.returns-in-None-clause-device
returns-in-None-clause-device c = λ d command since state owed at.
    let last : after_failed c.args.failed ≡ None = cc (c.after_failed.ensures at.trying.few) in
    stage_no_answer at c.requires last
