use Rattle.std.proofs.Common.{ap, refl, subst}
use Rattle.cct_jobs.specs.declared.stage.Stage.{Stage}
use Rattle.cct_jobs.specs.Jobs.{Asking, request_of}
use Rattle.cct_jobs.proofs.Stages.{as_answered}
use Rattle.cct_jobs.proofs.asks.answered.Goals as goal

pub returns-in-IdentAsks-clause-device : goal.returns-in-IdentAsks-clause-device
returns-in-IdentAsks-clause-device c = λ failed d command since state owed at.
    as_answered d _ command since state owed _ _ _ _ (ap (request_of c.args.device.family) c.in-IdentAsks.is) refl
    (c.told.ensures.device failed _ d command since state owed
    (subst (λ (s : Stage). Asking d c.args.device s failed command since state owed) c.in-IdentAsks.is at))

pub returns-in-Pays-clause-device : goal.returns-in-Pays-clause-device
returns-in-Pays-clause-device c = λ failed d command since state owed at.
    as_answered d _ command since state owed _ _ _ _ (ap (request_of c.args.device.family) c.in-Pays.is) refl
    (c.answered-in-Pays.ensures.device failed d command since state owed
    (subst (λ (s : Stage). Asking d c.args.device s failed command since state owed) c.in-Pays.is at))
