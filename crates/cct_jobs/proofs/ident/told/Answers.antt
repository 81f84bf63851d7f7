use Rattle.std.proofs.Common.{◌≡◌, ◌∷◌, Some, None, sym, subst}
use Rattle.cct_model.specs.Line.{exchange}
use Rattle.cct_jobs.specs.declared.job.Job.{Job}
use Rattle.cct_jobs.specs.Jobs.{Stands, question_after}
use Rattle.cct_jobs.proofs.Keeping.{ident_keeps}
use Rattle.cct_jobs.proofs.Stages.{ident_on, ident_told}
use Rattle.cct_jobs.proofs.ident.told.Goals as goal

pub returns-in-Some-clause-device : goal.returns-in-Some-clause-device
returns-in-Some-clause-device c = λ failed y d command since state owed at.
    let next : question_after c.args.device.family c.args.question ≡ Some c.in-Some.question = cc in
    subst (λ (job : Job). Stands d job command (exchange (Some c.args.question) (Some y) ∷ since) state owed)
    (sym c.first_try.ensures)
    (ident_on at c.in-Some.question y next)

pub returns-in-None-clause-device : goal.returns-in-None-clause-device
returns-in-None-clause-device c = λ failed y d command since state owed at.
    let last : question_after c.args.device.family c.args.question ≡ None = cc in
    ident_told at y last

pub returns-in-Some-clause-keeps : goal.returns-in-Some-clause-keeps
returns-in-Some-clause-keeps c =
    ident_keeps c.args.device c.in-Some.question c.first_try.result c.first_try.ensures
