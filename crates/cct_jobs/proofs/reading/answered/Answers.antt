use Rattle.std.proofs.Common.{◌∙◌, ap, refl, subst}
use Rattle.cct_model.specs.Request.{form_of}
use Rattle.cct_jobs.specs.declared.stage.Stage.{Stage}
use Rattle.cct_jobs.specs.declared.stage.Stage.TheVariants.{CountsBefore}
use Rattle.cct_jobs.specs.declared.stage.ReadBy.TheVariants.{Stop}
use Rattle.cct_jobs.specs.Jobs.{Asking, request_of}
use Rattle.cct_jobs.proofs.Stages.{as_answered, stage_on}
use Rattle.cct_jobs.proofs.reading.answered.Goals as goal

pub count_in-now-requires-clause-wanted : goal.count_in-now-requires-clause-wanted
unfolding form_of
count_in-now-requires-clause-wanted c = c.requires.wanted ∙ ap (λ (s : Stage). form_of (request_of c.args.device.family s)) c.in-CountsAfter.is

pub returns-in-CountsAfter-clause-device : goal.returns-in-CountsAfter-clause-device
returns-in-CountsAfter-clause-device c = λ failed d command since state owed at.
    as_answered d _ command since state owed _ _ _ _ (ap (request_of c.args.device.family) c.in-CountsAfter.is) c.count_in-now.ensures
    (c.judged.ensures.device failed d command since state owed
    (subst (λ (s : Stage). Asking d c.args.device s failed command since state owed) c.in-CountsAfter.is at))

pub returns-in-StopInhibits-clause-device : goal.returns-in-StopInhibits-clause-device
returns-in-StopInhibits-clause-device c = λ failed d command since state owed at.
    let a = c.in-StopInhibits in
    let here = subst (λ (s : Stage). Asking d c.args.device s failed command since state owed) a.is at in
    as_answered d _ command since state owed _ _ _ _ (ap (request_of c.args.device.family) a.is) refl
    (stage_on here _ (CountsBefore Stop a.recorded) c.counts.ensures tt _ refl tt here.knows refl)
