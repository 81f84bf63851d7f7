use Rattle.std.proofs.Common.{◌∙◌, ap, refl, subst}
use Rattle.cct_model.specs.Request.{form_of}
use Rattle.cct_jobs.specs.declared.stage.Stage.{Stage}
use Rattle.cct_jobs.specs.declared.stage.Stage.TheVariants.{StartReads}
use Rattle.cct_jobs.specs.Jobs.{Asking, request_of}
use Rattle.cct_jobs.proofs.Heard.{credits_form}
use Rattle.cct_jobs.proofs.Stages.{as_answered, stage_on}
use Rattle.cct_jobs.proofs.start.answered.Goals as goal

pub credits_in-requires : goal.credits_in-requires
credits_in-requires c =
    c.requires.wanted
    ∙ ap (λ (s : Stage). form_of (request_of c.args.device.family s)) c.in-StartReads.is
    ∙ credits_form c.args.device.family

pub count_in-requires-clause-wanted : goal.count_in-requires-clause-wanted
unfolding form_of
count_in-requires-clause-wanted c = c.requires.wanted ∙ ap (λ (s : Stage). form_of (request_of c.args.device.family s)) c.in-StartCounts.is

pub returns-in-StartReads-clause-device : goal.returns-in-StartReads-clause-device
returns-in-StartReads-clause-device c = λ failed d command since state owed at.
    as_answered d _ command since state owed _ _ _ _ (ap (request_of c.args.device.family) c.in-StartReads.is) c.credits_in.ensures
    (c.after_reset.ensures.device failed d command since state owed
    (subst (λ (s : Stage). Asking d c.args.device s failed command since state owed) c.in-StartReads.is at))

pub returns-in-StartCounts-clause-device : goal.returns-in-StartCounts-clause-device
returns-in-StartCounts-clause-device c = λ failed d command since state owed at.
    as_answered d _ command since state owed _ _ _ _ (ap (request_of c.args.device.family) c.in-StartCounts.is) c.count_in.ensures
    (c.begins.ensures.device failed d command since state owed
    (subst (λ (s : Stage). Asking d c.args.device s failed command since state owed) c.in-StartCounts.is at))

pub returns-in-StartResets-clause-device : goal.returns-in-StartResets-clause-device
returns-in-StartResets-clause-device c = λ failed d command since state owed at.
    let a = c.in-StartResets in
    let here = subst (λ (s : Stage). Asking d c.args.device s failed command since state owed) a.is at in
    as_answered d _ command since state owed _ _ _ _ (ap (request_of c.args.device.family) a.is) refl
    (stage_on here _ (StartReads a.mask) c.first_try.ensures tt _ refl tt tt refl)
