use Rattle.std.proofs.Common.{◌∙◌, ap, refl, subst}
use Rattle.cct_model.specs.Request.{form_of}
use Rattle.cct_jobs.specs.declared.stage.Stage.{Stage}
use Rattle.cct_jobs.specs.declared.stage.Stage.TheVariants.{PathReads}
use Rattle.cct_jobs.specs.Jobs.{Asking, request_of}
use Rattle.cct_jobs.proofs.Heard.{path_form}
use Rattle.cct_jobs.proofs.Stages.{as_answered, stage_on}
use Rattle.cct_jobs.proofs.path.answered.Goals as goal

pub path_in-requires : goal.path_in-requires
path_in-requires c =
    c.requires.wanted ∙ ap (λ (s : Stage). form_of (request_of c.args.device.family s)) c.in-PathReads.is ∙ path_form c.in-PathReads.place

pub returns-in-PathSets-clause-device : goal.returns-in-PathSets-clause-device
returns-in-PathSets-clause-device c = λ failed d command since state owed at.
    let a = c.in-PathSets in
    let here = subst (λ (s : Stage). Asking d c.args.device s failed command since state owed) a.is at in
    as_answered d _ command since state owed _ _ _ _ (ap (request_of c.args.device.family) a.is) refl
    (stage_on here _ (PathReads a.place a.path) c.first_try.ensures tt _ refl tt tt refl)
