use Rattle.std.proofs.Common.{◌∙◌, Some, ap, refl, subst, sym}
use Rattle.cct_model.specs.Reply.{reply_shown}
use Rattle.cct_model.specs.Request.{form_of}
use Rattle.cct_jobs.specs.declared.stage.Stage.{Stage}
use Rattle.cct_jobs.specs.declared.stage.Stage.TheVariants.{CountsAfter, Looks, Reads}
use Rattle.cct_jobs.specs.declared.job.Job.TheVariants.{Asks}
use Rattle.cct_jobs.specs.Jobs.{Asking, request_of}
use Rattle.cct_jobs.proofs.Heard.{credits_form}
use Rattle.cct_jobs.proofs.Stages.{as_answered, before_noted, count_next, count_on, credits_noted, look_next, look_on, read_next, read_on, stage_on}
use Rattle.cct_jobs.proofs.reading.reads_on.Goals as goal

pub count_in-before-requires-clause-wanted : goal.count_in-before-requires-clause-wanted
unfolding form_of
count_in-before-requires-clause-wanted c = c.requires.wanted ∙ ap (λ (s : Stage). form_of (request_of c.args.device.now.family s)) c.in-CountsBefore.is

pub credits_in-requires : goal.credits_in-requires
credits_in-requires c =
    c.requires.wanted
    ∙ ap (λ (s : Stage). form_of (request_of c.args.device.now.family s)) c.in-Reads.is
    ∙ credits_form c.args.device.now.family

pub mask_in-mask_seen-requires : goal.mask_in-mask_seen-requires
unfolding form_of
mask_in-mask_seen-requires c = c.requires.wanted ∙ ap (λ (s : Stage). form_of (request_of c.args.device.now.family s)) c.in-Looks.is

pub returns-in-CountsBefore-clause-device : goal.returns-in-CountsBefore-clause-device
returns-in-CountsBefore-clause-device c = λ is failed d command since state owed at.
    let a = c.in-CountsBefore in
    let here = subst (λ (s : Stage). Asking d c.args.device.now s failed command since state owed) a.is at in
    as_answered d (Asks c.args.device.now (Reads a.read_by a.recorded c.count_in-before.result) 0) command since state owed
    _ _ (reply_shown c.args.reply.now) _ (ap (request_of c.args.device.now.family) a.is) c.count_in-before.ensures
    (stage_on here _ (Reads a.read_by a.recorded c.count_in-before.result) refl tt _
    (read_next a.read_by c.args.device.now) tt (here.knows, refl) (count_on a.read_by c.args.device.now _ _ _))

pub returns-in-Reads-clause-device : goal.returns-in-Reads-clause-device
returns-in-Reads-clause-device c = λ is failed d command since state owed at.
    let a = c.in-Reads in
    let here = subst (λ (s : Stage). Asking d c.args.device.now s failed command since state owed) a.is at in
    let which = c.args.device.now.family in
    let read = c.credits_in.result in
    as_answered d (Asks c.args.device.now (Looks a.read_by a.recorded a.before c.noted-credits.result) 0) command since
    state owed _ _ (reply_shown c.args.reply.now) _ (ap (request_of which) a.is) c.credits_in.ensures
    (stage_on here _ (Looks a.read_by a.recorded a.before c.noted-credits.result) refl tt _
    (look_next a.read_by c.args.device.now) tt
    (here.knows.0, credits_noted which read since ∙ ap Some (sym c.noted-credits.ensures), before_noted which read since ∙ here.knows.1)
    (read_on a.read_by c.args.device.now _ _ _))

pub returns-in-Looks-clause-device : goal.returns-in-Looks-clause-device
returns-in-Looks-clause-device c = λ is failed d command since state owed at.
    let a = c.in-Looks in
    let here = subst (λ (s : Stage). Asking d c.args.device.now s failed command since state owed) a.is at in
    as_answered d (Asks c.args.device.now (CountsAfter a.read_by a.recorded a.before a.credits c.mask_in-mask_seen.result) 0)
    command since state owed _ _ (reply_shown c.args.reply.now) _ (ap (request_of c.args.device.now.family) a.is)
    c.mask_in-mask_seen.ensures
    (stage_on here _ (CountsAfter a.read_by a.recorded a.before a.credits c.mask_in-mask_seen.result)
    refl tt _ (count_next a.read_by c.args.device.now) tt
    (here.knows.0, here.knows.1, here.knows.2, refl) (look_on a.read_by c.args.device.now _ _ _))
