use Rattle.std.proofs.Common.{◌∙◌, ap, refl, subst}
use Rattle.cct_model.specs.Reply.{reply_shown}
use Rattle.cct_model.specs.Request.{form_of}
use Rattle.cct_jobs.specs.declared.job.Job.TheVariants.{Asks}
use Rattle.cct_jobs.specs.declared.stage.Stage.{Stage}
use Rattle.cct_jobs.specs.declared.stage.Stage.TheVariants.{Pays}
use Rattle.cct_jobs.specs.Jobs.{Asking, request_of}
use Rattle.cct_jobs.proofs.Stages.{as_answered}
use Rattle.cct_jobs.proofs.asks.asks_on.Goals as goal

pub pays_on-requires : goal.pays_on-requires
pays_on-requires c = record {
  wanted = c.requires.wanted ∙ ap (λ (s : Stage). form_of (request_of c.args.device.now.family s)) c.in-Pays.is;
}

pub returns-in-Pays-clause-device : goal.returns-in-Pays-clause-device
returns-in-Pays-clause-device c = λ is failed d command since state owed at.
    as_answered d (Asks c.args.device.now (Pays c.pays_on.new.row) 0) command since state owed _ _
    (reply_shown c.args.reply.now) _ (ap (request_of c.args.device.now.family) c.in-Pays.is) refl
    (c.pays_on.ensures.device is c.args.device.now failed d command since state owed
    (subst (λ (s : Stage). Asking d c.args.device.now s failed command since state owed) c.in-Pays.is at))
