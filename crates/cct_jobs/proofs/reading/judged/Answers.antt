use Rattle.std.proofs.Common.{◌∷◌, Some, sym, subst}
use Rattle.cct_model.specs.terms.request.Request.TheVariants.{AcceptCount}
use Rattle.cct_model.specs.Line.{exchange}
use Rattle.cct_model.specs.Reply as reply
use Rattle.cct_jobs.specs.declared.job.Job.{Job}
use Rattle.cct_jobs.specs.declared.stage.Stage.TheVariants.{CountsAfter}
use Rattle.cct_jobs.specs.declared.stage.ReadBy.{ReadBy}
use Rattle.cct_jobs.specs.Ahead.{reading_ahead}
use Rattle.cct_jobs.specs.Jobs.{Asking, Stands}
use Rattle.cct_jobs.specs.Onward.{KeepsTo}
use Rattle.cct_jobs.proofs.Epochs.{round_judges, stop_judges}
use Rattle.cct_jobs.proofs.Fits.{judged_fits}
use Rattle.cct_jobs.proofs.Keeping.{round_keeps, stop_keeps}
use Rattle.cct_jobs.proofs.reading.judged.Goals as goal

pub returns-in-Round-clause-device : goal.returns-in-Round-clause-device
returns-in-Round-clause-device c = λ failed d command since state owed at.
    let device = c.args.device in
    let here =
    subst (λ (v : ReadBy). Asking d device
    (CountsAfter v c.args.recorded c.args.before c.args.credits.now c.args.mask_seen) failed command since state owed) c.in-Round.is at in
    subst (λ (job : Job). Stands d job command
    (exchange (Some AcceptCount) (Some (reply.accepts c.args.now.accepts)) ∷ since) state owed)
    (sym c.round_judged.ensures)
    (round_judges here c.args.now.accepts c.judge-meaning.result (sym c.judge-meaning.ensures))

pub returns-in-Stop-clause-device : goal.returns-in-Stop-clause-device
returns-in-Stop-clause-device c = λ failed d command since state owed at.
    let device = c.args.device in
    let here =
    subst (λ (v : ReadBy). Asking d device
    (CountsAfter v c.args.recorded c.args.before c.args.credits.now c.args.mask_seen) failed command since state owed) c.in-Stop.is at in
    subst (λ (job : Job). Stands d job command
    (exchange (Some AcceptCount) (Some (reply.accepts c.args.now.accepts)) ∷ since) state owed)
    (sym c.stop_judged.ensures)
    (stop_judges here c.args.now.accepts c.judge-meaning.result (sym c.judge-meaning.ensures))

pub returns-in-Round-clause-keeps : goal.returns-in-Round-clause-keeps
returns-in-Round-clause-keeps c =
    subst (λ (v : ReadBy). KeepsTo (reading_ahead c.args.device v) c.round_judged.new.job) (sym c.in-Round.is)
    (round_keeps c.args.device c.judge-meaning.result c.round_judged.new.job c.round_judged.ensures
    (judged_fits _ _ _ _ _ _ _ _ c.judge-meaning.result c.args.now.fits c.judge-meaning.ensures))

pub returns-in-Stop-clause-keeps : goal.returns-in-Stop-clause-keeps
returns-in-Stop-clause-keeps c =
    subst (λ (v : ReadBy). KeepsTo (reading_ahead c.args.device v) c.stop_judged.new.job) (sym c.in-Stop.is)
    (stop_keeps c.args.device c.judge-meaning.result c.stop_judged.new.job c.stop_judged.ensures
    (judged_fits _ _ _ _ _ _ _ _ c.judge-meaning.result c.args.now.fits c.judge-meaning.ensures))
