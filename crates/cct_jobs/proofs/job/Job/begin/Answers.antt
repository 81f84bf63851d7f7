use Rattle.std.proofs.Common.{◌∙◌, ◌<◌, ◌^◌, ap, refl, subst, sym, rules}
use Rattle.cct_jobs.specs.declared.target.Target.{Target}
use Rattle.cct_jobs.specs.Ahead.{ahead}
use Rattle.cct_jobs.proofs.Begins.{begun_ahead, first_stage}
use Rattle.cct_jobs.proofs.job.Job.begin.Goals as goal

pub first_stage-requires : goal.first_stage-requires
first_stage-requires c = record {
  of_device = search rules;
  may_begin = (c.args.setup.now.devices, c.requires.may_begin);
  life = c.requires.life;
  counts = c.requires.counts;
}

pub returns-in_default-clause-device : goal.returns-in_default-clause-device
returns-in_default-clause-device c = λ d there serial here.
    first_stage c.args.setup.now.devices c.address.result d c.target_at.result c.first_stage.result c.args.command.now
    c.args.command.now c.args.epoch.now _ c.first_try.result c.first_try.ensures refl (sym c.address.ensures) there c.target_at.ensures
    (c.first_stage.ensures.rows c.target_at.result)
    (λ is. c.first_stage.ensures.suits c.target_at.result (subst (λ (t : Target). t.serial < 2 ^ 24) (sym is) serial))
    c.first_stage.ensures.knows

pub returns-in_default-clause-rows : goal.returns-in_default-clause-rows
returns-in_default-clause-rows c = λ d there here.
    begun_ahead c.args.setup.now.devices c.address.result d c.target_at.result c.args.command.now c.args.command.now _ refl
    (sym c.address.ensures) there c.target_at.ensures
    (ap ahead c.first_try.ensures ∙ c.first_stage.ensures.rows c.target_at.result)
