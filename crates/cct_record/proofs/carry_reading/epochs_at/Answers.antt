use Rattle.std.proofs.Common.{arith, subst, sym}
use Rattle.std.specs.Prelude.{All}
use Rattle.std.proofs.lemmas.Grind.{common_steps}
use Rattle.std.proofs.lemmas.List.Elements.{All-push}
use Rattle.cct_model_lines.specs.Carried.{EpochFits}
use Rattle.cct_record.proofs.carry_reading.epochs_at.Goals as goal

pub loop-body-preserved : goal.loop-body-preserved
loop-body-preserved c = record {
  epochs = grind (arith, common_steps);
  count = grind (arith, common_steps);
  fit = subst (λ epochs. All EpochFits epochs) (sym c.push.ensures)
      (All-push EpochFits c.loop-body.epochs c.epoch_at.result c.loop-body.invariant.fit c.epoch_at.ensures.fits);
}
