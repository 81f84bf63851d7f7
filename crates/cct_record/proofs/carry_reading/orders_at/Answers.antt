use Rattle.std.proofs.Common.{arith, subst, sym}
use Rattle.std.specs.Prelude.{All}
use Rattle.std.proofs.lemmas.Grind.{common_steps}
use Rattle.std.proofs.lemmas.List.Elements.{All-push}
use Rattle.cct_model_lines.specs.Carried.{OrderFits}
use Rattle.cct_record.proofs.carry_reading.orders_at.Goals as goal

pub loop-body-preserved : goal.loop-body-preserved
loop-body-preserved c = record {
  orders = grind (arith, common_steps);
  count = grind (arith, common_steps);
  fit = subst (λ orders. All OrderFits orders) (sym c.push.ensures)
      (All-push OrderFits c.loop-body.orders c.order_at.result c.loop-body.invariant.fit c.order_at.ensures.fits);
}
