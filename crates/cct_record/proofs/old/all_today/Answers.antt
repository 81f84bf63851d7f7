use Rattle.std.proofs.Common.{arith}
use Rattle.std.proofs.lemmas.Grind.{common_steps}
use Rattle.std.proofs.lemmas.List.Elements.{All-more}
use Rattle.cct_record.specs.Today.{HasRoom}
use Rattle.cct_record.proofs.old.all_today.Goals as goal

pub loop-body-preserved : goal.loop-body-preserved
loop-body-preserved c = record {
  items = grind (arith, common_steps);
  count = grind (arith, common_steps);
  room = All-more HasRoom _ _ _ c.loop-body-test.true c.loop-body.invariant.room c.in_ok-today.ensures.room;
}
