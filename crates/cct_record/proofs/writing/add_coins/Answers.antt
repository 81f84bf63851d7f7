use Rattle.std.proofs.Common.{arith}
use Rattle.std.proofs.lemmas.Grind.{common_steps}
use Rattle.std.proofs.lemmas.List.Elements.{All-more}
use Rattle.cct_record.specs.Body.{FitsBytes}
use Rattle.cct_record.proofs.writing.add_coins.Goals as goal

pub loop-coin-preserved : goal.loop-coin-preserved
loop-coin-preserved c = record {
  items = grind (arith, common_steps);
  room = grind (arith, common_steps);
  fit = All-more FitsBytes _ _ _ c.loop-coin-test.true c.loop-coin.invariant.fit c.add_coin.ensures.fits;
}
