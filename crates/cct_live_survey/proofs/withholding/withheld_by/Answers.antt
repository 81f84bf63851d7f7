-- What is reported by a test is the test of the definition.
use Rattle.std.proofs.Common.{◌∙◌, sym}
use Rattle.cct_live_survey.proofs.withholding.withheld_by.Goals as goal
use Rattle.cct_live_survey.proofs.Chosen.{chosen, unchosen}

pub returns-then-has_other_serial : goal.returns-then-has_other_serial
returns-then-has_other_serial c = rw c.in-Pay.is (chosen _ (sym c.has_other_serial.ensures ∙ c.if-has_other_serial.true))

pub returns-else-has_other_serial : goal.returns-else-has_other_serial
returns-else-has_other_serial c = rw c.in-Pay.is (unchosen _ (sym c.has_other_serial.ensures ∙ c.if-has_other_serial.false))

pub returns-then-has_other_coin : goal.returns-then-has_other_coin
returns-then-has_other_coin c = rw c.in-Start.is (chosen _ (sym c.has_other_coin.ensures ∙ c.if-has_other_coin.true))

pub returns-else-has_other_coin : goal.returns-else-has_other_coin
returns-else-has_other_coin c = rw c.in-Start.is (unchosen _ (sym c.has_other_coin.ensures ∙ c.if-has_other_coin.false))
