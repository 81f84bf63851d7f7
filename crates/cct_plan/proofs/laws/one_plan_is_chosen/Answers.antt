use Rattle.cct_plan.proofs.Unique.{one_chosen}
use Rattle.cct_plan.proofs.laws.one_plan_is_chosen.Goals as goal

pub returns : goal.returns
returns c = one_chosen
