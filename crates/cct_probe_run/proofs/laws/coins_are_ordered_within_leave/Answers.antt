use Rattle.cct_probe_run.proofs.Ordering.{within}
use Rattle.cct_probe_run.proofs.laws.coins_are_ordered_within_leave.Goals as goal

pub returns : goal.returns
returns g c = λ setup trials first last played fresh. within first last played fresh
