use Rattle.cct_laws_live.proofs.Carrying.{live_balances, live_conserved, live_covered}
use Rattle.cct_laws_live.proofs.LifeBooks.{life_conserved}
use Rattle.cct_laws_live.proofs.money_is_conserved_over_all_lives.Goals as goal

pub returns : goal.returns
returns c =
    record { moments = live_conserved; balances = live_balances; covered = live_covered; life = life_conserved }
