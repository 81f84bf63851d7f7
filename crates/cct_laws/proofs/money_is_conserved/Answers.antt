use Rattle.cct_laws.proofs.money.Balances.{legal_balances}
use Rattle.cct_laws.proofs.money.Journal.{legal_conserved, legal_covered}
use Rattle.cct_laws.proofs.money_is_conserved.Goals as goal

pub returns : goal.returns
returns c = record { moments = legal_conserved; balances = legal_balances; covered = legal_covered }
