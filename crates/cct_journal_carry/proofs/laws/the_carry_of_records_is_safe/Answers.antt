use Rattle.cct_journal_carry.proofs.Fitting.{carry_safe}
use Rattle.cct_journal_carry.proofs.laws.the_carry_of_records_is_safe.Goals as goal

pub returns : goal.returns
returns c = λ setup before sound follow devices fits. carry_safe setup before sound devices follow fits
