use Rattle.std.proofs.lemmas.Bool.{and_from}
use Rattle.cct_journal_carry.proofs.Steps.{carry_next}
use Rattle.cct_journal_carry.proofs.laws.a_carry_goes_on_by_one_record.Goals as goal

pub returns : goal.returns
returns c = λ setup before sound follow r next. carry_next setup before sound r (and_from _ _ next follow)
