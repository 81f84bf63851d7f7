use Rattle.cct_journal_carry.proofs.Small.{none_empty}
use Rattle.cct_journal_carry.proofs.laws.a_carry_of_no_record_is_empty.Goals as goal

pub returns : goal.returns
returns c = none_empty
