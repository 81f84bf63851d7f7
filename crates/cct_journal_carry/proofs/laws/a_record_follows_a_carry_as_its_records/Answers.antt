use Rattle.cct_journal_carry.proofs.Follows.{follows_carried}
use Rattle.cct_journal_carry.proofs.laws.a_record_follows_a_carry_as_its_records.Goals as goal

pub returns : goal.returns
returns c = follows_carried
