use Rattle.cct_journal_carry.proofs.Over.{carry_of_more, follow_of}
use Rattle.cct_journal_carry.proofs.laws.a_carry_goes_on_by_more_records.Goals as goal

pub returns : goal.returns
returns c = record {
  follow = λ setup records later sound. follow_of setup sound records later;
  goes_on = λ setup records later sound. carry_of_more setup sound records later;
}
