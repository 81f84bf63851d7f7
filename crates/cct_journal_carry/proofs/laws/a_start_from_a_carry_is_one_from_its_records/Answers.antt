use Rattle.cct_journal_carry.proofs.Over.{carry_followed, follow_after, follows_after}
use Rattle.cct_journal_carry.proofs.laws.a_start_from_a_carry_is_one_from_its_records.Goals as goal

pub returns : goal.returns
returns c = record {
  follow = λ setup before sound follow later. follow_after setup sound later before follow;
  goes_on = λ setup before sound follow later. carry_followed setup sound before later follow;
  next = λ setup before sound follow first r. follows_after setup sound before first r follow;
}
