use Rattle.cct_journal_carry.proofs.Keeping.{in_reach, safe_more, safe_next}
use Rattle.cct_journal_carry.proofs.laws.a_safe_carry_goes_on_safely.Goals as goal

pub returns : goal.returns
returns c = record {
  next = λ setup many carry r sound devices safe follow fits.
      safe_next setup many carry r sound devices safe follow (in_reach r fits);
  more = safe_more;
}
