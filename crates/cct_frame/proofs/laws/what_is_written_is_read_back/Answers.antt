use Rattle.cct_frame.proofs.Spellings.{written_back, written_alone}
use Rattle.cct_frame.proofs.laws.what_is_written_is_read_back.Goals as goal

pub returns-clause-back : goal.returns-clause-back
returns-clause-back c = written_back

pub returns-clause-alone : goal.returns-clause-alone
returns-clause-alone c = written_alone
