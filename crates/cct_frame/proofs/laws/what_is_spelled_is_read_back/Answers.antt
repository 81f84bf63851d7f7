use Rattle.cct_frame.proofs.Spellings.{simple_back, crc_back}
use Rattle.cct_frame.proofs.laws.what_is_spelled_is_read_back.Goals as goal

pub returns-clause-simple : goal.returns-clause-simple
returns-clause-simple c = simple_back

pub returns-clause-crc : goal.returns-clause-crc
returns-clause-crc c = crc_back
