use Rattle.cct_record.proofs.OldBack.{one_old_spelling}
use Rattle.cct_record.proofs.laws.an_old_body_spells_one_record.Goals as goal

pub returns : goal.returns
returns c = one_old_spelling
