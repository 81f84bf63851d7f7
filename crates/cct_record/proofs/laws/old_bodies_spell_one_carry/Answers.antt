use Rattle.cct_record.proofs.OldCarryBack.{one_old_carry}
use Rattle.cct_record.proofs.laws.old_bodies_spell_one_carry.Goals as goal

pub returns : goal.returns
returns c = one_old_carry
