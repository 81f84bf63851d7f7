use Rattle.cct_text.proofs.Whole.{fields_back}
use Rattle.cct_text.proofs.laws.fields_tell_the_entry.Goals as goal

pub returns : goal.returns
returns c = fields_back
