use Rattle.cct_text.proofs.Whole.{line_is_one}
use Rattle.cct_text.proofs.laws.one_line_is_one_entry.Goals as goal

pub returns : goal.returns
returns c = line_is_one
