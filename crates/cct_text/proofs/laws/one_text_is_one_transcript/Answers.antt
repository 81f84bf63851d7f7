use Rattle.cct_text.proofs.Whole.{text_back, text_is_one}
use Rattle.cct_text.proofs.laws.one_text_is_one_transcript.Goals as goal

pub returns : goal.returns
returns c = record { read = text_back; one = text_is_one }
