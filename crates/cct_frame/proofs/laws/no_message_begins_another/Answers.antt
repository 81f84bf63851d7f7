use Rattle.cct_frame.proofs.Spellings.{no_front}
use Rattle.cct_frame.proofs.laws.no_message_begins_another.Goals as goal

pub returns : goal.returns
returns c = no_front
