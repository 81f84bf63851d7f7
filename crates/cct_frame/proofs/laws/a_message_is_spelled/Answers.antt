use Rattle.cct_frame.proofs.Spellings.{message_spelled, message_body, message_source}
use Rattle.cct_frame.proofs.laws.a_message_is_spelled.Goals as goal

pub returns-clause-spelled : goal.returns-clause-spelled
returns-clause-spelled c = message_spelled

pub returns-clause-data : goal.returns-clause-data
returns-clause-data c = message_body

pub returns-clause-source : goal.returns-clause-source
returns-clause-source c = message_source
