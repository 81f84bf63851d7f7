use Rattle.cct_msg.proofs.Exchanges.{reply_back, reply_heard}
use Rattle.cct_msg.proofs.laws.a_reply_is_read_back.Goals as goal

pub returns-clause-data : goal.returns-clause-data
returns-clause-data c = reply_back

pub returns-clause-whole : goal.returns-clause-whole
returns-clause-whole c = reply_heard
