use Rattle.cct_msg.proofs.Replies.{reply_form, reply_said}
use Rattle.cct_msg.proofs.laws.what_is_read_is_the_reply.Goals as goal

pub returns-clause-form : goal.returns-clause-form
returns-clause-form c = reply_form

pub returns-clause-data : goal.returns-clause-data
returns-clause-data c = reply_said
