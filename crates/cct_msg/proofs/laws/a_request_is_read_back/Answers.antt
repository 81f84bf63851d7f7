use Rattle.cct_model_wire.proofs.Requests.{request_back}
use Rattle.cct_msg.proofs.Exchanges.{asked_back}
use Rattle.cct_msg.proofs.laws.a_request_is_read_back.Goals as goal

pub returns-clause-data : goal.returns-clause-data
returns-clause-data c = request_back

pub returns-clause-whole : goal.returns-clause-whole
returns-clause-whole c = asked_back
