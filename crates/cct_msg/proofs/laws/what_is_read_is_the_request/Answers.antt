use Rattle.cct_model_wire.proofs.Requests.{request_header, request_data, cipher_nine, cipher_any, key_any, rng_any}
use Rattle.cct_msg.proofs.laws.what_is_read_is_the_request.Goals as goal

pub returns-clause-header : goal.returns-clause-header
returns-clause-header c = request_header

pub returns-clause-data : goal.returns-clause-data
returns-clause-data c = request_data

pub returns-clause-nine : goal.returns-clause-nine
returns-clause-nine c = cipher_nine

pub returns-clause-any_nine : goal.returns-clause-any_nine
returns-clause-any_nine c = cipher_any

pub returns-clause-any_key : goal.returns-clause-any_key
returns-clause-any_key c = key_any

pub returns-clause-any_rng : goal.returns-clause-any_rng
returns-clause-any_rng c = rng_any
