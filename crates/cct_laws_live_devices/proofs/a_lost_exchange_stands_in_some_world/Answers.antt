use Rattle.cct_laws_live_devices.proofs.Lost.{lost_answer, lost_request, right_answer}
use Rattle.cct_laws_live_devices.proofs.a_lost_exchange_stands_in_some_world.Goals as goal

pub returns : goal.returns
returns c = record { right = right_answer; answer = lost_answer; request = lost_request }
