use Rattle.cct_laws_live_devices.proofs.Prompting.{exchange_own}
use Rattle.cct_laws_live_devices.proofs.what_is_heard_was_answered_to_what_was_sent.Goals as goal

pub returns : goal.returns
returns c start = λ echoes longest coming silent answer prompt single. exchange_own _ _ longest coming silent answer prompt echoes single
