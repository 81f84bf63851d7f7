use Rattle.cct_laws_any_host.proofs.Complete.{plain_told, sure_where_plain_all}
use Rattle.cct_laws_any_host.proofs.QuietTold.{quiet_told}
use Rattle.cct_laws_any_host.proofs.Rounds.{round_is_plain}
use Rattle.cct_laws_any_host.proofs.Undisturbed.{credits_shown, mask_shown}
use Rattle.cct_laws_any_host.proofs.a_monitor_is_sure_where_it_can_be.Goals as goal

pub returns-clause-complete : goal.returns-clause-complete
returns-clause-complete c = sure_where_plain_all

pub returns-clause-told : goal.returns-clause-told
returns-clause-told c = plain_told

pub returns-clause-told_quiet : goal.returns-clause-told_quiet
returns-clause-told_quiet c = quiet_told

pub returns-clause-credits : goal.returns-clause-credits
returns-clause-credits c = credits_shown

pub returns-clause-mask : goal.returns-clause-mask
returns-clause-mask c = mask_shown

pub returns-clause-round : goal.returns-clause-round
returns-clause-round c = round_is_plain
