use Rattle.cct_monitor.proofs.Once.{said_once, one_between}
use Rattle.cct_laws_any_host.specs.Claims.{looks}
use Rattle.cct_laws_any_host.proofs.Apart.{apart}
use Rattle.cct_laws_any_host.proofs.True.{all_true}
use Rattle.cct_laws_any_host.proofs.what_a_monitor_says_is_true.Goals as goal

pub returns-clause-is_true : goal.returns-clause-is_true
returns-clause-is_true c = all_true

pub returns-clause-apart : goal.returns-clause-apart
returns-clause-apart c = apart

pub returns-clause-once : goal.returns-clause-once
returns-clause-once c first last d past = said_once first last d.addr (looks d past)

pub returns-clause-at_most_one : goal.returns-clause-at_most_one
returns-clause-at_most_one c first last d past = one_between first last (looks d past)
