use Rattle.cct_monitor.proofs.Once.{quietly_once, said_once, sure_once, one_between}
use Rattle.cct_monitor.proofs.Reported.{confirmed_said, quietly_said}
use Rattle.cct_monitor.proofs.laws.each_span_is_said_once.Goals as goal

pub returns-clause-once : goal.returns-clause-once
returns-clause-once c = said_once

pub returns-clause-confirmed : goal.returns-clause-confirmed
returns-clause-confirmed c = sure_once

pub returns-clause-told : goal.returns-clause-told
returns-clause-told c = confirmed_said

pub returns-clause-quietly : goal.returns-clause-quietly
returns-clause-quietly c = quietly_once

pub returns-clause-each_quietly : goal.returns-clause-each_quietly
returns-clause-each_quietly c = quietly_said

pub returns-clause-at_most_one : goal.returns-clause-at_most_one
returns-clause-at_most_one c = one_between
