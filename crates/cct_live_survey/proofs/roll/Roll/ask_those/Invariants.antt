-- So many questions were asked, each answered.
use Rattle.cct_live_survey.specs.Roll.{Calls}
use Rattle.cct_live_survey.proofs.roll.Roll.ask_those.Given as goal

abbrev pub invariant-loop : goal.invariant-loop
invariant-loop g l = Calls g.L.Link.gives l.setup.devices l.whom l.fn.self l.fn.link l.counter l.self l.link
