-- The line doesn't begin as a line `broken`.
use Rattle.cct_probe_run.specs.Plays.{Begun}
use Rattle.cct_probe_run.proofs.telling.numbers_of.Given as goal

abbrev pub invariant-loop-number : goal.invariant-loop-number
invariant-loop-number l = Begun l.line
