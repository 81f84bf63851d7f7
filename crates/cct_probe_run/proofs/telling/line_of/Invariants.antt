-- The line doesn't begin as a line `broken`.
use Rattle.cct_probe_run.specs.Plays.{Begun}
use Rattle.cct_probe_run.proofs.telling.line_of.Given as goal

abbrev pub invariant-loop-word : goal.invariant-loop-word
invariant-loop-word l = Begun l.line
