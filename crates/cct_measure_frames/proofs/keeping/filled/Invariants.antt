use Rattle.std.proofs.Common.{◌≡◌, false}
use Rattle.cct_journal.specs.Journal.{has_failed}
use Rattle.cct_measure_frames.proofs.keeping.filled.Given as goal

-- no put has failed
abbrev pub invariant-loop-pass : goal.invariant-loop-pass
invariant-loop-pass l = has_failed l.journal ≡ false
