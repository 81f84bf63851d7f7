use Rattle.std.proofs.Common.{◌≡◌, reverse, take}
use Rattle.cct_model.specs.Change.{closed_in}
use Rattle.cct_model.specs.Records.{records}
use Rattle.cct_host_change.proofs.seeing.opened_after.Given as goal

abbrev pub invariant-loop-entry : goal.invariant-loop-entry
invariant-loop-entry l = l.phase ≡ closed_in l.id (records (reverse (take l.entry-index l.report)))
