-- The tally went over all records before this one, and the journal was only read.
use Rattle.std.proofs.Common.{◌≡◌}
use Rattle.cct_journal_carry.specs.Tally.{many_of}
use Rattle.cct_journal.specs.Journal.{has_failed, place_of}
use Rattle.cct_example_callers.proofs.journal.tally_of.Given as goal

abbrev pub invariant-loop-index : goal.invariant-loop-index
invariant-loop-index g l =
    (many_of l.tally ≡ l.index) × (place_of l.journal ≡ place_of l.fn.journal)
    × (has_failed l.journal ≡ has_failed l.fn.journal)
