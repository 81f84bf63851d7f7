-- The tally went over the first records after those of the carry, and the journal was only read.
use Rattle.std.proofs.Common.{◌≡◌, List}
use Rattle.cct_model.specs.lines.record.Record.{Record}
use Rattle.cct_journal_carry.specs.Tally as tallies
use Rattle.cct_journal.specs.OldJournal as olds
use Rattle.cct_journal.specs.OldStands.{OldCounts, OldReadsFrom}
use Rattle.cct_host.specs.OldTally.{OnlyReadOld, TalliesUpTo}
use Rattle.cct_host.specs.Starting.{TalliesFirst}
use Rattle.cct_host.proofs.old_replay.tally_rest.Given as goal

abbrev pub invariant-loop-index : goal.invariant-loop-index
invariant-loop-index g l = record {
  setup : tallies.setup_of l.tally ≡ tallies.setup_of l.fn.before;
  counted : tallies.many_of l.tally ≡ l.index;
  over : (rest : List Record)
      → OldReadsFrom g.D.Disk.seen (olds.disk_of l.fn.journal) (olds.place_of l.fn.journal) rest
      → TalliesFirst (tallies.setup_of l.fn.before) (olds.base_of l.fn.journal) (olds.carry_before l.fn.journal) rest
      l.index (tallies.carry_in l.tally);
  up_to : OldCounts g.D.Disk.seen (olds.disk_of l.fn.journal) (olds.place_of l.fn.journal)
      → TalliesUpTo (tallies.setup_of l.fn.before) l.fn.journal l.index (tallies.carry_in l.tally);
  reads : OnlyReadOld l.fn.journal l.journal ⊥;
}
