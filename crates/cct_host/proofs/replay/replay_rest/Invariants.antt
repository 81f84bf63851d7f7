-- The tally went over the first records after those of the carry, and the journal was only read.
use Rattle.std.proofs.Common.{◌≡◌, List}
use Rattle.cct_model.specs.lines.record.Record.{Record}
use Rattle.cct_model.specs.Carry.{Fits}
use Rattle.cct_journal_carry.specs.Tally as tallies
use Rattle.cct_journal.specs.Journal as journals
use Rattle.cct_host.specs.OnDisk.{ReadsRest}
use Rattle.cct_host.specs.Starting.{OnlyReadIn, TalliesFirst, TalliesSome}
use Rattle.cct_host.proofs.replay.replay_rest.Given as goal

abbrev pub invariant-loop-index : goal.invariant-loop-index
invariant-loop-index g l = record {
  setup : tallies.setup_of l.tally ≡ tallies.setup_of l.fn.before;
  counted : tallies.many_of l.tally ≡ l.index;
  some : Fits (tallies.setup_of l.fn.before) (tallies.carry_in l.fn.before)
      → TalliesSome (tallies.setup_of l.fn.before) (journals.base_of l.fn.journal) (tallies.carry_in l.fn.before) l.index
      (tallies.carry_in l.tally);
  over : (rest : List Record)
      → ReadsRest g.D.Disk.seen (journals.disk_of l.fn.journal) (journals.place_of l.fn.journal) rest
      → Fits (tallies.setup_of l.fn.before) (tallies.carry_in l.fn.before)
      → TalliesFirst (tallies.setup_of l.fn.before) (journals.base_of l.fn.journal) (tallies.carry_in l.fn.before) rest
      l.index (tallies.carry_in l.tally);
  none : l.index ≡ journals.base_of l.fn.journal → (l.tally ≡ l.fn.before) × (l.journal ≡ l.fn.journal);
  reads : OnlyReadIn l.fn.journal l.journal ⊥;
}
