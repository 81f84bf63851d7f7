-- The books were kept over the records so far, and the disk was only read.
use Rattle.std.proofs.Common.{◌≡◌, ◌≤◌, List}
use Rattle.std.specs.Prelude.{option_map}
use Rattle.cct_disk.specs.Disk.{OnlyReads}
use Rattle.cct_journal.specs.Journal.{JournalReadsFrom, base_of, carry_before, disk_of, place_of}
use Rattle.cct_model_lines.specs.declared.record.Record.{Record}
use Rattle.cct_bench_state.specs.Reading.{AreReady}
use Rattle.cct_bench_state.proofs.Going.{Going}
use Rattle.cct_bench_state.proofs.telling.gather.Given as goal

abbrev pub invariant-loop-index : goal.invariant-loop-index
invariant-loop-index g l =
    let disk = g.D.Disk in record {
      going : Going (JournalReadsFrom l.fn.journal) (option_map (λ s. s.now) l.fn.setup) (base_of l.fn.journal)
          (carry_before l.fn.journal) l.books l.index;
      from : base_of l.fn.journal ≤ l.index;
      ready : AreReady l.index l.books;
      told : (rest : List Record) → JournalReadsFrom l.fn.journal rest → JournalReadsFrom l.journal rest;
      place : place_of l.journal ≡ place_of l.fn.journal;
      reads : OnlyReads disk.size disk.honest disk.seen disk.may_leave disk.moment disk.left_since disk.cuts
          (disk_of l.fn.journal) (disk_of l.journal);
      later : disk.faults (disk_of l.fn.journal) ≤ disk.faults (disk_of l.journal);
    }
