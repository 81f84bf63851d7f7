-- The records so far were listed, and the disk was only read.
use Rattle.std.proofs.Common.{◌≡◌, ◌≤◌, List}
use Rattle.cct_edge.specs.Bytes.{Serves}
use Rattle.cct_model_lines.specs.declared.record.Record.{Record}
use Rattle.cct_disk.specs.Disk.{OnlyReads}
use Rattle.cct_journal.specs.Journal.{JournalReadsFrom, base_of, carry_before, disk_of, place_of}
use Rattle.cct_bench_report.specs.Sums.{AreWithin}
use Rattle.cct_bench_report.proofs.Going.{Going}
use Rattle.cct_bench_report.proofs.listing.list_records.Given as goal

abbrev pub invariant-loop-index : goal.invariant-loop-index
invariant-loop-index g l =
    let disk = g.D.Disk in
    let sink = g.K.Sink in record {
      going : Going sink.written sink.puts l.fn.out l.out (JournalReadsFrom l.fn.journal) (base_of l.fn.journal)
          (carry_before l.fn.journal) l.sums l.index;
      from : base_of l.fn.journal ≤ l.index;
      small : AreWithin l.index l.sums;
      told : (rest : List Record) → JournalReadsFrom l.fn.journal rest → JournalReadsFrom l.journal rest;
      place : place_of l.journal ≡ place_of l.fn.journal;
      reads : OnlyReads disk.size disk.honest disk.seen disk.may_leave disk.moment disk.left_since disk.cuts
          (disk_of l.fn.journal) (disk_of l.journal);
      later : disk.faults (disk_of l.fn.journal) ≤ disk.faults (disk_of l.journal);
      sink : Serves sink.written sink.faults l.fn.out l.out ⊥;
    }
