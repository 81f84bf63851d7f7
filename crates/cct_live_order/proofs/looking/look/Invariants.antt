-- The records so far show this of the order, and the disk was only read.
use Rattle.std.proofs.Common.{◌≡◌, ◌≤◌, List}
use Rattle.cct_disk.specs.Disk.{OnlyReads}
use Rattle.cct_journal.specs.Journal.{JournalReadsFrom, base_of, disk_of, place_of}
use Rattle.cct_model.specs.lines.record.Record.{Record}
use Rattle.cct_live_order.proofs.Going.{Going}
use Rattle.cct_live_order.proofs.looking.look.Given as goal

abbrev pub invariant-loop-index : goal.invariant-loop-index
invariant-loop-index g l =
    let disk = g.D.Disk in record {
      going : Going (JournalReadsFrom l.fn.journal) (base_of l.fn.journal) l.fn.id l.told l.index;
      from : base_of l.fn.journal ≤ l.index;
      told : (rest : List Record) → JournalReadsFrom l.fn.journal rest → JournalReadsFrom l.journal rest;
      place : place_of l.journal ≡ place_of l.fn.journal;
      reads : OnlyReads disk.size disk.honest disk.seen disk.may_leave disk.moment disk.left_since disk.cuts
          (disk_of l.fn.journal) (disk_of l.journal);
      later : disk.faults (disk_of l.fn.journal) ≤ disk.faults (disk_of l.journal);
    }
