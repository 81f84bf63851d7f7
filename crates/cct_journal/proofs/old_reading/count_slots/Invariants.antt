-- The slots so far are open, and the disk was only read.
use Rattle.std.proofs.Common.{◌≡◌, ◌≤◌, ℕ, List, Some}
use Rattle.cct_disk.specs.Disk.{OnlyReads}
use Rattle.cct_journal.proofs.OldBodies.{HasCounted}
use Rattle.cct_journal.proofs.old_reading.count_slots.Given as goal

abbrev pub invariant-loop-many : goal.invariant-loop-many
invariant-loop-many g l = record {
  reads : OnlyReads g.D.Disk.size g.D.Disk.honest g.D.Disk.seen g.D.Disk.may_leave g.D.Disk.moment g.D.Disk.left_since
      g.D.Disk.cuts l.fn.disk l.disk;
  later : g.D.Disk.faults l.fn.disk ≤ g.D.Disk.faults l.disk;
  counted : (image : List ℕ) → g.D.Disk.seen l.fn.disk ≡ Some image → HasCounted image l.old l.many;
}
