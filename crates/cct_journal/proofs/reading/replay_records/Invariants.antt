-- The slots so far have the bodies of the records that were replayed, and the disk was only read.
use Rattle.std.proofs.Common.{◌≡◌, ◌≤◌, ◌+◌, ℕ, List, Some}
use Rattle.cct_disk.specs.Disk.{IsReady, OnlyReads}
use Rattle.cct_journal.specs.Opening.{Replayed, Walked}
use Rattle.cct_journal.proofs.reading.replay_records.Given as goal

abbrev pub invariant-loop-many : goal.invariant-loop-many
invariant-loop-many g l = record {
  reads : OnlyReads g.D.Disk.size g.D.Disk.honest g.D.Disk.seen g.D.Disk.may_leave g.D.Disk.moment g.D.Disk.left_since
      g.D.Disk.cuts l.fn.disk l.disk;
  ready : IsReady g.D.Disk.spent l.fn.disk → IsReady g.D.Disk.spent l.disk;
  later : g.D.Disk.faults l.fn.disk ≤ g.D.Disk.faults l.disk;
  replayed : Replayed g.R.Replay.replayed l.place.base l.place.carry l.fn.replay l.replay (l.place.base + l.many)
      (λ records. (image : List ℕ) → g.D.Disk.seen l.fn.disk ≡ Some image
      → Walked image l.place.second l.place.base l.many records);
}
