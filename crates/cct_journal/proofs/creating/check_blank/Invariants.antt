-- The bytes so far are 0, and the disk was only read.
use Rattle.std.proofs.Common.{◌≡◌, ◌-◌, ◌≤◌, ℕ, List, Some}
use Rattle.cct_disk.specs.Disk.{IsReady, OnlyReads}
use Rattle.cct_journal.specs.Image.{IsBlankBetween}
use Rattle.cct_journal.proofs.creating.check_blank.Given as goal

abbrev pub invariant-loop-at : goal.invariant-loop-at
invariant-loop-at g l = record {
  within : l.at ≤ l.len;
  reads : OnlyReads g.D.Disk.size g.D.Disk.honest g.D.Disk.seen g.D.Disk.may_leave g.D.Disk.moment g.D.Disk.left_since
      g.D.Disk.cuts l.fn.disk l.disk;
  ready : IsReady g.D.Disk.spent l.fn.disk → IsReady g.D.Disk.spent l.disk;
  later : g.D.Disk.faults l.fn.disk ≤ g.D.Disk.faults l.disk;
  blank : (image : List ℕ) → g.D.Disk.seen l.fn.disk ≡ Some image → IsBlankBetween 0 l.at image;
}

abbrev pub decreases-loop-at : goal.decreases-loop-at
decreases-loop-at g l = l.len - l.at
