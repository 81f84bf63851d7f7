-- The writes after the first `left` changes were looked at.
use Rattle.std.proofs.Common.{◌≡◌, ◌≤◌, List, ◌++◌, length, take, reverse, vec_capacity}
use Rattle.cct_disk.specs.Traced.{content_of}
use Rattle.cct_disk.specs.declared.traced.Change.{Change}
use Rattle.cct_disk.specs.declared.traced.TheConstants.{MOST_ENTRIES, MOST_REPLACED}
use Rattle.cct_disk.proofs.Cuts.{Cutting}
use Rattle.cct_disk.proofs.traced.Traced.rewrite_unsynced.Given as goal

abbrev pub invariant-loop-span : goal.invariant-loop-span
invariant-loop-span l = record {
  entry_room : MOST_ENTRIES ≤ vec_capacity l.self.trace;
  byte_room : MOST_REPLACED ≤ vec_capacity l.self.replaced;
  among : l.left ≤ length l.fn.self.trace.items;
  again : List Change;
  traced : l.self.trace.items ≡ l.fn.self.trace.items ++ again;
  cutting : Cutting l.choice (content_of l.fn.self) (content_of l.self)
      (reverse (take l.left l.fn.self.trace.items)) l.end;
  changes : l.self.changes ≡ l.fn.self.changes;
}

abbrev pub decreases-loop-span : goal.decreases-loop-span
decreases-loop-span l = l.left
