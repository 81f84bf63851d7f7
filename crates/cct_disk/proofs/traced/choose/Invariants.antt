-- The first i places hold what the choice says, and each other holds what it held.
use Rattle.std.proofs.Common.{◌≡◌, ℕ, ◌+◌, ◌<◌, ◌≤◌, get_or, length}
use Rattle.cct_disk.specs.Disk.{SameOutside}
use Rattle.cct_disk.specs.Content.{cut_byte}
use Rattle.cct_disk.proofs.traced.choose.Given as goal

abbrev pub invariant-loop-i : goal.invariant-loop-i
invariant-loop-i l = record {
  outside : SameOutside l.at (length l.old) l.fn.bytes.items l.bytes.items;
  done : (k : ℕ) → k < l.i → get_or l.bytes.items (l.at + k) 0
      ≡ cut_byte l.choice (l.at + k) (get_or l.old k 0) (get_or l.fn.bytes.items (l.at + k) 0);
  undone : (k : ℕ) → l.i ≤ k → get_or l.bytes.items (l.at + k) 0 ≡ get_or l.fn.bytes.items (l.at + k) 0;
}
