use Rattle.std.proofs.Common.{◌≡◌, ◌<◌, ℕ, None}
use Rattle.cct_live_setup_copy.specs.Difference.{difference_at}
use Rattle.cct_live_setup_copy.proofs.difference.first_difference.Given as goal

-- nothing differs at the addresses before
abbrev pub invariant-loop-addr : goal.invariant-loop-addr
invariant-loop-addr l = (addr : ℕ) → addr < l.addr → difference_at l.kept l.given addr ≡ None
