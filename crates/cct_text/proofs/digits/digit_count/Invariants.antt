use Rattle.std.proofs.Common.{◌≡◌, ◌+◌, length}
use Rattle.std.specs.Fmt.{decimal}
use Rattle.cct_text.proofs.digits.digit_count.Given as goal

abbrev pub invariant-loop-front : goal.invariant-loop-front
invariant-loop-front l = l.count + length (decimal l.front) ≡ length (decimal l.number)

abbrev pub decreases-loop-front : goal.decreases-loop-front
decreases-loop-front l = l.front
