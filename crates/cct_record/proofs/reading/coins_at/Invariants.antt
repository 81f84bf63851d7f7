-- There are as many coins as the index says.
use Rattle.std.proofs.Common.{◌≡◌, ◌+◌, length}
use Rattle.cct_record.specs.Fields.{coins_from}
use Rattle.cct_record.proofs.reading.coins_at.Given as goal

abbrev pub invariant-loop-i : goal.invariant-loop-i
invariant-loop-i l = (l.coins ≡ coins_from l.bytes (l.at + 1) l.i) × (length l.coins ≡ l.i)
