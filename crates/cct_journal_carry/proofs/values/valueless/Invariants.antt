use Rattle.std.proofs.Common.{◌≡◌, ◌≤◌}
use Rattle.cct_journal_carry.proofs.CoinPlaces.{found_from}
use Rattle.cct_journal_carry.proofs.values.valueless.Given as goal

abbrev pub invariant-loop-place : goal.invariant-loop-place
invariant-loop-place l =
    (found_from l.body l.mask l.place ≡ found_from l.body l.mask 1) × (1 ≤ l.place) × (l.place ≤ 17)
