-- How the distance of two event counters stands to the number of events between them.
use Rattle.std.proofs.Common.{◌≡◌, ℕ, ◌+◌, ◌<◌, ◌≤◌, arith}
use Rattle.std.specs.Prelude.{◌%◌}
use Rattle.std.proofs.lemmas.Bool.Decides.{nat_tests}
use Rattle.cct_model.specs.Reading.{distance}
use Rattle.cct_model.specs.Acceptor.{counter}

-- the counters show no more events than came
pub distance_most : (new old : ℕ) → distance (counter old) (counter (new + old)) ≤ new
unfolding distance
distance_most new old = grind (arith, nat_tests)

-- and just as many where fewer than 255 came
pub distance_near : (new old : ℕ) → new < 255 → distance (counter old) (counter (new + old)) ≡ new
unfolding distance
distance_near new old near = grind (arith, nat_tests)

-- and their number modulo 255 always
pub distance_modulo : (new old : ℕ) → distance (counter old) (counter (new + old)) % 255 ≡ new % 255
unfolding distance
distance_modulo new old = grind (arith, nat_tests)

-- counters that show no event are the same
pub counter_same : (new old : ℕ) → distance (counter old) (counter (new + old)) ≡ 0 → counter old ≡ counter (new + old)
unfolding distance
counter_same new old none = grind (arith, nat_tests)

-- a later counter is 0 only if an earlier one is
pub counter_zero : (new old : ℕ) → counter (new + old) ≡ 0 → counter old ≡ 0
counter_zero new old first = grind (arith, nat_tests)
