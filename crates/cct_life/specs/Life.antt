-- The life count of a hopper (ccTalk Generic Specification 4, part 3, header 168).
use Rattle.std.specs.Prelude.{ℕ}
use Rattle.cct_life.specs.declared.count.LifeCount.{LifeCount}

-- How many coins were ever paid, modulo 2 ^ 24.
abbrev pub count_of : LifeCount → ℕ
count_of life = life.count
