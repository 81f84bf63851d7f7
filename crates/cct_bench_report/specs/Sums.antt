-- What the records of a journal sum up to.
use Rattle.std.specs.Prelude.{ℕ, ◌+◌, ◌*◌, ◌^◌, ◌≤◌, List, [], ◌∷◌}
use Rattle.cct_model_lines.specs.declared.carry.Carry.{Carry}
use Rattle.cct_model_lines.specs.declared.record.Record.{Record}
use Rattle.cct_model_lines.specs.Sums.{coins_posted, coins_lost, coins_paid, coins_unpaid}
use Rattle.cct_model_lines.specs.Sums.{price_sold}
use Rattle.cct_bench_report.specs.declared.sums.Sums.{Sums}

-- Sums with one record more.
abbrev pub with_record : Record → Sums → Sums
with_record entry sums = record {
  posted = sums.posted + coins_posted entry;
  lost = sums.lost + coins_lost entry;
  paid = sums.paid + coins_paid entry;
  unpaid = sums.unpaid + coins_unpaid entry;
  sold = sums.sold + price_sold entry;
}

-- The sums over the records of a carry.
abbrev pub sums_in : Carry → Sums
sums_in carry = record {
  posted = carry.posted;
  lost = carry.lost;
  paid = carry.paid;
  unpaid = carry.unpaid;
  sold = carry.sold;
}

-- These sums with those over records, the oldest first.
abbrev pub sums_over : Sums → List Record → Sums
sums_over sums [] = sums
sums_over sums (r ∷ records) = sums_over (with_record r sums) records

-- No sum is above 2 ^ 32 times so many records.
pub record AreWithin (many : ℕ) (sums : Sums) : Type 0 where
  pub posted : sums.posted ≤ 2 ^ 32 * many
  pub lost : sums.lost ≤ 2 ^ 32 * many
  pub paid : sums.paid ≤ 2 ^ 32 * many
  pub unpaid : sums.unpaid ≤ 2 ^ 32 * many
  pub sold : sums.sold ≤ 2 ^ 32 * many
