-- What a transcript sums up to, newest entry first.
use Rattle.std.specs.Prelude.{◌≡◌, ℕ, suc, ◌+◌, List, [], ◌∷◌, length}
use Rattle.cct_model.specs.lines.command.Step.{Step}
use Rattle.cct_model.specs.lines.entry.Entry.{Entry}
use Rattle.cct_model.specs.lines.entry.Entry.TheVariants as entry
use Rattle.cct_model.specs.lines.entry.SumOf.TheVariants as sum_of
use Rattle.cct_model.specs.Records.{records}
use Rattle.cct_model.specs.Sums.{coins_posted, coins_lost, orders_closed, sum_in}
use Rattle.cct_bench_load.specs.declared.sums.LoadSums.{LoadSums}

-- How many coins acceptors took.
abbrev pub coins_accepted : List Entry → ℕ
coins_accepted [] = 0
coins_accepted (entry.Accepted addr c ∷ past) = suc (coins_accepted past)
coins_accepted (e ∷ past) = coins_accepted past

-- How many coins fell out of hoppers.
abbrev pub coins_fallen : List Entry → ℕ
coins_fallen [] = 0
coins_fallen (entry.Fell addr ∷ past) = suc (coins_fallen past)
coins_fallen (e ∷ past) = coins_fallen past

-- What is counted of a past, whatever the steps were.
pub record Counts (sums : LoadSums) (past : List Entry) : Type 0 where
  pub accepted : sums.accepted ≡ coins_accepted past
  pub posted : sums.posted ≡ sum_in coins_posted (records past)
  pub lost : sums.lost ≡ sum_in coins_lost (records past)
  pub fell : sums.fell ≡ coins_fallen past
  pub closed : sums.closed ≡ sum_in orders_closed (records past)

-- Sums are those of the steps played and of their past.
pub record SumsUp (sums : LoadSums) (played : List Step) (past : List Entry) : Type 0 where
  pub steps : sums.steps ≡ length played
  pub counts : Counts sums past

-- The entries of the sums over the steps played and their past, in their order.
abbrev pub sums_of : List Step → List Entry → List Entry
sums_of played past =
    entry.Sum sum_of.Steps (length played)
    ∷ entry.Sum sum_of.Accepted (coins_accepted past)
    ∷ entry.Sum sum_of.Posted (sum_in coins_posted (records past))
    ∷ entry.Sum sum_of.Lost (sum_in coins_lost (records past))
    ∷ entry.Sum sum_of.Fell (coins_fallen past)
    ∷ entry.Sum sum_of.Closed (sum_in orders_closed (records past))
    ∷ []

-- All sums but that of the steps, together.
abbrev pub together : LoadSums → ℕ
together sums = sums.accepted + sums.posted + sums.lost + sums.fell + sums.closed
