-- What each record adds to a sum over records, by what it does.
use Rattle.std.specs.Prelude.{ℕ, ◌+◌, Bool, true, false, List, [], ◌∷◌, length, Option, Some, None}
use Rattle.cct_model_lines.specs.terms.coin.Coin.{Coin}
use Rattle.cct_model_lines.specs.declared.record.Record.{Record}
use Rattle.cct_model_lines.specs.Effect.{EpochMove, OrderMove, Sale, effect}
use Rattle.cct_model_lines.specs.Effect as move

-- Whether a record is one of an acceptor, which is an item; any other is one of an order or of a
-- sale.
abbrev pub is_item : Record → Bool
is_item r = is_moved (effect r).epoch
  where
    is_moved : EpochMove → Bool
    is_moved move.kept = false
    is_moved other = true

-- The coins that a record posts, oldest first.
abbrev pub posts_of : Record → List Coin
posts_of r = (effect r).posts

-- How many coins a record posts.
abbrev pub coins_posted : Record → ℕ
coins_posted r = length (posts_of r)

-- How many coins a record reports as lost.
abbrev pub coins_lost : Record → ℕ
coins_lost r = (effect r).lost

-- How many orders a record closes with counts of life that fit: one, or none.
abbrev pub orders_closed : Record → ℕ
orders_closed r = closed_by (effect r).order
  where
    closed_by : OrderMove → ℕ
    closed_by (move.fitly_closed id paid unpaid) = 1
    closed_by other = 0

-- How many coins of its order a record reports as paid.
abbrev pub coins_paid : Record → ℕ
coins_paid r = paid_by (effect r).order
  where
    paid_by : OrderMove → ℕ
    paid_by (move.fitly_closed id paid unpaid) = paid
    paid_by other = 0

-- How many coins of its order a record reports as unpaid.
abbrev pub coins_unpaid : Record → ℕ
coins_unpaid r = unpaid_by (effect r).order
  where
    unpaid_by : OrderMove → ℕ
    unpaid_by (move.fitly_closed id paid unpaid) = unpaid
    unpaid_by other = 0

-- The price of what a record reports as sold.
abbrev pub price_sold : Record → ℕ
price_sold r = price_of (effect r).sale
  where
    price_of : Option Sale → ℕ
    price_of None = 0
    price_of (Some s) = s.price

-- A sum over records.
abbrev pub sum_in : (Record → ℕ) → List Record → ℕ
sum_in f [] = 0
sum_in f (r ∷ records) = f r + sum_in f records
