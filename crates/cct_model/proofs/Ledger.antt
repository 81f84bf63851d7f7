-- Which records may follow those before them, and what records are worth.
use Rattle.std.proofs.Common.{◌≡◌, ℕ, List, [], ◌∷◌, map, replicate, true, false, Some, None, refl}
use Rattle.cct_model.specs.terms.coin.Coin.{Coin}
use Rattle.cct_model.specs.terms.device.Setup.{Setup}
use Rattle.cct_model.specs.lines.record.Record.{Record}
use Rattle.cct_model.specs.lines.record.Record.TheVariants.{Epoch, Reading, Broken, EpochEnd, Opened, Closed, Odd, Sold}
use Rattle.cct_model.specs.lines.entry.Entry.{Entry}
use Rattle.cct_model.specs.lines.entry.Entry.TheVariants.{Put}
use Rattle.cct_model.specs.lines.entry.Totals.{Totals}
use Rattle.cct_model.specs.Setting.{has_place}
use Rattle.cct_model.specs.Records.{order_in, greatest_id}
use Rattle.cct_model.specs.Money.{totals}
use Rattle.cct_model.specs.Following.{follows, all_follow}
use Rattle.cct_model.specs.Paid.{AreFresh}
use Rattle.cct_model.proofs.Machine.{house, setup, acceptor_of, hopper, coin}

-- the totals, in the order of the line of a balance
abbrev amounts : ℕ → ℕ → ℕ → ℕ → Totals
amounts available reserved paid sold = record { available = available; reserved = reserved; paid = paid; sold = sold }

-- these records were put, and nothing else came
abbrev put_all : List Record → List Entry
put_all records = map Put records

-- a coin of value 100 was posted
abbrev posted : List Record
posted = Reading 2 1 0 1 (coin 5 1 ∷ []) ∷ Epoch 2 65535 0 ∷ []

-- an order for four coins of value 10 is open
abbrev owing : List Record
owing = Opened 41 3 4 0 ∷ posted

-- it was closed, and two coins fell
abbrev settled : List Record
settled = Closed 41 2 2 ∷ owing

-- it was closed with counts of life that don't fit
abbrev odd : List Record
odd = Odd 41 0 5 ∷ owing

-- an acceptor whose place 3 has no value
abbrev sparse : Setup
sparse = record { devices = acceptor_of (100 ∷ 100 ∷ 0 ∷ replicate 13 100) ∷ hopper ∷ [] }

-- an epoch begins at an acceptor where none runs; its mask isn't 0, and each of its places has a value
epoch_first : follows setup [] (Epoch 2 65535 0) ≡ true
unfolding has_place
epoch_first = refl

epoch_at_hopper : follows setup [] (Epoch 3 65535 0) ≡ false
unfolding has_place
epoch_at_hopper = refl

epoch_nowhere : follows setup [] (Epoch 9 65535 0) ≡ false
unfolding has_place
epoch_nowhere = refl

epoch_twice : follows setup posted (Epoch 2 1 0) ≡ false
unfolding has_place
epoch_twice = refl

epoch_empty : follows setup [] (Epoch 2 0 0) ≡ false
unfolding has_place
epoch_empty = refl

epoch_without_value : follows sparse [] (Epoch 2 4 0) ≡ false
unfolding has_place
epoch_without_value = refl

epoch_beside_it : follows sparse [] (Epoch 2 65531 0) ≡ true
unfolding has_place
epoch_beside_it = refl

epoch_after_end : follows setup (EpochEnd 2 ∷ posted) (Epoch 2 1 0) ≡ true
unfolding has_place
epoch_after_end = refl

epoch_after_break : follows setup (Broken 2 0 0 0 0 [] ∷ posted) (Epoch 2 1 0) ≡ true
unfolding has_place
epoch_after_break = refl

-- where an epoch runs
reading_in_epoch : follows setup posted (Reading 2 2 0 2 (coin 5 1 ∷ [])) ≡ true
reading_in_epoch = refl

reading_without_epoch : follows setup [] (Reading 2 2 0 2 (coin 5 1 ∷ [])) ≡ false
reading_without_epoch = refl

reading_behind_end : follows setup (EpochEnd 2 ∷ posted) (Reading 2 2 0 2 (coin 5 1 ∷ [])) ≡ false
reading_behind_end = refl

reading_behind_break : follows setup (Broken 2 0 0 0 0 [] ∷ posted) (Reading 2 2 0 2 (coin 5 1 ∷ [])) ≡ false
reading_behind_break = refl

broken_in_epoch : follows setup posted (Broken 2 0 0 0 0 []) ≡ true
broken_in_epoch = refl

broken_without_epoch : follows setup [] (Broken 2 0 0 0 0 []) ≡ false
broken_without_epoch = refl

broken_behind_end : follows setup (EpochEnd 2 ∷ posted) (Broken 2 0 0 0 0 []) ≡ false
broken_behind_end = refl

broken_behind_break : follows setup (Broken 2 0 0 0 0 [] ∷ posted) (Broken 2 0 0 0 0 []) ≡ false
broken_behind_break = refl

end_in_epoch : follows setup posted (EpochEnd 2) ≡ true
end_in_epoch = refl

end_without_epoch : follows setup [] (EpochEnd 2) ≡ false
end_without_epoch = refl

end_behind_end : follows setup (EpochEnd 2 ∷ posted) (EpochEnd 2) ≡ false
end_behind_end = refl

end_behind_break : follows setup (Broken 2 0 0 0 0 [] ∷ posted) (EpochEnd 2) ≡ false
end_behind_break = refl

reading_of_other : follows setup posted (Reading 4 2 0 2 []) ≡ false
reading_of_other = refl

-- an order is opened at a hopper that has none open, with an id that isn't 0 and isn't that of an open order, for at least one coin, and for no more than is available
opened_first : follows setup posted (Opened 41 3 10 0) ≡ true
opened_first = refl

opened_too_many : follows setup posted (Opened 41 3 11 0) ≡ false
opened_too_many = refl

opened_none : follows setup posted (Opened 41 3 0 0) ≡ false
opened_none = refl

opened_without_id : follows setup posted (Opened 0 3 1 0) ≡ false
opened_without_id = refl

opened_at_acceptor : follows setup posted (Opened 41 2 1 0) ≡ false
opened_at_acceptor = refl

opened_nowhere : follows setup posted (Opened 41 9 1 0) ≡ false
opened_nowhere = refl

opened_twice : follows setup owing (Opened 42 3 1 0) ≡ false
opened_twice = refl

opened_again : follows setup settled (Opened 42 3 8 0) ≡ true
opened_again = refl

opened_beyond : follows setup settled (Opened 42 3 9 0) ≡ false
opened_beyond = refl

opened_behind_odd : follows setup odd (Opened 42 3 6 0) ≡ true
opened_behind_odd = refl

opened_beyond_odd : follows setup odd (Opened 42 3 7 0) ≡ false
opened_beyond_odd = refl

-- an order is closed where it is open, with all of its coins
closed_open : follows setup owing (Closed 41 2 2) ≡ true
closed_open = refl

closed_with_fewer : follows setup owing (Closed 41 2 1) ≡ false
closed_with_fewer = refl

closed_with_more : follows setup owing (Closed 41 3 2) ≡ false
closed_with_more = refl

closed_other : follows setup owing (Closed 42 2 2) ≡ false
closed_other = refl

closed_twice : follows setup settled (Closed 41 2 2) ≡ false
closed_twice = refl

closed_behind_odd : follows setup odd (Closed 41 2 2) ≡ false
closed_behind_odd = refl

odd_open : follows setup owing (Odd 41 0 5) ≡ true
odd_open = refl

odd_twice : follows setup odd (Odd 41 0 5) ≡ false
odd_twice = refl

odd_other : follows setup owing (Odd 42 0 5) ≡ false
odd_other = refl

-- a sale has an id and a price that aren't 0, and its price is available
sold_first : follows setup posted (Sold 5 100) ≡ true
sold_first = refl

sold_too_dear : follows setup posted (Sold 5 101) ≡ false
sold_too_dear = refl

sold_for_nothing : follows setup posted (Sold 5 0) ≡ false
sold_for_nothing = refl

sold_without_id : follows setup posted (Sold 0 10) ≡ false
sold_without_id = refl

sold_beside_order : follows setup owing (Sold 5 60) ≡ true
sold_beside_order = refl

sold_of_reserved : follows setup owing (Sold 5 61) ≡ false
sold_of_reserved = refl

-- what these records are worth
worth_posted : totals setup (put_all posted) ≡ amounts 100 0 0 0
worth_posted = refl

worth_owing : totals setup (put_all owing) ≡ amounts 60 40 0 0
worth_owing = refl

worth_settled : totals setup (put_all settled) ≡ amounts 80 0 20 0
worth_settled = refl

worth_odd : totals setup (put_all odd) ≡ amounts 60 40 0 0
worth_odd = refl

worth_sold : totals setup (put_all (Sold 5 30 ∷ settled)) ≡ amounts 50 0 20 30
worth_sold = refl

worth_broken : totals setup (put_all (Broken 2 0 2 0 0 (coin 1 1 ∷ coin 2 1 ∷ []) ∷ posted)) ≡ amounts 300 0 0 0
worth_broken = refl

-- a coin of a place without a value is worth nothing, and so is one of a place that an acceptor doesn't have
worth_valueless : totals sparse (put_all (Reading 2 2 0 2 (coin 3 1 ∷ coin 0 1 ∷ coin 17 1 ∷ []) ∷ posted)) ≡ amounts 100 0 0 0
worth_valueless = refl

-- five coins, oldest first
abbrev pub five : List Coin
five = coin 1 1 ∷ coin 2 1 ∷ coin 3 1 ∷ coin 4 1 ∷ coin 5 1 ∷ []

-- all records of a day, newest first
abbrev pub day : List Record
day =
    EpochEnd 4
    ∷ EpochEnd 2
    ∷ Sold 7 150
    ∷ Closed 6 1 0
    ∷ Opened 6 6 1 10
    ∷ Closed 5 2 0
    ∷ Opened 5 5 2 4
    ∷ Closed 4 2 3
    ∷ Opened 4 3 5 8
    ∷ Closed 3 3 0
    ∷ Opened 3 6 3 7
    ∷ Closed 2 4 0
    ∷ Opened 2 5 4 0
    ∷ Closed 1 10 0
    ∷ Opened 1 3 10 16777214
    ∷ Reading 4 20 0 20 five
    ∷ Reading 2 20 0 20 five
    ∷ Reading 4 15 0 15 five
    ∷ Reading 2 15 0 15 five
    ∷ Reading 4 10 0 10 five
    ∷ Reading 2 10 0 10 five
    ∷ Reading 4 5 0 5 five
    ∷ Reading 2 5 0 5 five
    ∷ Epoch 4 65535 0
    ∷ Epoch 2 65535 0
    ∷ []

day_follows : all_follow house day ≡ true
unfolding has_place
day_follows = refl

day_worth : totals house (put_all day) ≡ amounts 2030 0 820 150
day_worth = refl

-- no id of the day is used twice
day_is_fresh : AreFresh day
day_is_fresh = search

-- orders of two hoppers, whose ids don't rise
abbrev crossed : List Record
crossed = Opened 41 3 1 16777214 ∷ Opened 42 5 1 0 ∷ posted

crossed_follows : all_follow house crossed ≡ true
unfolding has_place
crossed_follows = refl

crossed_at_first : order_in 3 crossed ≡ Some (record { id = 41; addr = 3; count = 1; life = 16777214 })
crossed_at_first = refl

crossed_at_second : order_in 5 crossed ≡ Some (record { id = 42; addr = 5; count = 1; life = 0 })
crossed_at_second = refl

crossed_greatest : greatest_id crossed ≡ 42
crossed_greatest = refl

-- an id that is open at one hopper isn't opened at another; and it is once it was closed
crossed_again : follows house crossed (Opened 41 6 1 0) ≡ false
crossed_again = refl

crossed_closed : follows house (Closed 41 1 0 ∷ crossed) (Opened 41 3 1 0) ≡ true
crossed_closed = refl

crossed_at_closed : order_in 3 (Closed 41 1 0 ∷ crossed) ≡ None
crossed_at_closed = refl
