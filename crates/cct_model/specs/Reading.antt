-- What a reading means beside what was recorded before.
use Rattle.std.specs.Prelude.{ℕ, ◌+◌, ◌-◌, ◌%◌, ◌^◌, ◌==◌, ◌&&◌, ◌||◌, not, Bool, min, List, []}
use Rattle.std.specs.Prelude.{◌∷◌, length, take, reverse, if◌then◌else◌}
use Rattle.cct_model.specs.terms.coin.TheConstants.{EVENTS}
use Rattle.cct_model.specs.terms.coin.Pair.{Pair}
use Rattle.cct_model.specs.terms.coin.Coin.{Coin}
use Rattle.cct_model.specs.terms.coin.Credits.{Credits}
use Rattle.cct_model.specs.lines.record.Record.TheVariants as record_of
use Rattle.cct_model.specs.declared.judging.Judged.{Judged}
use Rattle.cct_model.specs.declared.judging.Judged.TheVariants.{Nothing, Moved, Reading, Broken}

-- How many events came between two event counters, as far as they show: counters go from 0 to 1,
-- and from 255 to 1.
unfoldable pub distance : ℕ → ℕ → ℕ
distance old new = if old == 0 then new else if new == 0 then 0 else (new + 255 - old) % 255

-- The coins among events: those whose first number isn't 0.
abbrev pub coins_among : List Pair → List Coin
coins_among [] = []
coins_among (pair ∷ pairs) = if pair.a == 0 then coins_among pairs else record
    { place = pair.a; path = pair.b } ∷ coins_among pairs

-- The coins of the newest so many events of a credit buffer, oldest first; the buffer keeps no more
-- than the last few.
abbrev pub posted_of : ℕ → List Pair → List Coin
posted_of new_events pairs = reverse (coins_among (take (min new_events EVENTS) pairs))

-- A reading shows a reset or another mask: the mask isn't the recorded one, or the counter is back
-- at 0.
abbrev pub shows_break : ℕ → ℕ → ℕ → ℕ → Bool
shows_break mask counter seen read = not (seen == mask) || ((read == 0) && not (counter == 0))

-- How many coins were accepted between two accept counters, which go from 2 ^ 24 - 1 to 0.
unfoldable pub accepted_between : ℕ → ℕ → ℕ
accepted_between before after = (after + 2 ^ 24 - before) % 2 ^ 24

-- A coin was accepted while a reading was made: the mask is the recorded one, and the accept
-- counters before and after it are different.
abbrev pub shows_move : ℕ → ℕ → ℕ → ℕ → Bool
shows_move mask seen before now = (seen == mask) && not (before == now)

-- What a reading of an acceptor means, beside the recorded mask, event counter and accept counter:
-- none if a coin was accepted while it was made; else a break; else nothing if no event came and no
-- coin was accepted; else a reading. A break and a reading post the newest coins, and say how many
-- accepted ones are lost: those that they don't post.
unfoldable pub judge : ℕ → ℕ → ℕ → ℕ → Credits → ℕ → ℕ → ℕ → Judged
judge addr mask counter accepts credits seen before now =
    let new_events = distance counter credits.counter in
    let posted = posted_of new_events credits.pairs in
    let new_coins = accepted_between accepts now in
    let lost = new_coins - length posted in
    if shows_move mask seen before now then Moved
    else if shows_break mask counter seen credits.counter then Broken
    (record_of.Broken addr seen credits.counter lost now posted)
    else if (new_events == 0) && (new_coins == 0) then Nothing
    else Reading (record_of.Reading addr credits.counter lost now posted)
