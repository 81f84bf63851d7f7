-- What the bytes of a body say at the places where fields stand, whether or not the body spells a
-- record.
use Rattle.std.specs.Prelude.{ℕ, zero, suc, ◌+◌, ◌*◌, ◌==◌, min, List, [], ◌∷◌, ◌++◌, Option, Some}
use Rattle.std.specs.Prelude.{None, slice_index}
use Rattle.std.specs.Prelude.{if◌then◌else◌}
use Rattle.std.specs.Int.{w16, w32, from_le_bytes}
use Rattle.cct_model_lines.specs.terms.coin.Coin.{Coin}
use Rattle.cct_model_lines.specs.Request.{from_three}
use Rattle.cct_model_lines.specs.declared.record.Record.{Record}
use Rattle.cct_model_lines.specs.declared.record.Record.TheVariants.{Epoch, Reading, Broken}
use Rattle.cct_model_lines.specs.declared.record.Record.TheVariants.{EpochEnd, Opened, Closed, Odd}
use Rattle.cct_model_lines.specs.declared.record.Record.TheVariants.{Sold}

-- The number of the two bytes from a place on.
abbrev pub two_at : List ℕ → ℕ → ℕ
two_at body at = from_le_bytes w16 (slice_index body at ∷ slice_index body (at + 1) ∷ [])

-- The number of the three bytes from a place on.
abbrev pub three_at : List ℕ → ℕ → ℕ
three_at body at =
    from_three (slice_index body at) (slice_index body (at + 1)) (slice_index body (at + 2))

-- The number of the four bytes from a place on.
abbrev pub four_at : List ℕ → ℕ → ℕ
four_at body at =
    from_le_bytes w32 (slice_index body at ∷ slice_index body (at + 1) ∷ slice_index body (at + 2)
    ∷ slice_index body
    (at + 3) ∷ [])

-- The coin of the two bytes from a place on.
abbrev pub coin_at : List ℕ → ℕ → Coin
coin_at body at = record { place = slice_index body at; path = slice_index body (at + 1) }

-- So many coins from a place on.
abbrev pub coins_from : List ℕ → ℕ → ℕ → List Coin
coins_from body at zero = []
coins_from body at (suc count) = coins_from body at count ++ coin_at body (at + 2 * count) ∷ []

-- The coins after their number at a place, five at most.
abbrev pub coins_at : List ℕ → ℕ → List Coin
coins_at body at = coins_from body (at + 1) (min (slice_index body at) 5)

-- The record whose kind and fields stand in a body, or none where no kind has that number.
unfoldable pub record_at : List ℕ → Option Record
record_at body =
    if slice_index body 0 == 1 then Some (Epoch (slice_index body 1) (two_at body 2)
    (three_at body 4))
    else if slice_index body 0 ==
    2 then Some (Reading (slice_index body 1) (slice_index body 2) (three_at body 3)
    (three_at body 6) (coins_at body 9))
    else if slice_index body 0 ==
    3 then Some (Broken (slice_index body 1) (two_at body 3) (slice_index body 2) (three_at body 5)
    (three_at body 8) (coins_at body 11))
    else if slice_index body 0 == 4 then Some (EpochEnd (slice_index body 1))
    else if slice_index body 0 ==
    5 then Some (Opened (four_at body 2) (slice_index body 1) (slice_index body 6)
    (three_at body 7))
    else if slice_index body 0 == 6 then Some
    (Closed (four_at body 1) (slice_index body 5) (slice_index body 6))
    else if slice_index body 0 == 7 then Some
    (Odd (four_at body 1) (three_at body 5) (three_at body 8))
    else if slice_index body 0 == 8 then Some (Sold (four_at body 1) (four_at body 5))
    else None
