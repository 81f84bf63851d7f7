-- The coins of a setup that an acceptor can be asked for.
use Rattle.std.specs.Prelude.{ℕ, ◌-◌, ◌==◌, ◌&&◌, ◌||◌, nat_le, Bool, List, [], ◌∷◌, if◌then◌else◌}
use Rattle.std.specs.Prelude.{Option, Some, None, is_some, bytes_eq, codes, find, slice_index_or}
use Rattle.cct_model_lines.specs.terms.device.DeviceBody.{DeviceBody}
use Rattle.cct_model_lines.specs.terms.device.DeviceBody.TheVariants.{Acceptor}
use Rattle.cct_model_lines.specs.Setting.{is_place}

-- The coin places.
abbrev pub all_places : List ℕ
all_places = 1 ∷ 2 ∷ 3 ∷ 4 ∷ 5 ∷ 6 ∷ 7 ∷ 8 ∷ 9 ∷ 10 ∷ 11 ∷ 12 ∷ 13 ∷ 14 ∷ 15 ∷ 16 ∷ []

-- The identification of a coin with a value, or none: without a value there is no value line, and
-- six points name no coin.
abbrev pub coin_of : ℕ → List ℕ → Option (List ℕ)
coin_of value id = if (value == 0) || bytes_eq id (codes "......") then None else Some id

-- The identification of the coin of a place of a coin acceptor, as its value line says it.
abbrev pub coin_at : DeviceBody → ℕ → Option (List ℕ)
coin_at (Acceptor accepts values ids) place =
    if is_place place then coin_of (slice_index_or values (place - 1) 0)
    (slice_index_or ids (place - 1) []) else None
coin_at body place = None

-- The first coin place from this one on whose coin has an identification.
abbrev pub next_coin : DeviceBody → ℕ → Option ℕ
next_coin body from = find (λ place. nat_le from place && is_some (coin_at body place)) all_places
