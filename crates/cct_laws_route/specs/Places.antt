-- Bills and coins whose places are numbered from 1.
use Rattle.std.specs.Prelude.{◌≤◌, List, [], ◌∷◌, ⊤}
use Rattle.cct_model.specs.History.{Met, coin}

-- Each coin that fell in, and each bill that was put in, is of a place from 1 on.
abbrev pub ArePlaced : List Met → Type 0
ArePlaced [] = ⊤
ArePlaced (coin place ∷ past) = (1 ≤ place) × ArePlaced past
ArePlaced (what ∷ past) = ArePlaced past
