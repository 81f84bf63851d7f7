-- Watched devices, each known by its address.
use Rattle.std.specs.Prelude.{ℕ, ◌==◌, ◌&&◌, not, nat_le, Bool, true, List, [], ◌∷◌, if◌then◌else◌}
use Rattle.std.specs.List.{list_any}
use Rattle.cct_monitor.specs.declared.watched.Watched.{Watched}

-- A device has this address.
abbrev pub has_addr : ℕ → Watched → Bool
has_addr addr w = w.addr == addr

-- A device has this address or a higher one.
abbrev pub is_behind : ℕ → Watched → Bool
is_behind addr w = nat_le addr w.addr

-- No address stands twice.
abbrev pub are_apart : List Watched → Bool
are_apart [] = true
are_apart (w ∷ ws) = not (list_any (has_addr w.addr) ws) && are_apart ws

-- A watched device put before those of a higher address, or of its own.
abbrev pub put_watched : Watched → List Watched → List Watched
put_watched w [] = w ∷ []
put_watched w (v ∷ vs) = if nat_le w.addr v.addr then w ∷ v ∷ vs else v ∷ put_watched w vs
