-- The inhibits and the sorter paths of a coin acceptor, read off all settings since its last reset,
-- newest first (ccTalk Generic Specification 4, part 2).
use Rattle.std.specs.Prelude.{ℕ, ◌-◌, ◌/◌, ◌%◌, ◌^◌, ◌==◌, nat_le, Bool, true, ◌&&◌, List, [], ◌∷◌}
use Rattle.std.specs.Prelude.{if◌then◌else◌, Option, Some, None, unwrap_or}
use Rattle.cct_model_wire.specs.declared.coin.TheConstants.{COIN_PLACES, PATHS}

-- A setting was asked for: an inhibit mask, a byte of the master inhibit, the sorter path of a coin
-- place, or the default path; a path may be one that is refused.
pub data Setting : Type 0 where
  mask_set : (mask : ℕ) → Setting
  master_set : (value : ℕ) → Setting
  path_set : (place path : ℕ) → Setting
  default_set : (path : ℕ) → Setting

-- Coin places are numbered from 1.
abbrev pub is_place : ℕ → Bool
is_place place = nat_le 1 place && nat_le place COIN_PLACES

-- Sorter paths are numbered from 1.
abbrev pub is_path : ℕ → Bool
is_path path = nat_le 1 path && nat_le path PATHS

-- The inhibit mask is the one that was last set, and 0 before any.
abbrev pub mask_in : List Setting → ℕ
mask_in [] = 0
mask_in (mask_set mask ∷ past) = mask
mask_in (master_set value ∷ past) = mask_in past
mask_in (path_set place path ∷ past) = mask_in past
mask_in (default_set path ∷ past) = mask_in past

-- The acceptor is in normal operation where bit 0 of the last byte of the master inhibit is 1, or
-- none was set.
abbrev pub is_normal_in : List Setting → Bool
is_normal_in [] = true
is_normal_in (master_set value ∷ past) = value % 2 == 1
is_normal_in (mask_set mask ∷ past) = is_normal_in past
is_normal_in (path_set place path ∷ past) = is_normal_in past
is_normal_in (default_set path ∷ past) = is_normal_in past

-- The default path is the last one in range that was set, and 1 before any.
abbrev pub default_in : List Setting → ℕ
default_in [] = 1
default_in (default_set path ∷ past) = if is_path path then path else default_in past
default_in (mask_set mask ∷ past) = default_in past
default_in (master_set value ∷ past) = default_in past
default_in (path_set place path ∷ past) = default_in past

-- The path that was last set for a coin place, place and path being in range, or none.
abbrev pub own_path_in : List Setting → ℕ → Option ℕ
own_path_in [] place = None
own_path_in (path_set other path ∷ past) place =
    if is_place other && is_path path && (other == place) then Some path else own_path_in past place
own_path_in (mask_set mask ∷ past) place = own_path_in past place
own_path_in (master_set value ∷ past) place = own_path_in past place
own_path_in (default_set path ∷ past) place = own_path_in past place

-- A coin of a place falls by the path that was set for its place, and by the default path where
-- none was.
abbrev pub path_in : List Setting → ℕ → ℕ
path_in past place = unwrap_or (own_path_in past place) (default_in past)

-- A mask has a coin place where its bit is 1; bit 0 is place 1.
unfoldable pub has_place : ℕ → ℕ → Bool
has_place mask place = mask / 2 ^ (place - 1) % 2 == 1

-- A coin of a place is accepted where the mask has its place and the acceptor is in normal
-- operation.
abbrev pub accepts_in : List Setting → ℕ → Bool
accepts_in past place = has_place (mask_in past) place && is_normal_in past
