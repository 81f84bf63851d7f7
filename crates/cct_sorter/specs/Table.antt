-- The table of coins, as that of an acceptor with these settings.
use Rattle.std.specs.Prelude.{◌≡◌, ℕ, ◌-◌, ◌≤◌, List, Some, slice_get}
use Rattle.cct_sorter.specs.declared.table.CoinTable.{CoinTable}
use Rattle.cct_model_wire.specs.declared.coin.TheConstants.{COIN_PLACES}
use Rattle.cct_model_wire.specs.Setting.{Setting, mask_in, is_normal_in, default_in, own_path_in}

-- A table holds the mask, the master inhibit, the default path and the path set for each coin place
-- that the settings since the last reset left, newest first.
pub record Holds (table : CoinTable) (past : List Setting) : Type 0 where
  pub mask : table.mask ≡ mask_in past
  pub normal : table.normal ≡ is_normal_in past
  pub default_path : table.default_path ≡ default_in past
  pub paths : (place : ℕ) → 1 ≤ place → place ≤ COIN_PLACES → slice_get table.paths (place - 1)
      ≡ Some (own_path_in past place)
