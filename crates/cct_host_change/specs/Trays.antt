-- Trays in rising order of address, and their stocks.
use Rattle.std.specs.Prelude.{ℕ, List, [], ◌∷◌, nat_le, if◌then◌else◌}
use Rattle.cct_model.specs.declared.change.Tray.{Tray}
use Rattle.cct_model.specs.Change.{stock_left}
use Rattle.cct_host_change.specs.declared.trays.NewStock.{NewStock}
use Rattle.cct_host_change.specs.declared.trays.NewStock.TheVariants.{Counted, Settled}

-- Trays with one more, before the first whose address isn't below its own.
abbrev pub put_tray : Tray → List Tray → List Tray
put_tray t [] = t ∷ []
put_tray t (u ∷ us) = if nat_le t.addr u.addr then t ∷ u ∷ us else u ∷ put_tray t us

-- What becomes of a stock.
abbrev pub becomes : NewStock → ℕ → ℕ
becomes (Counted count) before = count
becomes (Settled phase) before = stock_left phase before
