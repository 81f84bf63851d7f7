-- What a row of the table holds: for each amount the least number of coins, or FAR where there is
-- no plan.
use Rattle.std.specs.Prelude.{◌≡◌, ℕ, suc, zero, ◌+◌, ◌-◌, ◌*◌, ◌≤◌, ◌==◌, nat_lt, min, sum, ◌⊎◌}
use Rattle.std.specs.Prelude.{List, length, drop, slice_index, if◌then◌else◌, Option, Some, None, ⊤}
use Rattle.cct_model.specs.declared.change.Tray.{Tray}
use Rattle.cct_plan.specs.declared.filling.TheConstants.{FAR, ROW}
use Rattle.cct_plan.specs.declared.tray.TheConstants.{TRAYS}
use Rattle.cct_model.specs.Plan.{most_of, IsPlan}
use Rattle.cct_plan.specs.Certificate.{Asked}

-- The number for an amount where so many coins more of a tray, worth this step together, may be
-- taken at once.
abbrev pub wider : List ℕ → ℕ → ℕ → ℕ → ℕ → ℕ
wider cells base step more a =
    if nat_lt a step
    then slice_index cells (base + a)
    else min (slice_index cells (base + (a - step)) + more) (slice_index cells (base + a))

-- The least number of coins for an amount where up to so many of a tray may be taken, over what the
-- later trays need.
pub record IsLeastUpTo (most value : ℕ) (later : ℕ → ℕ) (a n : ℕ) : Type 0 where
  pub far : n ≤ FAR
  pub lower : (c : ℕ) → c ≤ most → c * value ≤ a → n ≤ c + later (a - c * value)
  pub attained : (n ≡ FAR) ⊎ ((c : ℕ) × (c ≤ most) × (c * value ≤ a)
      × (n ≡ c + later (a - c * value)))

-- The least number of coins of a plan, or FAR where there is none.
pub record IsLeast (trays : List Tray) (a n : ℕ) : Type 0 where
  pub far : n ≤ FAR
  pub lower : (counts : List ℕ) → IsPlan trays a counts → n ≤ sum counts
  pub attained : (n ≡ FAR) ⊎ ((counts : List ℕ) × IsPlan trays a counts × (sum counts ≡ n))

-- So many coins of a tray are worth no more than the amount, and with the least number for what
-- they leave they are this one.
pub record Meets (t : Tray) (later : ℕ → ℕ) (a n c : ℕ) : Type 0 where
  pub fits : c * t.value ≤ a
  pub meets : c + later (a - c * t.value) ≡ n

-- The least number of coins is met by some count of a tray, over what the later trays need.
pub record IsMet (t : Tray) (later : ℕ → ℕ) (a n : ℕ) : Type 0 where
  pub count : ℕ
  pub few : count ≤ most_of t
  pub meets : Meets t later a n count

-- The greatest count of a tray by which it is met.
pub record IsGreatest (t : Tray) (later : ℕ → ℕ) (a n c : ℕ) : Type 0 where
  pub few : c ≤ most_of t
  pub meets : Meets t later a n c
  pub greatest : (o : ℕ) → o ≤ most_of t → Meets t later a n o → o ≤ c

-- What the table shows of so many of the last trays. Row k is that of the last k + 1 trays; of none
-- just the amount 0 is paid.
abbrev pub least_in : List ℕ → ℕ → ℕ → ℕ
least_in cells zero a = if a == 0 then 0 else FAR
least_in cells (suc k) a = slice_index cells (k * ROW + a)

-- The table shows the least number of coins for each of at most so many last trays, and each amount
-- up to this one.
abbrev pub Tells : List ℕ → List Tray → ℕ → ℕ → Type 0
Tells cells trays many amount =
    (k a : ℕ) → k ≤ many → a ≤ amount → IsLeast (drop (length trays - k) trays) a
    (least_in cells k a)

-- What was asked of a table with these trays and this amount.
abbrev pub asked_in : List Tray → Option ℕ → Option Asked
asked_in trays None = None
asked_in trays (Some amount) = Some (record { trays = trays; amount = amount })

-- How many cells the table has: none until a plan is asked of it, and then one for each tray and
-- each amount.
abbrev pub cells_for : Option ℕ → ℕ
cells_for None = 0
cells_for (Some amount) = TRAYS * ROW

-- The table shows the least number of coins for what was asked.
abbrev pub TellsAsked : List ℕ → List Tray → Option ℕ → Type 0
TellsAsked cells trays None = ⊤
TellsAsked cells trays (Some amount) = IsLeast trays amount (least_in cells (length trays) amount)
