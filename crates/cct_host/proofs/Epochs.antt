-- The least address at which an epoch runs by a carry.
use Rattle.std.proofs.Common.{◌≡◌, ℕ, ◌≤◌, ◌<◌, List, [], ◌∷◌, length, map, slice_index_or, arith, ◌⊎◌, inl, inr, refl, subst, sym}
use Rattle.std.proofs.lemmas.Bool.{cases_lt}
use Rattle.cct_model.specs.lines.carry.Carry.{Carry}
use Rattle.cct_model.specs.lines.carry.CarryEpoch.{CarryEpoch}
use Rattle.cct_model.specs.Carried.{Rise, addr_of_epoch, first_with}
use Rattle.cct_model.specs.Carry.{epoch_from}
use Rattle.cct_jobs.specs.Jobs.{IsRunning}
use Rattle.cct_journal_carry.proofs.Sets.{first_above, first_here}
use Rattle.cct_host.specs.Upgrading.{IsLeastRunning, NoneRuns}

abbrev Runs : List CarryEpoch → ℕ → Type 0
Runs epochs addr = IsRunning (epoch_from (first_with addr_of_epoch addr epochs))

-- none runs where there is none
none_running : (c : Carry) → c.epochs ≡ [] → NoneRuns c
none_running c none addr runs = subst (λ epochs. Runs epochs addr) none runs

-- the first one runs, and none below it
first_runs : (e : CarryEpoch) (later : List CarryEpoch) → Runs (e ∷ later) e.addr
first_runs e later =
    subst (λ found. IsRunning (epoch_from found)) (sym (first_here addr_of_epoch e.addr e later refl)) tt

above : (e : CarryEpoch) (later : List CarryEpoch) (other : ℕ) → Rise (map addr_of_epoch (e ∷ later))
    → Runs (e ∷ later) other → (other < e.addr) ⊎ (e.addr ≤ other) → e.addr ≤ other
above e later other rise runs (inr more) = more
above e later other rise runs (inl below) =
    absurd (subst (λ found. IsRunning (epoch_from found)) (first_above addr_of_epoch other (e ∷ later) below rise) runs)

least_running : (c : Carry) (e : CarryEpoch) (later : List CarryEpoch) → c.epochs ≡ e ∷ later
    → Rise (map addr_of_epoch c.epochs) → IsLeastRunning c e.addr
least_running c e later are rise = record {
  runs = subst (λ epochs. Runs epochs e.addr) (sym are) (first_runs e later);
  least = λ other runs.
      above e later other (subst (λ epochs. Rise (map addr_of_epoch epochs)) are rise)
      (subst (λ epochs. Runs epochs other) are runs) (cases_lt other e.addr);
}

-- the one that a slice shows
pub first_least : (c : Carry) (lent : List CarryEpoch) (none : CarryEpoch) → lent ≡ c.epochs → 1 ≤ length lent
    → Rise (map addr_of_epoch c.epochs) → IsLeastRunning c (slice_index_or lent 0 none).addr
first_least c [] none is there rise = absurd (omega arith)
first_least c (e ∷ later) none is there rise = least_running c e later (sym is) rise
