-- Sums and greatest values over the devices of a setup.
use Rattle.std.proofs.Common.{◌≡◌, ◌≢◌, ℕ, ◌+◌, ◌≤◌, ◌==◌, Bool, true, false, cond, List, [], ◌∷◌, refl, ap, ap₂, sym, ◌∙◌, Some, None, All, arith, eqb-true, true≢false, eq-eqb, le_of_eq}
use Rattle.std.proofs.lemmas.List.Elements.{All-head, All-tail, All-nil, All-cons}
use Rattle.cct_model.specs.terms.device.DeviceSetup.{DeviceSetup}
use Rattle.cct_model.specs.lines.entry.Entry.{Entry}
use Rattle.cct_model.specs.Exchange.{device_at}
use Rattle.cct_model.specs.Setup.{AreDistinct}
use Rattle.cct_model.specs.Job.{job}
use Rattle.cct_model.specs.Money.{sum_over}
use Rattle.cct_model.specs.Refusal.{running_id, greatest_running}
use Rattle.cct_model.specs.Transcript.{lines_of}
use Rattle.cct_laws.proofs.setups.DeviceAt.{same_some}

-- functions that agree have one sum
pub sum_same : (f g : DeviceSetup → ℕ) (ds : List DeviceSetup) → ((d : DeviceSetup) → f d ≡ g d) →
    sum_over f ds ≡ sum_over g ds
sum_same f g [] same = refl
sum_same f g (d ∷ ds) same = ap₂ (λ a b. a + b) (same d) (sum_same f g ds same)

pub sum_same_each : (f g : DeviceSetup → ℕ) (ds : List DeviceSetup) → All (λ d. f d ≡ g d) ds →
    sum_over f ds ≡ sum_over g ds
sum_same_each f g [] same = refl
sum_same_each f g (d ∷ ds) same =
    ap₂ (λ a b. a + b) (All-head (λ d. f d ≡ g d) d ds same)
    (sum_same_each f g ds (All-tail (λ d. f d ≡ g d) d ds same))

-- nothing at each device is nothing together
pub sum_none : (f : DeviceSetup → ℕ) (ds : List DeviceSetup) → ((d : DeviceSetup) → f d ≡ 0) → sum_over f ds ≡ 0
sum_none f [] none = refl
sum_none f (d ∷ ds) none =
    let here = none d in
    let rest = sum_none f ds none in
    omega arith

-- no less at each device is no less together
pub sum_grows : (f g : DeviceSetup → ℕ) (ds : List DeviceSetup) → ((d : DeviceSetup) → f d ≤ g d) →
    sum_over f ds ≤ sum_over g ds
sum_grows f g [] grows = omega arith
sum_grows f g (d ∷ ds) grows =
    let here = grows d in
    let rest = sum_grows f g ds grows in
    omega arith

pub sum_grows_each : (f g : DeviceSetup → ℕ) (ds : List DeviceSetup) → All (λ d. f d ≤ g d) ds →
    sum_over f ds ≤ sum_over g ds
sum_grows_each f g [] grows = omega arith
sum_grows_each f g (d ∷ ds) grows =
    let here = All-head (λ d. f d ≤ g d) d ds grows in
    let rest = sum_grows_each f g ds (All-tail (λ d. f d ≤ g d) d ds grows) in
    omega arith

-- a function that is no more than another at all addresses but one has no more as its sum where no device is at that
-- one
sum_apart_le : (f g : DeviceSetup → ℕ) (ds : List DeviceSetup) (addr : ℕ) → device_at ds addr ≡ None →
    ((e : DeviceSetup) → e.addr ≢ addr → f e ≤ g e) → sum_over f ds ≤ sum_over g ds
sum_apart_le f g [] addr free less = omega arith
sum_apart_le f g (e ∷ ds) addr free less =
    by_here (e.addr == addr) refl free (λ found. sum_apart_le f g ds addr found less)
  where
    by_here : (here : Bool) → (e.addr == addr) ≡ here → cond here (Some e) (device_at ds addr) ≡ None →
        (device_at ds addr ≡ None → sum_over f ds ≤ sum_over g ds) → sum_over f (e ∷ ds) ≤ sum_over g (e ∷ ds)
    by_here true is found rest = absurd cc
    by_here false is found rest =
        let here : f e ≤ g e = less e (λ at. absurd (true≢false (sym (eq-eqb e.addr addr at) ∙ is))) in
        let others : sum_over f ds ≤ sum_over g ds = rest found in
        omega arith

-- where a function is no more than another at all addresses but that of one device, their sums differ by no more than
-- they do there
pub sum_moved : (f g : DeviceSetup → ℕ) (ds : List DeviceSetup) (d : DeviceSetup) → AreDistinct ds →
    device_at ds d.addr ≡ Some d → ((e : DeviceSetup) → e.addr ≢ d.addr → f e ≤ g e) →
    sum_over f ds + g d ≤ sum_over g ds + f d
sum_moved f g [] d distinct found less = absurd cc
sum_moved f g (e ∷ ds) d distinct found less =
    by_here (e.addr == d.addr) refl found (λ at. sum_moved f g ds d distinct.1 at less)
  where
    by_here : (here : Bool) → (e.addr == d.addr) ≡ here → cond here (Some e) (device_at ds d.addr) ≡ Some d →
        (device_at ds d.addr ≡ Some d → sum_over f ds + g d ≤ sum_over g ds + f d) →
        sum_over f (e ∷ ds) + g d ≤ sum_over g (e ∷ ds) + f d
    by_here true is at later =
        let own : e ≡ d = same_some e d at in
        let free : device_at ds d.addr ≡ None = ap (λ a. device_at ds a) (sym (eqb-true e.addr d.addr is))
        ∙ distinct.0 in
        let rest : sum_over f ds ≤ sum_over g ds = sum_apart_le f g ds d.addr free less in
        let first : f e ≡ f d = ap f own in
        let second : g e ≡ g d = ap g own in
        omega arith
    by_here false is at later =
        let here : f e ≤ g e = less e (λ own. absurd (true≢false (sym (eq-eqb e.addr d.addr own) ∙ is))) in
        let rest : sum_over f ds + g d ≤ sum_over g ds + f d = later at in
        omega arith

-- functions that agree at all addresses but that of one device have sums that differ as they do there
pub sum_changed : (f g : DeviceSetup → ℕ) (ds : List DeviceSetup) (d : DeviceSetup) → AreDistinct ds →
    device_at ds d.addr ≡ Some d → ((e : DeviceSetup) → e.addr ≢ d.addr → f e ≡ g e) →
    sum_over f ds + g d ≡ sum_over g ds + f d
sum_changed f g ds d distinct found same =
    let more = sum_moved f g ds d distinct found (λ e other. le_of_eq (same e other)) in
    let less = sum_moved g f ds d distinct found (λ e other. le_of_eq (sym (same e other))) in
    omega arith

-- the value at a device is at most the sum
pub sum_holds : (f : DeviceSetup → ℕ) (ds : List DeviceSetup) (d : DeviceSetup) (addr : ℕ) →
    device_at ds addr ≡ Some d →
    f d ≤ sum_over f ds
sum_holds f [] d addr found = absurd cc
sum_holds f (e ∷ ds) d addr found = by_here (e.addr == addr) found (λ at. sum_holds f ds d addr at)
  where
    by_here : (here : Bool) → cond here (Some e) (device_at ds addr) ≡ Some d →
        (device_at ds addr ≡ Some d → f d ≤ sum_over f ds) → f d ≤ sum_over f (e ∷ ds)
    by_here true at later =
        let own : f e ≡ f d = ap f (same_some e d at) in
        omega arith
    by_here false at later =
        let rest : f d ≤ sum_over f ds = later at in
        omega arith

-- what holds of each device that is the one at its address holds of all devices
pub all_found : (P : DeviceSetup → Type 0) (ds : List DeviceSetup) → AreDistinct ds →
    ((d : DeviceSetup) → device_at ds d.addr ≡ Some d → P d) → All P ds
all_found P [] distinct each = All-nil P
all_found P (e ∷ ds) distinct each =
    All-cons P e ds (each e (ap (λ b. cond b (Some e) (device_at ds e.addr)) (eq-eqb e.addr e.addr refl)))
    (all_found P ds distinct.1 (λ d at. each d (behind d at)))
  where
    behind : (d : DeviceSetup) → device_at ds d.addr ≡ Some d → device_at (e ∷ ds) d.addr ≡ Some d
    behind d at = by_here (e.addr == d.addr) refl
      where
        by_here : (here : Bool) → (e.addr == d.addr) ≡ here → cond here (Some e) (device_at ds d.addr) ≡ Some d
        by_here false is = at
        by_here true is =
            let none : device_at ds d.addr ≡ None =
            ap (λ a. device_at ds a) (sym (eqb-true e.addr d.addr is)) ∙ distinct.0 in
            absurd cc

-- the id of a device's job is at most the greatest, and a bound of all is one of the greatest
pub greatest_holds : (past : List Entry) (ds : List DeviceSetup) (d : DeviceSetup) (addr : ℕ) →
    device_at ds addr ≡ Some d → running_id d (job (lines_of d past)) ≤ greatest_running past ds
greatest_holds past [] d addr found = absurd cc
greatest_holds past (e ∷ ds) d addr found = by_here (e.addr == addr) found (λ at. greatest_holds past ds d addr at)
  where
    by_here : (here : Bool) → cond here (Some e) (device_at ds addr) ≡ Some d →
        (device_at ds addr ≡ Some d → running_id d (job (lines_of d past)) ≤ greatest_running past ds) →
        running_id d (job (lines_of d past)) ≤ greatest_running past (e ∷ ds)
    by_here true at later =
        let own : running_id e (job (lines_of e past)) ≡ running_id d (job (lines_of d past)) =
        ap (λ x. running_id x (job (lines_of x past))) (same_some e d at) in
        omega arith
    by_here false at later =
        let rest : running_id d (job (lines_of d past)) ≤ greatest_running past ds = later at in
        omega arith
