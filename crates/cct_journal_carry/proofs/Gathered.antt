-- What is at each of some devices, in rising order of address: what is found by its address or by another key, and what
-- changes where one device changes.
use Rattle.std.proofs.Common.{◌≡◌, ◌≢◌, ℕ, suc, ◌≤◌, ◌<◌, ◌==◌, nat_lt, Bool, true, false, cond, List, [], ◌∷◌, length, Option, Some, None, All, refl, ap, ap₂, sym, ◌∙◌, arith, eqb-true, eq-eqb, option_and_then}
use Rattle.std.proofs.lemmas.Bool.Decides.{nat_tests}
use Rattle.std.proofs.lemmas.List.Elements.{All-cons, All-head, All-nil, All-tail, All-weaker}
use Rattle.cct_model.specs.terms.device.DeviceSetup.{DeviceSetup}
use Rattle.cct_model.specs.Carried.{first_with, set_with, with_some}
use Rattle.cct_model.specs.Carry.{gathered}
use Rattle.cct_model.specs.Exchange.{device_at}
use Rattle.cct_model.specs.Setup.{AreDistinct}
use Rattle.cct_laws.specs.Law.{AreRising}
use Rattle.cct_laws.proofs.setups.DeviceAt.{same_some}
use Rattle.cct_laws.proofs.money.Sums.{all_found}
use Rattle.cct_journal_carry.proofs.Devices.{none_below}

-- what is at each device
module _ {X : Type 0} where
  -- it has the device's address as its key
  abbrev pub HasAddress : (X → ℕ) → (DeviceSetup → Option X) → Type 0
  HasAddress key f = (d : DeviceSetup) (x : X) → f d ≡ Some x → key x ≡ d.addr

  -- by its address it is found at the device there
  pub first_gathered : (key : X → ℕ) (f : DeviceSetup → Option X) → HasAddress key f → (addr : ℕ)
      (ds : List DeviceSetup) → AreRising ds →
      first_with key addr (gathered f ds) ≡ option_and_then f (device_at ds addr)
  first_gathered key f keys addr [] rising = refl
  first_gathered key f keys addr (d ∷ ds) rising =
      by_found (f d) refl (d.addr == addr) refl (first_gathered key f keys addr ds rising.1)
    where
      by_found : (found : Option X) → f d ≡ found → (here : Bool) → (d.addr == addr) ≡ here →
          first_with key addr (gathered f ds) ≡ option_and_then f (device_at ds addr) →
          first_with key addr (with_some found (gathered f ds))
          ≡ option_and_then f (cond here (Some d) (device_at ds addr))
      by_found None is false test later = later
      by_found None is true test later =
          later
          ∙ ap (option_and_then f)
          (ap (device_at ds) (sym (eqb-true d.addr addr test)) ∙ none_below d.addr ds rising.0)
          ∙ sym is
      by_found (Some x) is here test later =
          ap (λ b. cond b (Some x) (first_with key addr (gathered f ds)))
          (ap (λ n. n == addr) (keys d x is) ∙ test)
          ∙ by_test here later
        where
          by_test : (b : Bool) → first_with key addr (gathered f ds) ≡ option_and_then f (device_at ds addr) →
              cond b (Some x) (first_with key addr (gathered f ds))
              ≡ option_and_then f (cond b (Some d) (device_at ds addr))
          by_test true found = sym is
          by_test false found = found

  -- by another key, where all that has it is the same
  pub first_among : (key : X → ℕ) (wanted : ℕ) (f : DeviceSetup → Option X) (d : DeviceSetup) (x : X)
      (ds : List DeviceSetup) → f d ≡ Some x → key x ≡ wanted →
      ((e : DeviceSetup) (y : X) → f e ≡ Some y → key y ≡ wanted → y ≡ x) →
      device_at ds d.addr ≡ Some d → first_with key wanted (gathered f ds) ≡ Some x
  first_among key wanted f d x [] is has one there = absurd cc
  first_among key wanted f d x (e ∷ ds) is has one there =
      by_here (e.addr == d.addr) there (first_among key wanted f d x ds is has one)
    where
      here : f e ≡ Some x → first_with key wanted (gathered f (e ∷ ds)) ≡ Some x
      here own =
          ap (λ found. first_with key wanted (with_some found (gathered f ds))) own
          ∙ ap (λ b. cond b (Some x) (first_with key wanted (gathered f ds))) (eq-eqb (key x) wanted has)

      by_found : (found : Option X) → f e ≡ found → first_with key wanted (gathered f ds) ≡ Some x →
          first_with key wanted (with_some found (gathered f ds)) ≡ Some x
      by_found None own later = later
      by_found (Some y) own later = by_key (key y == wanted) refl
        where
          by_key : (same : Bool) → (key y == wanted) ≡ same →
              cond same (Some y) (first_with key wanted (gathered f ds)) ≡ Some x
          by_key true test = ap Some (one e y own (eqb-true (key y) wanted test))
          by_key false test = later

      by_here : (same : Bool) → cond same (Some e) (device_at ds d.addr) ≡ Some d →
          (device_at ds d.addr ≡ Some d → first_with key wanted (gathered f ds) ≡ Some x) →
          first_with key wanted (gathered f (e ∷ ds)) ≡ Some x
      by_here true at later = here (ap f (same_some e d at) ∙ is)
      by_here false at later = by_found (f e) refl (later at)

  -- and where nothing has that key, nothing is found
  pub first_nowhere : (key : X → ℕ) (wanted : ℕ) (f : DeviceSetup → Option X) (ds : List DeviceSetup) →
      ((e : DeviceSetup) (y : X) → f e ≡ Some y → (key y == wanted) ≡ false) →
      first_with key wanted (gathered f ds) ≡ None
  first_nowhere key wanted f [] none = refl
  first_nowhere key wanted f (e ∷ ds) none = by_found (f e) refl (first_nowhere key wanted f ds none)
    where
      by_found : (found : Option X) → f e ≡ found → first_with key wanted (gathered f ds) ≡ None →
          first_with key wanted (with_some found (gathered f ds)) ≡ None
      by_found None own later = later
      by_found (Some y) own later =
          ap (λ b. cond b (Some y) (first_with key wanted (gathered f ds))) (none e y own) ∙ later

  -- what stands alike at each device is the same together
  pub gathered_same : (f g : DeviceSetup → Option X) (ds : List DeviceSetup) → All (λ e. f e ≡ g e) ds →
      gathered f ds ≡ gathered g ds
  gathered_same f g [] same = refl
  gathered_same f g (d ∷ ds) same =
      ap₂ (λ found xs. with_some found xs) (All-head (λ e. f e ≡ g e) d ds same)
      (gathered_same f g ds (All-tail (λ e. f e ≡ g e) d ds same))

  -- nothing at each device is nothing together
  pub gathered_none : (f : DeviceSetup → Option X) (ds : List DeviceSetup) → ((d : DeviceSetup) → f d ≡ None) →
      gathered f ds ≡ []
  gathered_none f [] none = refl
  gathered_none f (d ∷ ds) none =
      ap (λ found. with_some found (gathered f ds)) (none d) ∙ gathered_none f ds none

  -- below all devices a new one is in front
  set_below : (key : X → ℕ) (f : DeviceSetup → Option X) → HasAddress key f → (addr : ℕ) (new : Option X)
      (ds : List DeviceSetup) → All (λ e. addr < e.addr) ds →
      set_with key addr new (gathered f ds) ≡ with_some new (gathered f ds)
  set_below key f keys addr new [] above = refl
  set_below key f keys addr new (d ∷ ds) above =
      by_found (f d) refl (set_below key f keys addr new ds (All-tail (λ e. addr < e.addr) d ds above))
    where
      higher : (k : ℕ) → k ≡ d.addr → addr < d.addr → nat_lt k addr ≡ false
      higher k own test = grind (arith, nat_tests)

      other : (k : ℕ) → k ≡ d.addr → addr < d.addr → (k == addr) ≡ false
      other k own test = grind (arith, nat_tests)

      by_found : (found : Option X) → f d ≡ found →
          set_with key addr new (gathered f ds) ≡ with_some new (gathered f ds) →
          set_with key addr new (with_some found (gathered f ds)) ≡ with_some new (with_some found (gathered f ds))
      by_found None is later = later
      by_found (Some x) is later =
          let head : addr < d.addr = All-head (λ e. addr < e.addr) d ds above in
          ap₂ (λ lower same. cond lower (x ∷ set_with key addr new (gathered f ds))
          (cond same (with_some new (gathered f ds)) (with_some new (x ∷ gathered f ds))))
          (higher (key x) (keys d x is) head) (other (key x) (keys d x is) head)

  -- what changes at one device alone is set there
  pub set_gathered : (key : X → ℕ) (f g : DeviceSetup → Option X) → HasAddress key f → (addr : ℕ) →
      ((e : DeviceSetup) → e.addr ≢ addr → f e ≡ g e) → (ds : List DeviceSetup) → AreRising ds →
      set_with key addr (option_and_then g (device_at ds addr)) (gathered f ds) ≡ gathered g ds
  set_gathered key f g keys addr same [] rising = refl
  set_gathered key f g keys addr same (d ∷ ds) rising =
      by_tests (nat_lt d.addr addr) (d.addr == addr) refl refl (set_gathered key f g keys addr same ds rising.1)
    where
      -- the devices above
      above : addr ≤ d.addr → All (λ e. addr < e.addr) ds
      above lower =
          All-weaker (λ e. d.addr < e.addr) (λ e. addr < e.addr) (λ e higher. omega (arith, lower, higher)) ds rising.0

      rest : All (λ e. addr < e.addr) ds → gathered f ds ≡ gathered g ds
      rest all =
          gathered_same f g ds
          (All-weaker (λ e. addr < e.addr) (λ e. f e ≡ g e) (λ e higher. same e (λ at. omega (arith, higher, at))) ds
          all)

      lower_key : (k : ℕ) → k ≡ d.addr → nat_lt d.addr addr ≡ true → nat_lt k addr ≡ true
      lower_key k own test = ap (λ n. nat_lt n addr) own ∙ test

      not_both : nat_lt d.addr addr ≡ true → (d.addr == addr) ≡ true → ⊥
      not_both below own = grind (arith, nat_tests)

      beside : (d.addr == addr) ≡ false → d.addr ≢ addr
      beside own at = grind (arith, nat_tests)

      here_least : (d.addr == addr) ≡ true → addr ≤ d.addr
      here_least own = grind (arith, nat_tests)

      not_lower : (k : ℕ) → k ≡ d.addr → (d.addr == addr) ≡ true → nat_lt k addr ≡ false
      not_lower k at own = grind (arith, nat_tests)

      higher : nat_lt d.addr addr ≡ false → (d.addr == addr) ≡ false → addr < d.addr
      higher below own = grind (arith, nat_tests)

      -- a device below keeps what it has
      lower_found : (found : Option X) → f d ≡ found → f d ≡ g d → nat_lt d.addr addr ≡ true →
          set_with key addr (option_and_then g (device_at ds addr)) (gathered f ds) ≡ gathered g ds →
          set_with key addr (option_and_then g (device_at ds addr)) (with_some found (gathered f ds))
          ≡ with_some (g d) (gathered g ds)
      lower_found None is kept below later = later ∙ ap (λ x. with_some x (gathered g ds)) (sym is ∙ kept)
      lower_found (Some x) is kept below later =
          let new = option_and_then g (device_at ds addr) in
          ap (λ b. cond b (x ∷ set_with key addr new (gathered f ds))
          (cond (key x == addr) (with_some new (gathered f ds)) (with_some new (x ∷ gathered f ds))))
          (lower_key (key x) (keys d x is) below)
          ∙ ap (λ xs. x ∷ xs) later ∙ ap (λ y. with_some y (gathered g ds)) (sym is ∙ kept)

      -- the device itself has what is new
      own_found : (found : Option X) → f d ≡ found → (d.addr == addr) ≡ true → All (λ e. addr < e.addr) ds →
          set_with key addr (g d) (with_some found (gathered f ds)) ≡ with_some (g d) (gathered g ds)
      own_found None is own all =
          set_below key f keys addr (g d) ds all ∙ ap (with_some (g d)) (rest all)
      own_found (Some x) is own all =
          ap₂ (λ lower here. cond lower (x ∷ set_with key addr (g d) (gathered f ds))
          (cond here (with_some (g d) (gathered f ds)) (with_some (g d) (x ∷ gathered f ds))))
          (not_lower (key x) (keys d x is) own) (ap (λ n. n == addr) (keys d x is) ∙ own)
          ∙ ap (with_some (g d)) (rest all)

      by_tests : (lower here : Bool) → nat_lt d.addr addr ≡ lower → (d.addr == addr) ≡ here →
          set_with key addr (option_and_then g (device_at ds addr)) (gathered f ds) ≡ gathered g ds →
          set_with key addr (option_and_then g (cond here (Some d) (device_at ds addr))) (gathered f (d ∷ ds))
          ≡ gathered g (d ∷ ds)
      by_tests true true below own later = absurd (not_both below own)
      by_tests true false below own later = lower_found (f d) refl (same d (beside own)) below later
      by_tests false true below own later = own_found (f d) refl own (above (here_least own))
      by_tests false false below own later =
          let least = higher below own in
          let all : All (λ e. addr < e.addr) (d ∷ ds) =
          All-cons (λ e. addr < e.addr) d ds least (above (omega (arith, least))) in
          ap (λ found. set_with key addr (option_and_then g found) (gathered f (d ∷ ds)))
          (none_below addr ds (above (omega (arith, least))))
          ∙ set_below key f keys addr None (d ∷ ds) all
          ∙ ap₂ (λ found xs. with_some found xs) (same d (beside own)) (rest (above (omega (arith, least))))

  -- each that stands somewhere is at a device, which is the one at its address
  pub gathered_each : (P : X → Type 0) (f : DeviceSetup → Option X) (ds : List DeviceSetup) → AreDistinct ds →
      ((d : DeviceSetup) (x : X) → device_at ds d.addr ≡ Some d → f d ≡ Some x → P x) → All P (gathered f ds)
  gathered_each P f ds distinct each =
      from_all ds (all_found (λ d. (x : X) → f d ≡ Some x → P x) ds distinct (λ d at x is. each d x at is))
    where
      from_all : (es : List DeviceSetup) → All (λ d. (x : X) → f d ≡ Some x → P x) es → All P (gathered f es)
      from_all [] all = All-nil P
      from_all (e ∷ es) all = by_found (f e) refl (from_all es (All-tail (λ d. (x : X) → f d ≡ Some x → P x) e es all))
        where
          by_found : (found : Option X) → f e ≡ found → All P (gathered f es) →
              All P (with_some found (gathered f es))
          by_found None is later = later
          by_found (Some x) is later =
              All-cons P x (gathered f es) (All-head (λ d. (y : X) → f d ≡ Some y → P y) e es all x is) later

  -- at most one is at each device
  pub gathered_few : (f : DeviceSetup → Option X) (ds : List DeviceSetup) → length (gathered f ds) ≤ length ds
  gathered_few f [] = omega arith
  gathered_few f (d ∷ ds) = by_found (f d) (gathered_few f ds)
    where
      by_found : (found : Option X) → length (gathered f ds) ≤ length ds →
          length (with_some found (gathered f ds)) ≤ suc (length ds)
      by_found None few = omega (arith, few)
      by_found (Some x) few = omega (arith, few)
