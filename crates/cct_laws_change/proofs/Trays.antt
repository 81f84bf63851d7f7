-- The trays of a desk are hoppers of the setup, each with its value; and what a plan pays first is a payment that one of
-- them can be asked for.
use Rattle.std.proofs.Common.{◌≡◌, ℕ, ◌+◌, ◌*◌, ◌≤◌, ◌==◌, Bool, true, false, cond, List, [], ◌∷◌, ◌++◌, refl, ap, sym, ◌∙◌, subst, Option, Some, None, inl, inr, All, arith, eq-eqb, eqb-true}
use Rattle.std.specs.Prelude.{⊤}
use Rattle.std.proofs.lemmas.Bool.{cases_Bool, cond-false, cond-true, ne_eqb}
use Rattle.std.proofs.lemmas.List.Elements.{All-cons, All-head, All-nil, All-tail, All-weaker}
use Rattle.std.proofs.lemmas.List.Sorted.{All-permutation}
use Rattle.cct_model.specs.terms.device.DeviceBody.{DeviceBody}
use Rattle.cct_model.specs.terms.device.DeviceBody.TheVariants.{Acceptor, Bill, Hopper}
use Rattle.cct_model.specs.terms.device.DeviceSetup.{DeviceSetup}
use Rattle.cct_model.specs.terms.device.Setup.{Setup}
use Rattle.cct_model.specs.declared.change.Tray.{Tray}
use Rattle.cct_model.specs.Change.{clear_desk, first_pay, restocked, tray_of, trays_of, value_in}
use Rattle.cct_model.specs.Device.{IsHopper}
use Rattle.cct_model.specs.Exchange.{by_address, device_at}
use Rattle.cct_model.specs.Money.{coins_of, hopper_value, paid_value}
use Rattle.cct_model.specs.Plan.{worth}
use Rattle.cct_model.specs.Setup.{AreDistinct, IsSoundSetup}
use Rattle.cct_model.proofs.Addresses.{address_there}
use Rattle.cct_laws_change.proofs.Counted.{same_some}
use Rattle.cct_laws.proofs.setups.Rising.{same_devices}

-- a hopper of the setup has this address
pub record IsHopperAt (setup : Setup) (addr : ℕ) : Type 0 where
  pub device : DeviceSetup
  pub found : device_at setup.devices addr ≡ Some device
  pub hopper : IsHopper device.body

pub address_is : (setup : Setup) (addr : ℕ) (h : IsHopperAt setup addr) → h.device.addr ≡ addr
address_is setup addr h = address_there setup.devices addr h.device h.found

-- it is the device of the setup at its own address
pub is_own : (setup : Setup) (addr : ℕ) (h : IsHopperAt setup addr) →
    device_at setup.devices h.device.addr ≡ Some h.device
is_own setup addr h = ap (device_at setup.devices) (address_is setup addr h) ∙ h.found

-- a tray is that of a hopper, and has its value
pub record IsTrayOf (setup : Setup) (t : Tray) : Type 0 where
  pub hopper : IsHopperAt setup t.addr
  pub value_is : t.value ≡ hopper_value (device_at setup.devices t.addr)

abbrev pub AreTrays : Setup → List Tray → Type 0
AreTrays setup [] = ⊤
AreTrays setup (t ∷ ts) = IsTrayOf setup t × AreTrays setup ts

-- another stock changes neither
pub restocked_trays : (setup : Setup) (addr : ℕ) (becomes : ℕ → ℕ) (trays : List Tray) → AreTrays setup trays →
    AreTrays setup (restocked addr becomes trays)
restocked_trays setup addr becomes [] are = tt
restocked_trays setup addr becomes (t ∷ ts) are =
    (by_test (t.addr == addr) are.0, restocked_trays setup addr becomes ts are.1)
  where
    by_test : (here : Bool) → IsTrayOf setup t →
        IsTrayOf setup (cond here (record { addr = t.addr; value = t.value; stock = becomes t.stock }) t)
    by_test true is = record { hopper = is.hopper; value_is = is.value_is }
    by_test false is = is

pub restocked_value : (addr : ℕ) (becomes : ℕ → ℕ) (trays : List Tray) (other : ℕ) →
    value_in (restocked addr becomes trays) other ≡ value_in trays other
restocked_value addr becomes [] other = refl
restocked_value addr becomes (t ∷ ts) other =
    by_test (t.addr == addr) ∙ ap (cond (t.addr == other) t.value) (restocked_value addr becomes ts other)
  where
    by_test : (here : Bool) →
        value_in (cond here (record { addr = t.addr; value = t.value; stock = becomes t.stock }) t
        ∷ restocked addr becomes ts) other
        ≡ cond (t.addr == other) t.value (value_in (restocked addr becomes ts) other)
    by_test true = refl
    by_test false = refl

-- what a plan pays first: a hopper is there, the desk knows its value, and its coins are part of what the plan is worth
pub record IsFirst (setup : Setup) (trays : List Tray) (amount addr count : ℕ) : Type 0 where
  pub hopper : IsHopperAt setup addr
  pub fits : coins_of setup addr count ≤ amount
  pub value_is : value_in trays addr ≡ hopper_value (device_at setup.devices addr)

first_later : (setup : Setup) (t : Tray) (ts : List Tray) (amount addr count : ℕ) → IsTrayOf setup t →
    IsFirst setup ts amount addr count → IsFirst setup (t ∷ ts) (0 * t.value + amount) addr count
first_later setup t ts amount addr count is first = record {
  hopper = first.hopper;
  fits = let fits = first.fits in omega (arith, fits);
  value_is = elim (cases_Bool (t.addr == addr)) [
    | inl here ↦
        cond-true (t.addr == addr) t.value (value_in ts addr) here
        ∙ is.value_is ∙ ap (λ a. hopper_value (device_at setup.devices a)) (eqb-true t.addr addr here)
    | inr other ↦ cond-false (t.addr == addr) t.value (value_in ts addr) other ∙ first.value_is
  ];
}

first_here : (setup : Setup) (t : Tray) (ts : List Tray) (rest count addr : ℕ) → IsTrayOf setup t → t.addr ≡ addr →
    IsFirst setup (t ∷ ts) (count * t.value + rest) addr count
first_here setup t ts rest count addr is same =
    subst (λ a. IsFirst setup (t ∷ ts) (count * t.value + rest) a count) same (record {
      hopper = is.hopper;
      fits =
          let value = ap (λ v. count * v) is.value_is in
          subst (λ n. n ≤ count * t.value + rest) value (omega arith);
      value_is = cond-true (t.addr == t.addr) t.value (value_in ts t.addr) (eq-eqb t.addr t.addr refl) ∙ is.value_is;
    })

pub first_is : (setup : Setup) (trays : List Tray) (counts : List ℕ) (addr count : ℕ) → AreTrays setup trays →
    first_pay trays counts ≡ Some (addr, count) → IsFirst setup trays (worth trays counts) addr count
first_is setup [] counts addr count are is = absurd cc
first_is setup (t ∷ ts) [] addr count are is = absurd cc
first_is setup (t ∷ ts) (c ∷ cs) addr count are is =
    by_test (c == 0) refl is (first_is setup ts cs addr count are.1)
  where
    by_test : (none : Bool) → (c == 0) ≡ none →
        ◌≡◌ {A = Option (ℕ × ℕ)} (cond none (first_pay ts cs) (Some (t.addr, c))) (Some (addr, count)) →
        (first_pay ts cs ≡ Some (addr, count) → IsFirst setup ts (worth ts cs) addr count) →
        IsFirst setup (t ∷ ts) (c * t.value + worth ts cs) addr count
    by_test true test later first =
        subst (λ n. IsFirst setup (t ∷ ts) (n * t.value + worth ts cs) addr count) (sym (eqb-true c 0 test))
        (first_later setup t ts (worth ts cs) addr count are.0 (first later))
    by_test false test same first =
        let pair = same_some {A = ℕ × ℕ} (t.addr, c) (addr, count) same in
        subst (λ n. IsFirst setup (t ∷ ts) (c * t.value + worth ts cs) addr n) (ap {A = ℕ × ℕ} (λ x. x.1) pair)
        (first_here setup t ts (worth ts cs) c addr are.0 (ap {A = ℕ × ℕ} (λ x. x.0) pair))

-- the trays of a desk at which nothing was done are those of the setup's hoppers
tray_is : (setup : Setup) (d : DeviceSetup) (body : DeviceBody) (rest : List Tray) → d.body ≡ body →
    device_at setup.devices d.addr ≡ Some d → AreTrays setup rest → AreTrays setup (tray_of d.addr body ++ rest)
tray_is setup d (Acceptor accepts values ids) rest is own are = are
tray_is setup d (Hopper life value) rest is own are = (
  record {
    hopper = record { device = d; found = own; hopper = subst IsHopper (sym is) tt };
    value_is = sym (ap hopper_value own ∙ ap paid_value is);
  },
  are,
)
tray_is setup d (Bill accepts values ids) rest is own are = are

trays_are : (setup : Setup) (devices : List DeviceSetup) → All (λ d. device_at setup.devices d.addr ≡ Some d) devices →
    AreTrays setup (trays_of devices)
trays_are setup [] own = tt
trays_are setup (d ∷ ds) own =
    tray_is setup d d.body (trays_of ds) refl (All-head (λ d. device_at setup.devices d.addr ≡ Some d) d ds own)
    (trays_are setup ds (All-tail (λ d. device_at setup.devices d.addr ≡ Some d) d ds own))

-- each device of a sound setup is the one at its address
still_there : (d e : DeviceSetup) (ds : List DeviceSetup) → device_at ds d.addr ≡ None → device_at ds e.addr ≡ Some e →
    cond (d.addr == e.addr) (Some d) (device_at ds e.addr) ≡ Some e
still_there d e ds none found =
    cond-false (d.addr == e.addr) (Some d) (device_at ds e.addr) (ne_eqb d.addr e.addr apart) ∙ found
  where
    apart : d.addr ≡ e.addr → ⊥
    apart same = let both : device_at ds e.addr ≡ None = ap (device_at ds) (sym same) ∙ none in absurd cc

each_own : (devices : List DeviceSetup) → AreDistinct devices → All (λ d. device_at devices d.addr ≡ Some d) devices
each_own [] distinct = All-nil (λ d. device_at [] d.addr ≡ Some d)
each_own (d ∷ ds) distinct =
    All-cons (λ e. device_at (d ∷ ds) e.addr ≡ Some e) d ds
    (cond-true (d.addr == d.addr) (Some d) (device_at ds d.addr) (eq-eqb d.addr d.addr refl))
    (All-weaker (λ e. device_at ds e.addr ≡ Some e) (λ e. device_at (d ∷ ds) e.addr ≡ Some e)
    (λ e found. still_there d e ds distinct.0 found) ds (each_own ds distinct.1))

pub clear_trays : (setup : Setup) → IsSoundSetup setup → AreTrays setup (clear_desk setup).trays
clear_trays setup sound =
    trays_are setup (by_address setup.devices)
    (All-permutation (λ d. device_at setup.devices d.addr ≡ Some d) setup.devices (by_address setup.devices)
    (same_devices setup.devices) (each_own setup.devices sound.distinct))
