-- By address, the devices of a setup are the same devices, rising.
use Rattle.std.proofs.Common.{◌≡◌, ◌≢◌, ℕ, ◌<◌, ◌==◌, nat_le, Bool, true, false, cond, List, [], ◌∷◌, None, Some, All, refl, arith}
use Rattle.std.specs.List.Sorted.{IsPermutation}
use Rattle.std.proofs.lemmas.Bool.Decides.{nat_tests}
use Rattle.std.proofs.lemmas.List.Elements.{All-cons, All-head, All-nil, All-tail, All-weaker}
use Rattle.std.proofs.lemmas.List.Sorted.{All-permutation, IsPermutation-cons, IsPermutation-middle, IsPermutation-refl, IsPermutation-trans}
use Rattle.cct_model.specs.terms.device.DeviceSetup.{DeviceSetup}
use Rattle.cct_model.specs.terms.device.Setup.{Setup}
use Rattle.cct_model.specs.Exchange.{by_address, device_at, put_by_address}
use Rattle.cct_model.specs.Setup.{AreDistinct, IsSoundSetup}
use Rattle.cct_laws.specs.Law.{AreRising}

-- a device put in its place stands among the same devices
put_same : (d : DeviceSetup) (es : List DeviceSetup) → IsPermutation (d ∷ es) (put_by_address d es)
put_same d [] = IsPermutation-refl (d ∷ [])
put_same d (e ∷ es) = by_test (nat_le d.addr e.addr) (put_same d es)
  where
    by_test : (low : Bool) → IsPermutation (d ∷ es) (put_by_address d es) →
        IsPermutation (d ∷ e ∷ es) (cond low (d ∷ e ∷ es) (e ∷ put_by_address d es))
    by_test true later = IsPermutation-refl (d ∷ e ∷ es)
    by_test false later =
        IsPermutation-trans (d ∷ e ∷ es) (e ∷ d ∷ es) (e ∷ put_by_address d es)
        (IsPermutation-middle (d ∷ []) e es)
        (IsPermutation-cons e (d ∷ es) (put_by_address d es) later)

pub same_devices : (devices : List DeviceSetup) → IsPermutation devices (by_address devices)
same_devices [] = IsPermutation-refl []
same_devices (d ∷ ds) =
    IsPermutation-trans (d ∷ ds) (d ∷ by_address ds) (put_by_address d (by_address ds))
    (IsPermutation-cons d ds (by_address ds) (same_devices ds)) (put_same d (by_address ds))

-- and where no other has its address, they rise as before
strictly : (a b : ℕ) → nat_le a b ≡ true → b ≢ a → a < b
strictly a b test apart = grind (arith, nat_tests)

above : (a b : ℕ) → nat_le a b ≡ false → b < a
above a b test = grind (arith, nat_tests)

further : (a b c : ℕ) → a < b → b < c → a < c
further a b c first second = omega (arith, first, second)

put_rises : (d : DeviceSetup) (es : List DeviceSetup) → All (λ e. e.addr ≢ d.addr) es → AreRising es →
    AreRising (put_by_address d es)
put_rises d [] apart rising = (All-nil (λ e. d.addr < e.addr), tt)
put_rises d (e ∷ es) apart rising =
    by_test (nat_le d.addr e.addr) refl
    (put_rises d es (All-tail (λ f. f.addr ≢ d.addr) e es apart) rising.1)
  where
    by_test : (low : Bool) → nat_le d.addr e.addr ≡ low → AreRising (put_by_address d es) →
        AreRising (cond low (d ∷ e ∷ es) (e ∷ put_by_address d es))
    by_test true test later =
        let first = strictly d.addr e.addr test (All-head (λ f. f.addr ≢ d.addr) e es apart) in (
          All-cons (λ f. d.addr < f.addr) e es first
              (All-weaker (λ f. e.addr < f.addr) (λ f. d.addr < f.addr)
              (λ f higher. further d.addr e.addr f.addr first higher) es rising.0),
          rising,
        )
    by_test false test later = (
      All-permutation (λ f. e.addr < f.addr) (d ∷ es) (put_by_address d es) (put_same d es)
          (All-cons (λ f. e.addr < f.addr) d es (above d.addr e.addr test) rising.0),
      later,
    )

-- a device has no address that no device has
none_there : (devices : List DeviceSetup) (addr : ℕ) → device_at devices addr ≡ None →
    All (λ e. e.addr ≢ addr) devices
none_there [] addr none = All-nil (λ e. e.addr ≢ addr)
none_there (d ∷ ds) addr none = by_test (d.addr == addr) refl none (none_there ds addr)
  where
    other : (d.addr == addr) ≡ false → d.addr ≢ addr
    other test = grind (arith, nat_tests)

    by_test : (here : Bool) → (d.addr == addr) ≡ here → cond here (Some d) (device_at ds addr) ≡ None →
        (device_at ds addr ≡ None → All (λ e. e.addr ≢ addr) ds) → All (λ e. e.addr ≢ addr) (d ∷ ds)
    by_test true test none later = absurd cc
    by_test false test none later = All-cons (λ e. e.addr ≢ addr) d ds (other test) (later none)

rising_of : (devices : List DeviceSetup) → AreDistinct devices → AreRising (by_address devices)
rising_of [] distinct = tt
rising_of (d ∷ ds) distinct =
    put_rises d (by_address ds)
    (All-permutation (λ e. e.addr ≢ d.addr) ds (by_address ds) (same_devices ds) (none_there ds d.addr distinct.0))
    (rising_of ds distinct.1)

pub devices_rise : (setup : Setup) → IsSoundSetup setup → AreRising (by_address setup.devices)
devices_rise setup sound = rising_of setup.devices sound.distinct
