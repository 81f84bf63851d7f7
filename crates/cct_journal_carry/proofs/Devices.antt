-- The devices of a setup in rising order of address show what they show in the setup's own order.
use Rattle.std.proofs.Common.{◌≡◌, ◌≢◌, ℕ, suc, ◌+◌, ◌<◌, ◌==◌, nat_le, Bool, true, false, cond, List, [], ◌∷◌, length, Option, Some, None, All, refl, ap, sym, ◌∙◌, arith, ne_eqb, eqb-true}
use Rattle.std.proofs.lemmas.Bool.Decides.{nat_tests}
use Rattle.std.proofs.lemmas.List.Elements.{All-head, All-tail}
use Rattle.cct_model.specs.terms.device.DeviceSetup.{DeviceSetup}
use Rattle.cct_model.specs.Exchange.{by_address, device_at, put_by_address}
use Rattle.cct_model.specs.Money.{sum_over}
use Rattle.cct_model.specs.Setup.{AreDistinct}
use Rattle.cct_laws.specs.Law.{AreRising}

-- one of two addresses that isn't at most the other is another
apart_by : (a b : ℕ) → nat_le a b ≡ false → a ≢ b
apart_by a b test same = grind (arith, nat_tests)

-- what devices show one by one, where two of different addresses may be reported in either order
module _ {A : Type 0} (told : List DeviceSetup → A) (once : DeviceSetup → A → A)
    (more : (d : DeviceSetup) (ds : List DeviceSetup) → told (d ∷ ds) ≡ once d (told ds))
    (swapped : (d e : DeviceSetup) (a : A) → d.addr ≢ e.addr → once e (once d a) ≡ once d (once e a)) where
  told_put : (d : DeviceSetup) (es : List DeviceSetup) → told (put_by_address d es) ≡ once d (told es)
  told_put d [] = more d []
  told_put d (e ∷ es) = by_test (nat_le d.addr e.addr) refl (told_put d es)
    where
      by_test : (low : Bool) → nat_le d.addr e.addr ≡ low → told (put_by_address d es) ≡ once d (told es) →
          told (cond low (d ∷ e ∷ es) (e ∷ put_by_address d es)) ≡ once d (told (e ∷ es))
      by_test true test later = more d (e ∷ es)
      by_test false test later =
          more e (put_by_address d es) ∙ ap (once e) later
          ∙ swapped d e (told es) (apart_by d.addr e.addr test) ∙ ap (once d) (sym (more e es))

  told_by_address : (ds : List DeviceSetup) → told (by_address ds) ≡ told ds
  told_by_address [] = refl
  told_by_address (d ∷ ds) =
      told_put d (by_address ds) ∙ ap (once d) (told_by_address ds) ∙ sym (more d ds)

-- the device at an address
abbrev found_once : ℕ → DeviceSetup → Option DeviceSetup → Option DeviceSetup
found_once addr d found = cond (d.addr == addr) (Some d) found

found_swapped : (addr : ℕ) (d e : DeviceSetup) (found : Option DeviceSetup) → d.addr ≢ e.addr →
    found_once addr e (found_once addr d found) ≡ found_once addr d (found_once addr e found)
found_swapped addr d e found apart = by_tests (d.addr == addr) (e.addr == addr) refl refl
  where
    by_tests : (first second : Bool) → (d.addr == addr) ≡ first → (e.addr == addr) ≡ second →
        cond second (Some e) (cond first (Some d) found) ≡ cond first (Some d) (cond second (Some e) found)
    by_tests true true first second =
        absurd (apart (eqb-true d.addr addr first ∙ sym (eqb-true e.addr addr second)))
    by_tests true false first second = refl
    by_tests false second first other = refl

-- is found wherever the devices stand
pub found_by_address : (devices : List DeviceSetup) (addr : ℕ) →
    device_at (by_address devices) addr ≡ device_at devices addr
found_by_address devices addr =
    told_by_address (λ ds. device_at ds addr) (found_once addr) (λ d ds. refl) (found_swapped addr) devices

-- a sum over them
pub sum_by_address : (f : DeviceSetup → ℕ) (devices : List DeviceSetup) →
    sum_over f (by_address devices) ≡ sum_over f devices
sum_by_address f devices =
    told_by_address (sum_over f) (λ d sum. f d + sum) (λ d ds. refl) (λ d e sum apart. omega arith) devices

-- how many they are
pub many_by_address : (devices : List DeviceSetup) → length (by_address devices) ≡ length devices
many_by_address devices = told_by_address length (λ d many. suc many) (λ d ds. refl) (λ d e many apart. refl) devices

-- where all devices are above an address, none has it
pub none_below : (addr : ℕ) (devices : List DeviceSetup) → All (λ e. addr < e.addr) devices →
    device_at devices addr ≡ None
none_below addr [] above = refl
none_below addr (d ∷ ds) above =
    ap (λ b. cond b (Some d) (device_at ds addr))
    (ne_eqb d.addr addr (other (All-head (λ e. addr < e.addr) d ds above)))
    ∙ none_below addr ds (All-tail (λ e. addr < e.addr) d ds above)
  where
    other : addr < d.addr → d.addr ≢ addr
    other higher same = omega (arith, higher, same)

-- so no two have the same
pub distinct_rising : (devices : List DeviceSetup) → AreRising devices → AreDistinct devices
distinct_rising [] rising = tt
distinct_rising (d ∷ ds) rising = (none_below d.addr ds rising.0, distinct_rising ds rising.1)
