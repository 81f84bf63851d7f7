-- How many trays aren't empty, of all and of those at other addresses, over another stock and over a payment.
use Rattle.std.proofs.Common.{◌≡◌, ℕ, zero, suc, ◌+◌, ◌*◌, ◌<◌, ◌≤◌, ◌==◌, Bool, true, false, cond, List, [], ◌∷◌, ◌++◌, refl, ap, sym, subst, Option, Some, All, arith, eq-eqb, eqb-true}
use Rattle.std.proofs.lemmas.Bool.Decides.{nat_tests}
use Rattle.std.proofs.lemmas.List.Elements.{All-head, All-tail}
use Rattle.cct_model.specs.terms.device.DeviceBody.{DeviceBody}
use Rattle.cct_model.specs.terms.device.DeviceBody.TheVariants.{Acceptor, Bill, Hopper}
use Rattle.cct_model.specs.terms.device.DeviceSetup.{DeviceSetup}
use Rattle.cct_model.specs.terms.device.Setup.{Setup}
use Rattle.cct_model.specs.declared.change.Tray.{Tray}
use Rattle.cct_model.specs.Change.{clear_desk, first_pay, restocked, tray_of, trays_of}
use Rattle.cct_model.specs.Exchange.{by_address}
use Rattle.cct_model.specs.Plan.{AreWithin}
use Rattle.cct_model.specs.Setup.{IsSoundSetup}
use Rattle.cct_laws.specs.Law.{AreRising}
use Rattle.cct_laws.proofs.setups.Rising.{devices_rise}
use Rattle.cct_laws_change.specs.Tally.{filled_in, one_filled}
use Rattle.cct_laws_change.proofs.Counted.{same_some}

-- one for a tray at an address, and what counts of one at another
abbrev pub one_here : Bool → ℕ
one_here true = 1
one_here false = 0

abbrev other_than : Bool → ℕ → ℕ
other_than true n = 0
other_than false n = n

-- how many trays stand at an address
abbrev pub trays_at : ℕ → List Tray → ℕ
trays_at addr [] = 0
trays_at addr (t ∷ ts) = one_here (t.addr == addr) + trays_at addr ts

-- how many trays at other addresses aren't empty
abbrev pub filled_beside : ℕ → List Tray → ℕ
filled_beside addr [] = 0
filled_beside addr (t ∷ ts) = other_than (t.addr == addr) (one_filled t.stock) + filled_beside addr ts

one_at_most : (stock : ℕ) → one_filled stock ≤ 1
one_at_most zero = omega arith
one_at_most (suc n) = omega arith

one_where_some : (stock : ℕ) → 1 ≤ stock → one_filled stock ≡ 1
one_where_some zero some = omega (arith, some)
one_where_some (suc n) some = refl

-- a tray that gets another stock
abbrev pub refilled : Bool → (ℕ → ℕ) → Tray → Tray
refilled here becomes t = cond here (record { addr = t.addr; value = t.value; stock = becomes t.stock }) t

refilled_addr : (here : Bool) (becomes : ℕ → ℕ) (t : Tray) → (refilled here becomes t).addr ≡ t.addr
refilled_addr true becomes t = refl
refilled_addr false becomes t = refl

-- it changes no address
pub restocked_at : (other addr : ℕ) (becomes : ℕ → ℕ) (trays : List Tray) →
    trays_at other (restocked addr becomes trays) ≡ trays_at other trays
restocked_at other addr becomes [] = refl
restocked_at other addr becomes (t ∷ ts) =
    let same = ap (λ a. one_here (a == other)) (refilled_addr (t.addr == addr) becomes t) in
    let later = restocked_at other addr becomes ts in
    omega (arith, same, later)

-- all that aren't empty are those at other addresses, and at most those that stand there
pub beside_most : (addr : ℕ) (trays : List Tray) → filled_beside addr trays ≤ filled_in trays
beside_most addr [] = omega arith
beside_most addr (t ∷ ts) = by_test (t.addr == addr) (beside_most addr ts)
  where
    by_test : (here : Bool) → filled_beside addr ts ≤ filled_in ts →
        other_than here (one_filled t.stock) + filled_beside addr ts ≤ one_filled t.stock + filled_in ts
    by_test true later = omega (arith, later)
    by_test false later = omega (arith, later)

pub filled_most : (addr : ℕ) (trays : List Tray) → filled_in trays ≤ filled_beside addr trays + trays_at addr trays
filled_most addr [] = omega arith
filled_most addr (t ∷ ts) = by_test (t.addr == addr) (filled_most addr ts)
  where
    by_test : (here : Bool) → filled_in ts ≤ filled_beside addr ts + trays_at addr ts →
        one_filled t.stock + filled_in ts
        ≤ other_than here (one_filled t.stock) + filled_beside addr ts + (one_here here + trays_at addr ts)
    by_test true later = let one = one_at_most t.stock in omega (arith, later, one)
    by_test false later = omega (arith, later)

-- another stock at the address changes none of the others; and where it is none, these are all that aren't empty
pub beside_restocked : (addr : ℕ) (becomes : ℕ → ℕ) (trays : List Tray) →
    filled_beside addr (restocked addr becomes trays) ≡ filled_beside addr trays
beside_restocked addr becomes [] = refl
beside_restocked addr becomes (t ∷ ts) = by_test (t.addr == addr) refl (beside_restocked addr becomes ts)
  where
    by_test : (here : Bool) → (t.addr == addr) ≡ here →
        filled_beside addr (restocked addr becomes ts) ≡ filled_beside addr ts →
        other_than ((refilled here becomes t).addr == addr) (one_filled (refilled here becomes t).stock)
        + filled_beside addr (restocked addr becomes ts)
        ≡ other_than (t.addr == addr) (one_filled t.stock) + filled_beside addr ts
    by_test true test later = rw test (omega (arith, later))
    by_test false test later = omega (arith, later)

pub emptied : (addr : ℕ) (becomes : ℕ → ℕ) (trays : List Tray) → ((n : ℕ) → becomes n ≡ 0) →
    filled_in (restocked addr becomes trays) ≡ filled_beside addr trays
emptied addr becomes [] none = refl
emptied addr becomes (t ∷ ts) none = by_test (t.addr == addr) (emptied addr becomes ts none)
  where
    by_test : (here : Bool) → filled_in (restocked addr becomes ts) ≡ filled_beside addr ts →
        one_filled (refilled here becomes t).stock + filled_in (restocked addr becomes ts)
        ≡ other_than here (one_filled t.stock) + filled_beside addr ts
    by_test true later = let is = ap one_filled (none t.stock) in omega (arith, is, later)
    by_test false later = omega (arith, later)

-- a stock that is reported fills at most the trays that stand there
abbrev pub told_stock : ℕ → ℕ → ℕ
told_stock count before = count

pub filled_restocked : (addr count : ℕ) (trays : List Tray) →
    filled_in (restocked addr (told_stock count) trays) ≤ filled_in trays + one_filled count * trays_at addr trays
filled_restocked addr count [] = omega arith
filled_restocked addr count (t ∷ ts) = by_test (t.addr == addr) (filled_restocked addr count ts)
  where
    by_test : (here : Bool) →
        filled_in (restocked addr (told_stock count) ts) ≤ filled_in ts + one_filled count * trays_at addr ts →
        one_filled (refilled here (told_stock count) t).stock + filled_in (restocked addr (told_stock count) ts)
        ≤ one_filled t.stock + filled_in ts + one_filled count * (one_here here + trays_at addr ts)
    by_test true later = grind (arith, later)
    by_test false later = omega (arith, later)

pub beside_refilled : (other addr count : ℕ) (trays : List Tray) →
    filled_beside other (restocked addr (told_stock count) trays)
    ≤ filled_beside other trays + one_filled count * trays_at addr trays
beside_refilled other addr count [] = omega arith
beside_refilled other addr count (t ∷ ts) = by_tests (t.addr == addr) (t.addr == other) refl (beside_refilled other addr count ts)
  where
    by_tests : (here there : Bool) → (t.addr == other) ≡ there →
        filled_beside other (restocked addr (told_stock count) ts)
        ≤ filled_beside other ts + one_filled count * trays_at addr ts →
        other_than ((refilled here (told_stock count) t).addr == other) (one_filled (refilled here (told_stock count) t).stock)
        + filled_beside other (restocked addr (told_stock count) ts)
        ≤ other_than (t.addr == other) (one_filled t.stock) + filled_beside other ts
        + one_filled count * (one_here here + trays_at addr ts)
    by_tests true true test later = rw test (grind (arith, later))
    by_tests true false test later = rw test (grind (arith, later))
    by_tests false true test later = omega (arith, later)
    by_tests false false test later = omega (arith, later)

-- a payment is of a tray that isn't empty
pub pays_filled : (trays : List Tray) (counts : List ℕ) (addr count : ℕ) → AreWithin trays counts →
    first_pay trays counts ≡ Some (addr, count) → (filled_beside addr trays + 1 ≤ filled_in trays) × (1 ≤ count)
pays_filled [] counts addr count within is = absurd cc
pays_filled (t ∷ ts) [] addr count within is = absurd cc
pays_filled (t ∷ ts) (c ∷ cs) addr count within is =
    by_test (c == 0) refl is (pays_filled ts cs addr count within.1)
  where
    some_of : (c == 0) ≡ false → 1 ≤ c
    some_of test = grind (arith, nat_tests)

    later_too : filled_beside addr ts + 1 ≤ filled_in ts → filled_beside addr (t ∷ ts) + 1 ≤ filled_in (t ∷ ts)
    later_too later = by_place (t.addr == addr) later
      where
        by_place : (here : Bool) → filled_beside addr ts + 1 ≤ filled_in ts →
            other_than here (one_filled t.stock) + filled_beside addr ts + 1 ≤ one_filled t.stock + filled_in ts
        by_place true later = omega (arith, later)
        by_place false later = omega (arith, later)

    here_is : (a : ℕ) → t.addr ≡ a → 1 ≤ c → filled_beside a (t ∷ ts) + 1 ≤ filled_in (t ∷ ts)
    here_is a same some =
        let stocked = within.0 in
        let one = one_where_some t.stock (omega (arith, stocked, some)) in
        let others = beside_most a ts in
        rw (eq-eqb t.addr a same) (omega (arith, one, others))

    by_test : (none : Bool) → (c == 0) ≡ none →
        ◌≡◌ {A = Option (ℕ × ℕ)} (cond none (first_pay ts cs) (Some (t.addr, c))) (Some (addr, count)) →
        (first_pay ts cs ≡ Some (addr, count) → (filled_beside addr ts + 1 ≤ filled_in ts) × (1 ≤ count)) →
        (filled_beside addr (t ∷ ts) + 1 ≤ filled_in (t ∷ ts)) × (1 ≤ count)
    by_test true test is later = let rest = later is in (later_too rest.0, rest.1)
    by_test false test is later =
        let pair = same_some {A = ℕ × ℕ} (t.addr, c) (addr, count) is in
        let addresses : t.addr ≡ addr = ap {A = ℕ × ℕ} (λ x. x.0) pair in
        let counts : c ≡ count = ap {A = ℕ × ℕ} (λ x. x.1) pair in
        let some = some_of test in
        (here_is addr addresses some, omega (arith, counts, some))

-- no two trays stand at one address
abbrev pub AreSingle : List Tray → Type 0
AreSingle trays = (addr : ℕ) → trays_at addr trays ≤ 1

pub restocked_single : (addr : ℕ) (becomes : ℕ → ℕ) (trays : List Tray) → AreSingle trays →
    AreSingle (restocked addr becomes trays)
restocked_single addr becomes trays single other =
    subst (λ n. n ≤ 1) (sym (restocked_at other addr becomes trays)) (single other)

-- so it is of the trays of a desk at which nothing was done
tray_single : (addr other : ℕ) (body : DeviceBody) (rest : List Tray) →
    trays_at other (tray_of addr body ++ rest) ≤ one_here (addr == other) + trays_at other rest
tray_single addr other (Acceptor accepts values ids) rest = omega arith
tray_single addr other (Hopper life value) rest = omega arith
tray_single addr other (Bill accepts values ids) rest = omega arith

none_above : (addr : ℕ) (devices : List DeviceSetup) → All (λ d. addr < d.addr) devices →
    trays_at addr (trays_of devices) ≤ 0
none_above addr [] above = omega arith
none_above addr (d ∷ ds) above =
    let later = none_above addr ds (All-tail (λ d. addr < d.addr) d ds above) in
    let few = tray_single d.addr addr d.body (trays_of ds) in
    let other = none_here (All-head (λ d. addr < d.addr) d ds above) in
    omega (arith, later, few, other)
  where
    differs : addr < d.addr → (d.addr == addr) ≡ false
    differs higher = grind (arith, nat_tests)

    none_here : addr < d.addr → one_here (d.addr == addr) ≡ 0
    none_here higher = ap one_here (differs higher)

trays_single : (devices : List DeviceSetup) → AreRising devices → AreSingle (trays_of devices)
trays_single [] rising addr = omega arith
trays_single (d ∷ ds) rising addr =
    by_test (d.addr == addr) refl (trays_single ds rising.1 addr) (tray_single d.addr addr d.body (trays_of ds))
  where
    by_test : (here : Bool) → (d.addr == addr) ≡ here → trays_at addr (trays_of ds) ≤ 1 →
        trays_at addr (trays_of (d ∷ ds)) ≤ one_here here + trays_at addr (trays_of ds) →
        trays_at addr (trays_of (d ∷ ds)) ≤ 1
    by_test true test later few =
        let none = subst (λ a. trays_at a (trays_of ds) ≤ 0) (eqb-true d.addr addr test) (none_above d.addr ds rising.0) in
        omega (arith, few, none)
    by_test false test later few = omega (arith, few, later)

pub clear_single : (setup : Setup) → IsSoundSetup setup → AreSingle (clear_desk setup).trays
clear_single setup sound = trays_single (by_address setup.devices) (devices_rise setup sound)
