-- What coins are worth.
use Rattle.std.proofs.Common.{◌≡◌, ℕ, zero, suc, ◌+◌, ◌-◌, ◌*◌, ◌≤◌, ◌==◌, Bool, true, false, cond, List, [], ◌∷◌, length, get_or, refl, ap, sym, ◌∙◌, Option, Some, None, All, arith, sum_by}
use Rattle.std.proofs.lemmas.List.Elements.{All-head, All-tail}
use Rattle.std.proofs.lemmas.List.Sums.{sum_by-cons}
use Rattle.std.proofs.lemmas.Nat.{mul-le}
use Rattle.cct_model.specs.terms.coin.Coin.{Coin}
use Rattle.cct_model.specs.terms.device.DeviceBody.{DeviceBody}
use Rattle.cct_model.specs.terms.device.DeviceBody.TheVariants.{Acceptor, Bill, Hopper}
use Rattle.cct_model.specs.terms.device.DeviceSetup.{DeviceSetup}
use Rattle.cct_model.specs.terms.device.Setup.{Setup}
use Rattle.cct_model.specs.Device.{IsSound, IsSoundBody, value_at}
use Rattle.cct_model.specs.Exchange.{device_at}
use Rattle.cct_model.specs.Money.{coins_of, coins_value, hopper_value, paid_value, place_value}

-- the value of coins is the sum of their values
pub coins_each : (found : Option DeviceSetup) (coins : List Coin) →
    coins_value found coins ≡ sum_by (λ coin. place_value found coin.place) coins
coins_each found [] = refl
coins_each found (coin ∷ coins) =
    ap (λ n. place_value found coin.place + n) (coins_each found coins)
    ∙ sym (sum_by-cons (λ (c : Coin). place_value found c.place) coin coins)

-- coins that no device took are worth nothing
pub coins_nowhere : (coins : List Coin) → coins_value None coins ≡ 0
coins_nowhere [] = refl
coins_nowhere (coin ∷ coins) =
    let rest = coins_nowhere coins in
    omega arith

-- what coins are worth at most, where each is worth so much at most
pub coins_most : (found : Option DeviceSetup) (coins : List Coin) (most : ℕ) →
    ((place : ℕ) → place_value found place ≤ most) → coins_value found coins ≤ most * length coins
coins_most found [] most each = omega arith
coins_most found (coin ∷ coins) most each =
    let here = each coin.place in
    let rest = coins_most found coins most each in
    omega arith

-- the values of a sound device are at most a million
index_most : (values : List ℕ) (i most : ℕ) → All (λ value. value ≤ most) values → get_or values i 0 ≤ most
index_most [] i most each = omega arith
index_most (v ∷ vs) zero most each = All-head (λ value. value ≤ most) v vs each
index_most (v ∷ vs) (suc i) most each = index_most vs i most (All-tail (λ value. value ≤ most) v vs each)

body_most : (body : DeviceBody) (place : ℕ) → IsSoundBody body → value_at body place ≤ 1000000
body_most (Acceptor accepts values ids) place sound =
    index_most values (place - 1) 1000000 sound.1
body_most (Hopper life value) place sound = omega arith
body_most (Bill accepts values ids) place sound =
    index_most values (place - 1) 1000000 sound.1

device_most : (d : DeviceSetup) (place : ℕ) → IsSound d → place_value (Some d) place ≤ 1000000
device_most d place sound = by_none (place == 0) (body_most d.body place sound.body)
  where
    by_none : (none : Bool) → value_at d.body place ≤ 1000000 → cond none 0 (value_at d.body place) ≤ 1000000
    by_none true most = omega arith
    by_none false most = most

pub values_most : (ds : List DeviceSetup) (addr place : ℕ) → All IsSound ds →
    place_value (device_at ds addr) place ≤ 1000000
values_most [] addr place sound = omega arith
values_most (d ∷ ds) addr place sound =
    by_here (d.addr == addr) (device_most d place (All-head IsSound d ds sound))
    (values_most ds addr place (All-tail IsSound d ds sound))
  where
    by_here : (here : Bool) → place_value (Some d) place ≤ 1000000 → place_value (device_at ds addr) place ≤ 1000000 →
        place_value (cond here (Some d) (device_at ds addr)) place ≤ 1000000
    by_here true own rest = own
    by_here false own rest = rest

-- so is that of a coin that a hopper of sound devices pays
paid_most : (body : DeviceBody) → IsSoundBody body → paid_value body ≤ 1000000
paid_most (Acceptor accepts values ids) sound = omega arith
paid_most (Hopper life value) sound = sound.2
paid_most (Bill accepts values ids) sound = omega arith

pub hoppers_most : (ds : List DeviceSetup) (addr : ℕ) → All IsSound ds → hopper_value (device_at ds addr) ≤ 1000000
hoppers_most [] addr sound = omega arith
hoppers_most (d ∷ ds) addr sound =
    by_here (d.addr == addr) (paid_most d.body (All-head IsSound d ds sound).body)
    (hoppers_most ds addr (All-tail IsSound d ds sound))
  where
    by_here : (here : Bool) → hopper_value (Some d) ≤ 1000000 → hopper_value (device_at ds addr) ≤ 1000000 →
        hopper_value (cond here (Some d) (device_at ds addr)) ≤ 1000000
    by_here true own rest = own
    by_here false own rest = rest

-- what so many coins of a hopper are worth at most
pub worth_most : (setup : Setup) (addr count most : ℕ) → All IsSound setup.devices → count ≤ most
    → coins_of setup addr count ≤ most * 1000000
worth_most setup addr count most sound few =
    let each = hoppers_most setup.devices addr sound in
    mul-le count (hopper_value (device_at setup.devices addr)) most 1000000 few each
