-- The table of places shows the place of each device of a setup.
use Rattle.std.proofs.Common.{◌≡◌, ℕ, zero, suc, ◌+◌, ◌<◌, ◌==◌, nat_lt, ◌≢◌, ◌⊎◌, inl, inr, eq-eqb, eqb-true, Bool, true, false, not, cond, List, [], ◌∷◌, ◌++◌, length, map, set, drop, get_or, replicate, Option, Some, None, refl, sym, ap, ◌∙◌, arith}
use Rattle.std.specs.Prelude.{slice_get}
use Rattle.std.specs.List.{position, position_or_len, refill}
use Rattle.std.specs.Option.{option_map, option_or}
use Rattle.std.proofs.lemmas.Bool.{cases_eq, ne_eqb}
use Rattle.std.proofs.lemmas.Bool.Decides.{nat_tests}
use Rattle.std.proofs.lemmas.List.{take_at, get_or-replicate, get_or-set_other, get_or-set_same, length-replicate, length-set}
use Rattle.std.proofs.lemmas.List.FromFn.{fill_by_all, get_or-map-range_with_len, length-map-range_with_len}
use Rattle.std.proofs.lemmas.List.Quantifiers.{position-Some}
use Rattle.std.proofs.lemmas.Option.{slice_get-get_or}
use Rattle.cct_model_wire.specs.declared.device.DeviceSetup.{DeviceSetup}
use Rattle.cct_model_wire.specs.Exchange.{device_at}
use Rattle.cct_model_wire.specs.Places.{is_at, places_of}
use Rattle.cct_model_wire.proofs.Replaced.{renewed}

-- the position of a list with one element more in front
below_one : (stops : Bool) (i n : ℕ) →
    cond (nat_lt (cond (not stops) (1 + i) 0) (suc n)) (Some (cond (not stops) (1 + i) 0)) None
    ≡ cond stops (Some 0) (option_map suc (cond (nat_lt i n) (Some i) None))
below_one true i n =
    let below : nat_lt 0 (suc n) ≡ true = grind (arith, nat_tests) in
    ap (λ b. cond b (Some 0) None) below
below_one false i n = by_test (nat_lt i n) (nat_lt (1 + i) (suc n)) (grind (arith, nat_tests))
  where
    by_test : (below next : Bool) → next ≡ below →
        cond next (Some (1 + i)) None ≡ option_map suc (cond below (Some i) None)
    by_test true true same = ap Some (omega arith)
    by_test true false same = absurd cc
    by_test false true same = absurd cc
    by_test false false same = refl

pub position_cons : {X : Type 0} (p : X → Bool) (d : X) (ds : List X) →
    position p (d ∷ ds) ≡ cond (p d) (Some 0) (option_map suc (position p ds))
position_cons p d ds = below_one (p d) (position_or_len p ds) (length ds)

pub position_more : {X : Type 0} (p : X → Bool) (ds : List X) (d : X) →
    position p (ds ++ d ∷ []) ≡ option_or (position p ds) (cond (p d) (Some (length ds)) None)
position_more p [] d = position_cons p d []
position_more p (e ∷ ds) d =
    position_cons p e (ds ++ d ∷ []) ∙ ap (λ r. cond (p e) (Some 0) (option_map suc r)) (position_more p ds d)
    ∙ by_test (p e) (position p ds) (p d) ∙ ap (λ r. option_or r (cond (p d) (Some (length (e ∷ ds))) None)) (sym (position_cons p e ds))
  where
    by_test : (here : Bool) (before : Option ℕ) (last : Bool) →
        cond here (Some 0) (option_map suc (option_or before (cond last (Some (length ds)) None)))
        ≡ option_or (cond here (Some 0) (option_map suc before)) (cond last (Some (suc (length ds))) None)
    by_test true before last = refl
    by_test false (Some i) last = refl
    by_test false None true = refl
    by_test false None false = refl

-- the table at an address
pub place_at : (ds : List DeviceSetup) (addr : ℕ) → addr < 256 → get_or (places_of ds) addr None ≡ position (is_at addr) ds
unfolding places_of
place_at ds addr within =
    get_or-map-range_with_len (λ a. position (is_at a) ds) 0 256 addr addr None within (omega arith)

-- a table that shows each place is the one of the devices
pub table_is : (table : List (Option ℕ)) (ds : List DeviceSetup) → length table ≡ 256 →
    ((addr : ℕ) → addr < 256 → get_or table addr None ≡ position (is_at addr) ds) → table ≡ places_of ds
unfolding places_of
table_is table ds whole tells = fill_by_all (λ a. position (is_at a) ds) table 256 None whole tells

pub length_of : (ds : List DeviceSetup) → length (places_of ds) ≡ 256
unfolding places_of
length_of ds = length-map-range_with_len (λ a. position (is_at a) ds) 0 256

abbrev pub nowhere : Option ℕ
nowhere = None

-- no device has no place
pub no_place : replicate 256 nowhere ≡ places_of []
no_place =
    table_is (replicate 256 nowhere) [] (length-replicate 256 nowhere)
    (λ addr within. get_or-replicate 256 addr nowhere nowhere within)

none_more : (r : Option ℕ) → option_or r None ≡ r
none_more (Some i) = refl
none_more None = refl

-- one device more takes the place after the others, if none is at its address
pub placed_more : (ds : List DeviceSetup) (d : DeviceSetup) → d.addr < 256 →
    set (places_of ds) d.addr (option_or (get_or (places_of ds) d.addr None) (Some (length ds))) ≡ places_of (ds ++ d ∷ [])
placed_more ds d low =
    table_is _ (ds ++ d ∷ []) (length-set (places_of ds) d.addr _ ∙ length_of ds)
    (λ addr within. at addr within (cases_eq addr d.addr) ∙ sym (position_more (is_at addr) ds d))
  where
    first : Option ℕ
    first = option_or (get_or (places_of ds) d.addr None) (Some (length ds))

    at : (addr : ℕ) → addr < 256 → (addr ≡ d.addr) ⊎ (addr ≢ d.addr) →
        get_or (set (places_of ds) d.addr first) addr None
        ≡ option_or (position (is_at addr) ds) (cond (is_at addr d) (Some (length ds)) None)
    at addr within (inl here) =
        ap (λ a. get_or (set (places_of ds) d.addr first) a None) here
        ∙ get_or-set_same (places_of ds) d.addr first None (omega (arith, length_of ds))
        ∙ ap (λ r. option_or r (Some (length ds))) (place_at ds d.addr low)
        ∙ ap (λ a. option_or (position (is_at a) ds) (Some (length ds))) (sym here)
        ∙ ap (λ b. option_or (position (is_at addr) ds) (cond b (Some (length ds)) None)) (sym (eq-eqb d.addr addr (sym here)))
    at addr within (inr other) =
        get_or-set_other (places_of ds) d.addr addr first None other
        ∙ place_at ds addr within
        ∙ sym (ap (λ b. option_or (position (is_at addr) ds) (cond b (Some (length ds)) None)) (ne_eqb d.addr addr (λ same. other (sym same))) ∙ none_more (position (is_at addr) ds))

-- a device in the place of those at its address leaves the places as they are
renewed_at : (device d : DeviceSetup) (addr : ℕ) → is_at addr (renewed device d) ≡ is_at addr d
renewed_at device d addr = by_test (d.addr == device.addr) refl
  where
    by_test : (same : Bool) → (d.addr == device.addr) ≡ same → is_at addr (cond same device d) ≡ is_at addr d
    by_test true same = ap (λ a. a == addr) (sym (eqb-true d.addr device.addr same))
    by_test false same = refl

position_renewed : (device : DeviceSetup) (ds : List DeviceSetup) (addr : ℕ) →
    position (is_at addr) (map (renewed device) ds) ≡ position (is_at addr) ds
position_renewed device [] addr = refl
position_renewed device (d ∷ ds) addr =
    position_cons (is_at addr) (renewed device d) (map (renewed device) ds)
    ∙ ap (λ b. cond b (Some 0) (option_map suc (position (is_at addr) (map (renewed device) ds)))) (renewed_at device d addr)
    ∙ ap (λ r. cond (is_at addr d) (Some 0) (option_map suc r)) (position_renewed device ds addr)
    ∙ sym (position_cons (is_at addr) d ds)

pub places_renewed : (device : DeviceSetup) (ds : List DeviceSetup) → places_of ds ≡ places_of (map (renewed device) ds)
places_renewed device ds =
    table_is (places_of ds) (map (renewed device) ds) (length_of ds)
    (λ addr within. place_at ds addr within ∙ sym (position_renewed device ds addr))

-- the device at an address is at its place
pub found_there : (ds : List DeviceSetup) (addr i : ℕ) → position (is_at addr) ds ≡ Some i → slice_get ds i ≡ device_at ds addr
found_there [] addr i at = absurd cc
found_there (d ∷ ds) addr i at = by_test (is_at addr d) (position (is_at addr) ds) i refl (found_there ds addr) (sym (position_cons (is_at addr) d ds) ∙ at)
  where
    by_test : (here : Bool) (place : Option ℕ) (i : ℕ) → position (is_at addr) ds ≡ place → ((j : ℕ) → position (is_at addr) ds ≡ Some j → slice_get ds j ≡ device_at ds addr) →
        cond here (Some 0) (option_map suc place) ≡ Some i → slice_get (d ∷ ds) i ≡ cond here (Some d) (device_at ds addr)
    by_test true place zero is rest at = refl
    by_test true place (suc i) is rest at = absurd cc
    by_test false None i is rest at = absurd cc
    by_test false (Some j) zero is rest at = absurd cc
    by_test false (Some j) (suc i) is rest at = rest i (is ∙ cc)

pub found_nowhere : (ds : List DeviceSetup) (addr : ℕ) → position (is_at addr) ds ≡ None → device_at ds addr ≡ None
found_nowhere [] addr none = refl
found_nowhere (d ∷ ds) addr none = by_test (is_at addr d) (position (is_at addr) ds) refl (found_nowhere ds addr) (sym (position_cons (is_at addr) d ds) ∙ none)
  where
    by_test : (here : Bool) (place : Option ℕ) → position (is_at addr) ds ≡ place → (position (is_at addr) ds ≡ None → device_at ds addr ≡ None) →
        cond here (Some 0) (option_map suc place) ≡ None → cond here (Some d) (device_at ds addr) ≡ None
    by_test true place is rest none = absurd cc
    by_test false None is rest none = rest is
    by_test false (Some i) is rest none = absurd cc

-- devices that were lent whole come back
pub refilled : (old new : List DeviceSetup) → length old ≡ length new → refill (length old) old new ≡ new
refilled old new same = take_at new (drop (length new) old) (length old) (sym same)

-- the device that is at the place of an address is the one there
pub stands_there : (ds whole : List DeviceSetup) (addr i : ℕ) (d : DeviceSetup) → whole ≡ ds →
    position (is_at addr) ds ≡ Some i → d ≡ get_or whole i d → Some d ≡ device_at ds addr
stands_there ds whole addr i d same at is =
    ap Some (is ∙ ap (λ es. get_or es i d) same)
    ∙ sym (slice_get-get_or ds i d (position-Some (is_at addr) ds i d at).0)
    ∙ found_there ds addr i at

-- what the table has at an address is a place
pub place_within : (ds : List DeviceSetup) (addr i : ℕ) → position (is_at addr) ds ≡ Some i → i < length ds
place_within [] addr i at = absurd cc
place_within (d ∷ ds) addr i at = (position-Some (is_at addr) (d ∷ ds) i d at).0
