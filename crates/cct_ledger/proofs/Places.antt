-- The devices of a setup by their places in it.
use Rattle.std.proofs.Common.{◌≡◌, ◌≢◌, ℕ, zero, suc, ◌+◌, ◌==◌, Bool, true, false, cond, List, [], ◌∷◌, map, set, sum_by, get_or, refl, ap, ap₂, sym, ◌∙◌, Some, None, eq-eqb, eqb-true, true≢false}
use Rattle.std.specs.Prelude.{slice_get}
use Rattle.std.specs.List.{list_any, position}
use Rattle.std.proofs.lemmas.Bool.{ne_eqb, or_parts}
use Rattle.std.proofs.lemmas.List.Quantifiers.{position-Some}
use Rattle.std.proofs.lemmas.List.Sums.{sum_by-cons}
use Rattle.std.proofs.lemmas.Option.{slice_get-get_or}
use Rattle.cct_model.specs.terms.device.DeviceSetup.{DeviceSetup}
use Rattle.cct_model.specs.Device.{is_hopper}
use Rattle.cct_model.specs.Exchange.{device_at, hopper_there}
use Rattle.cct_model.specs.Setup.{AreDistinct}
use Rattle.cct_model.specs.Money.{sum_over}
use Rattle.cct_ledger.specs.Orders.{IsHopperAt}
use Rattle.cct_ledger.proofs.Positions.{none_passes}

-- a device is of an address
abbrev is_at : ℕ → DeviceSetup → Bool
is_at addr d = d.addr == addr

-- a device has no address that no device has
pub apart : (ds : List DeviceSetup) (addr i : ℕ) (d : DeviceSetup) → device_at ds addr ≡ None →
    slice_get ds i ≡ Some d →
    d.addr ≢ addr
apart [] addr i d none is = absurd cc
apart (e ∷ ds) addr zero d none is = by_here (e.addr == addr) refl none
  where
    own : e ≡ d
    own = cc

    by_here : (here : Bool) → (e.addr == addr) ≡ here → cond here (Some e) (device_at ds addr) ≡ None → d.addr ≢ addr
    by_here true test found = absurd cc
    by_here false test found =
        λ same. true≢false (sym (eq-eqb e.addr addr (ap (λ (x : DeviceSetup). x.addr) own ∙ same)) ∙ test)
apart (e ∷ ds) addr (suc i) d none is = apart ds addr i d (later (e.addr == addr) none) is
  where
    later : (here : Bool) → cond here (Some e) (device_at ds addr) ≡ None → device_at ds addr ≡ None
    later true found = absurd cc
    later false found = found

-- the device at a place is the one at its address
pub at_place : (ds : List DeviceSetup) (i : ℕ) (d : DeviceSetup) → AreDistinct ds → slice_get ds i ≡ Some d →
    device_at ds d.addr ≡ Some d
at_place [] i d distinct is = absurd cc
at_place (e ∷ ds) zero d distinct is =
    let own : e ≡ d = cc in
    ap (λ b. cond b (Some e) (device_at ds d.addr)) (eq-eqb e.addr d.addr (ap (λ (x : DeviceSetup). x.addr) own))
    ∙ ap Some own
at_place (e ∷ ds) (suc i) d distinct is =
    let other : e.addr ≢ d.addr = λ same. apart ds e.addr i d distinct.0 is (sym same) in
    ap (λ b. cond b (Some e) (device_at ds d.addr)) (ne_eqb e.addr d.addr other) ∙ at_place ds i d distinct.1 is

-- devices of one address are at one place
pub same_place : (ds : List DeviceSetup) (i j : ℕ) (d e : DeviceSetup) → AreDistinct ds → slice_get ds i ≡ Some d →
    slice_get ds j ≡ Some e → d.addr ≡ e.addr → i ≡ j
same_place [] i j d e distinct is at same = absurd cc
same_place (x ∷ ds) zero zero d e distinct is at same = refl
same_place (x ∷ ds) zero (suc j) d e distinct is at same =
    let own : x ≡ d = cc in
    absurd (apart ds x.addr j e distinct.0 at (sym same ∙ ap (λ (y : DeviceSetup). y.addr) (sym own)))
same_place (x ∷ ds) (suc i) zero d e distinct is at same =
    let own : x ≡ e = cc in
    absurd (apart ds x.addr i d distinct.0 is (same ∙ ap (λ (y : DeviceSetup). y.addr) (sym own)))
same_place (x ∷ ds) (suc i) (suc j) d e distinct is at same = ap suc (same_place ds i j d e distinct.1 is at same)

-- two functions that agree at each device, at each address but one, and at each but one device
pub map_same : {X : Type 0} (f g : DeviceSetup → X) (ds : List DeviceSetup) → ((d : DeviceSetup) → g d ≡ f d) →
    map f ds ≡ map g ds
map_same f g [] same = refl
map_same f g (d ∷ ds) same = ap₂ (λ x xs. x ∷ xs) (sym (same d)) (map_same f g ds same)

map_apart : {X : Type 0} (f g : DeviceSetup → X) (ds : List DeviceSetup) (addr : ℕ) → device_at ds addr ≡ None →
    ((d : DeviceSetup) → d.addr ≢ addr → g d ≡ f d) → map f ds ≡ map g ds
map_apart f g [] addr none same = refl
map_apart f g (e ∷ ds) addr none same =
    let rest : device_at ds addr ≡ None = later (e.addr == addr) none in
    ap₂ (λ x xs. x ∷ xs) (sym (same e (apart (e ∷ ds) addr 0 e none refl))) (map_apart f g ds addr rest same)
  where
    later : (here : Bool) → cond here (Some e) (device_at ds addr) ≡ None → device_at ds addr ≡ None
    later true found = absurd cc
    later false found = found

pub map_set : {X : Type 0} (f g : DeviceSetup → X) (ds : List DeviceSetup) (i : ℕ) (d : DeviceSetup) (v : X) →
    AreDistinct ds → slice_get ds i ≡ Some d → g d ≡ v → ((e : DeviceSetup) → e.addr ≢ d.addr → g e ≡ f e) →
    set (map f ds) i v ≡ map g ds
map_set f g [] i d v distinct is here same = absurd cc
map_set f g (e ∷ ds) zero d v distinct is here same =
    let own : e ≡ d = cc in
    let addrs : e.addr ≡ d.addr = ap (λ (x : DeviceSetup). x.addr) own in
    ap₂ (λ x xs. x ∷ xs) (sym here ∙ ap g (sym own))
    (map_apart f g ds e.addr distinct.0 (λ x other. same x (λ at. other (at ∙ sym addrs))))
map_set f g (e ∷ ds) (suc i) d v distinct is here same =
    let other : e.addr ≢ d.addr = λ at. apart ds e.addr i d distinct.0 is (sym at) in
    ap₂ (λ x xs. x ∷ xs) (sym (same e other)) (map_set f g ds i d v distinct.1 is here same)

-- a sum over devices is one over a list of what is at each
pub sum_over-map : {X : Type 0} (worth : X → ℕ) (f : DeviceSetup → X) (ds : List DeviceSetup) →
    sum_over (λ d. worth (f d)) ds ≡ sum_by worth (map f ds)
sum_over-map worth f [] = refl
sum_over-map worth f (d ∷ ds) =
    ap (λ n. worth (f d) + n) (sum_over-map worth f ds) ∙ sym (sum_by-cons worth (f d) (map f ds))

-- a hopper is found by its address

pub hopper_at : (ds : List DeviceSetup) (addr place : ℕ) (d : DeviceSetup) →
    position (is_at addr) ds ≡ Some place → d ≡ get_or ds place d → is_hopper d.body ≡ true →
    IsHopperAt ds addr place
hopper_at ds addr place d is own kind =
    let at = position-Some (is_at addr) ds place d is in
    record {
      device = d;
      there = slice_get-get_or ds place d at.0 ∙ ap Some (sym own);
      here = eqb-true d.addr addr (ap (is_at addr) own ∙ at.1);
      kind = kind;
    }

pub hopper_there_at : (ds : List DeviceSetup) (addr place : ℕ) → AreDistinct ds → IsHopperAt ds addr place →
    hopper_there (device_at ds addr) ≡ true
hopper_there_at ds addr place distinct at =
    let found = ap (device_at ds) (sym at.here) ∙ at_place ds place at.device distinct at.there in
    ap hopper_there found ∙ at.kind

-- and none is there where the first device of the address is no hopper, or no device is of it

pub other_at : (ds : List DeviceSetup) (addr place : ℕ) (d : DeviceSetup) →
    position (is_at addr) ds ≡ Some place → d ≡ get_or ds place d → is_hopper d.body ≡ false → AreDistinct ds →
    hopper_there (device_at ds addr) ≡ false
other_at ds addr place d is own kind distinct =
    let at = position-Some (is_at addr) ds place d is in
    let here = eqb-true d.addr addr (ap (is_at addr) own ∙ at.1) in
    let there = slice_get-get_or ds place d at.0 ∙ ap Some (sym own) in
    ap (λ a. hopper_there (device_at ds a)) (sym here) ∙ ap hopper_there (at_place ds place d distinct there) ∙ kind

no_device : (ds : List DeviceSetup) (addr : ℕ) → list_any (is_at addr) ds ≡ false → device_at ds addr ≡ None
no_device [] addr none = refl
no_device (e ∷ ds) addr none =
    let parts = or_parts (is_at addr e) (list_any (is_at addr) ds) none in
    ap (λ b. cond b (Some e) (device_at ds addr)) parts.0 ∙ no_device ds addr parts.1

pub nothing_at : (ds : List DeviceSetup) (addr : ℕ) → position (is_at addr) ds ≡ None →
    hopper_there (device_at ds addr) ≡ false
nothing_at ds addr none = ap hopper_there (no_device ds addr (none_passes (is_at addr) ds none))
