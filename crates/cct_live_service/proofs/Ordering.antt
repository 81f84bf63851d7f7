-- Where an order is open, device by device.
use Rattle.std.proofs.Common.{◌≡◌, ◌∙◌, ◌+◌, ◌<◌, ◌≤◌, ℕ, zero, suc, List, [], ◌∷◌, length, take, get_or, Option, Some, None, true, false, is_some, refl, sym, ap, subst, arith}
use Rattle.cct_model.specs.terms.device.DeviceSetup.{DeviceSetup}
use Rattle.cct_live_order.specs.declared.told.OrderTold.{OrderTold}
use Rattle.cct_live_service.specs.Reported.{IsJust, first_in, first_of}

first_alone : (x : Option OrderTold) → first_of x None ≡ x
first_alone None = refl
first_alone (Some told) = refl

left_none : (x y : Option OrderTold) → first_of x y ≡ None → x ≡ None
left_none None y is = refl
left_none (Some told) y is = cc is

right_none : (x y : Option OrderTold) → first_of x y ≡ None → y ≡ None
right_none None y is = is
right_none (Some told) y is = cc is

-- one device more
more_first : (tells : DeviceSetup → Option OrderTold) (ds : List DeviceSetup) (i : ℕ) (d : DeviceSetup) → i < length ds →
    d ≡ get_or ds i d → first_in tells (take i ds) ≡ None → first_in tells (take (suc i) ds) ≡ tells d
more_first tells [] i d within at none = absurd (omega (arith, within))
more_first tells (e ∷ ds) zero d within at none = first_alone (tells e) ∙ ap tells (sym at)
more_first tells (e ∷ ds) (suc i) d within at none =
    ap (λ x. first_of x (first_in tells (take (suc i) ds))) (left_none (tells e) (first_in tells (take i ds)) none)
    ∙ more_first tells ds i d (omega (arith, within)) at (right_none (tells e) (first_in tells (take i ds)) none)

first_some : (x y : Option OrderTold) → is_some x ≡ true → first_of x y ≡ x
first_some None y is = cc is
first_some (Some told) y is = refl

pub first_more : (tells : DeviceSetup → Option OrderTold) (ds : List DeviceSetup) (i : ℕ) (d : DeviceSetup) → i < length ds →
    d ≡ get_or ds i d → first_in tells (take i ds) ≡ None → first_in tells (take (i + 1) ds) ≡ tells d
first_more tells ds i d within at none =
    subst (λ n. first_in tells (take n ds) ≡ tells d) (one_more i) (more_first tells ds i d within at none)
  where
    one_more : (n : ℕ) → suc n ≡ n + 1
    one_more n = omega arith

-- the first at which it is
pub first_found : (tells : DeviceSetup → Option OrderTold) (ds : List DeviceSetup) (i : ℕ) (d : DeviceSetup) →
    i < length ds → d ≡ get_or ds i d → first_in tells (take i ds) ≡ None → is_some (tells d) ≡ true →
    first_in tells ds ≡ tells d
first_found tells [] i d within at none is = absurd (omega (arith, within))
first_found tells (e ∷ ds) zero d within at none is =
    ap (λ x. first_of (tells x) (first_in tells ds)) (sym at) ∙ first_some (tells d) (first_in tells ds) is
first_found tells (e ∷ ds) (suc i) d within at none is =
    ap (λ x. first_of x (first_in tells ds)) (left_none (tells e) (first_in tells (take i ds)) none)
    ∙ first_found tells ds i d (omega (arith, within)) at (right_none (tells e) (first_in tells (take i ds)) none) is

-- none at all
pub first_none : (tells : DeviceSetup → Option OrderTold) (ds : List DeviceSetup) (i : ℕ) → length ds ≤ i →
    first_in tells (take i ds) ≡ None → first_in tells ds ≡ None
first_none tells [] i few none = refl
first_none tells (e ∷ ds) zero few none = absurd (omega (arith, few))
first_none tells (e ∷ ds) (suc i) few none =
    ap (λ x. first_of x (first_in tells ds)) (left_none (tells e) (first_in tells (take i ds)) none)
    ∙ first_none tells ds i (omega (arith, few)) (right_none (tells e) (first_in tells (take i ds)) none)

pub none_is : (x : Option OrderTold) → is_some x ≡ false → x ≡ None
none_is None is = refl
none_is (Some told) is = cc is

-- where nothing is known, anything may be reported
pub just_any : (known : Option OrderTold) (told : OrderTold) → known ≡ None → IsJust known told
just_any None told is = tt
just_any (Some found) told is = cc is

pub just_told : (known : Option OrderTold) (told : OrderTold) → known ≡ Some told → IsJust known told
just_told None told is = cc is
just_told (Some found) told is = sym (same found told is)
  where
    same : (a b : OrderTold) → Some a ≡ Some b → a ≡ b
    same a b e = cc e
