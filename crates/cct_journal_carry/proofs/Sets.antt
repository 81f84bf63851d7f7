-- What becomes of a list in rising order of key where what has one key is set: put in, replaced or taken out.
use Rattle.std.proofs.Common.{◌≡◌, ℕ, ◌+◌, ◌<◌, ◌≤◌, ◌==◌, cond, ltb, Bool, true, false, List, [], ◌∷◌, length, map, All, Option, Some, None, IfSome, ◌⊎◌, inl, inr, refl, ap, sym, ◌∙◌, subst, arith}
use Rattle.std.proofs.lemmas.Bool.{cases_eq, cases_order, cond-true, cond-false, eq-eqb, le-ltb, lt-ltb, ne_eqb}
use Rattle.std.proofs.lemmas.List.Elements.{All-cons, All-head, All-nil, All-tail}
use Rattle.cct_model.specs.terms.device.DeviceSetup.{DeviceSetup}
use Rattle.cct_model.specs.Exchange.{device_at}
use Rattle.cct_model.specs.Carried.{IsBelow, Rise, first_with, set_with, with_some}

-- cases on how two numbers stand to one another
pub by_order : {P : Type 0} (a b : ℕ) → (a < b → P) → (a ≡ b → P) → (b < a → P) → P
by_order a b less same more =
    elim (cases_order a b) [ inl e ↦ same e | inr other ↦ elim other [ inl l ↦ less l | inr m ↦ more m ] ]

-- what is below a number is below what is above it
below_rest : (a b : ℕ) (later : List ℕ) → a < b → IsBelow b later → IsBelow a later
below_rest a b [] first next = tt
below_rest a b (c ∷ later) first next = omega arith

module _ {X : Type 0} (key : X → ℕ) where
  -- it is none, or has this key
  abbrev pub HasKey : ℕ → Option X → Type 0
  HasKey wanted new = IfSome new (λ x. key x ≡ wanted)

  -- setting, by the first of the list
  pub set_past : (wanted : ℕ) (new : Option X) (x : X) (xs : List X) → key x < wanted
      → set_with key wanted new (x ∷ xs) ≡ x ∷ set_with key wanted new xs
  set_past wanted new x xs less = cond-true (ltb (key x) wanted) _ _ (lt-ltb (key x) wanted less)

  pub set_here : (wanted : ℕ) (new : Option X) (x : X) (xs : List X) → key x ≡ wanted
      → set_with key wanted new (x ∷ xs) ≡ with_some new xs
  set_here wanted new x xs same =
      cond-false (ltb (key x) wanted) _ _ (le-ltb (key x) wanted (omega arith))
      ∙ cond-true (key x == wanted) _ _ (eq-eqb (key x) wanted same)

  pub set_before : (wanted : ℕ) (new : Option X) (x : X) (xs : List X) → wanted < key x
      → set_with key wanted new (x ∷ xs) ≡ with_some new (x ∷ xs)
  set_before wanted new x xs more =
      cond-false (ltb (key x) wanted) _ _ (le-ltb (key x) wanted (omega arith))
      ∙ cond-false (key x == wanted) _ _ (ne_eqb (key x) wanted (λ same. omega arith))

  -- looking up, by the first of the list
  pub first_here : (wanted : ℕ) (x : X) (xs : List X) → key x ≡ wanted → first_with key wanted (x ∷ xs) ≡ Some x
  first_here wanted x xs same = cond-true (key x == wanted) _ _ (eq-eqb (key x) wanted same)

  pub first_past : (wanted : ℕ) (x : X) (xs : List X) → (key x ≡ wanted → ⊥)
      → first_with key wanted (x ∷ xs) ≡ first_with key wanted xs
  first_past wanted x xs other = cond-false (key x == wanted) _ _ (ne_eqb (key x) wanted other)

  -- keys go on rising
  below_some : (a wanted : ℕ) (new : Option X) (xs : List X) → HasKey wanted new → a < wanted
      → IsBelow a (map key xs) → IsBelow a (map key (with_some new xs))
  below_some a wanted None xs has first next = next
  below_some a wanted (Some x) xs has first next = subst (λ k. a < k) (sym has) first

  below_set : (a wanted : ℕ) (new : Option X) (xs : List X) → HasKey wanted new → a < wanted
      → IsBelow a (map key xs) → Rise (map key xs) → IsBelow a (map key (set_with key wanted new xs))
  below_set a wanted new [] has first next rise = below_some a wanted new [] has first tt
  below_set a wanted new (x ∷ xs) has first next rise =
      let Below : List X → Type 0 = λ ys. IsBelow a (map key ys) in
      by_order (key x) wanted (λ less. subst Below (sym (set_past wanted new x xs less)) next)
      (λ same. subst Below (sym (set_here wanted new x xs same))
      (below_some a wanted new xs has first (below_rest a (key x) (map key xs) next rise.0)))
      (λ more. subst Below (sym (set_before wanted new x xs more)) (below_some a wanted new (x ∷ xs) has first next))

  rise_some : (wanted : ℕ) (new : Option X) (xs : List X) → HasKey wanted new → IsBelow wanted (map key xs)
      → Rise (map key xs) → Rise (map key (with_some new xs))
  rise_some wanted None xs has next rise = rise
  rise_some wanted (Some x) xs has next rise = (subst (λ k. IsBelow k (map key xs)) (sym has) next, rise)

  pub rise_set : (wanted : ℕ) (new : Option X) (xs : List X) → HasKey wanted new → Rise (map key xs)
      → Rise (map key (set_with key wanted new xs))
  rise_set wanted new [] has rise = rise_some wanted new [] has tt tt
  rise_set wanted new (x ∷ xs) has rise =
      let Rises : List X → Type 0 = λ ys. Rise (map key ys) in
      let later = rise_set wanted new xs has rise.1 in
      by_order (key x) wanted
      (λ less. subst Rises (sym (set_past wanted new x xs less)) (below_set (key x) wanted new xs has less rise.0 rise.1, later))
      (λ same. subst Rises (sym (set_here wanted new x xs same))
      (rise_some wanted new xs has (subst (λ k. IsBelow k (map key xs)) same rise.0) rise.1))
      (λ more. subst Rises (sym (set_before wanted new x xs more)) (rise_some wanted new (x ∷ xs) has more rise))

  -- what holds of each goes on holding
  all_some : (P : X → Type 0) (new : Option X) (xs : List X) → IfSome new P → All P xs → All P (with_some new xs)
  all_some P None xs holds all = all
  all_some P (Some x) xs holds all = All-cons P x xs holds all

  pub all_set : (P : X → Type 0) (wanted : ℕ) (new : Option X) (xs : List X) → IfSome new P → All P xs
      → All P (set_with key wanted new xs)
  all_set P wanted new [] holds all = all_some P new [] holds all
  all_set P wanted new (x ∷ xs) holds all =
      let Each : List X → Type 0 = λ ys. All P ys in
      let later = all_set P wanted new xs holds (All-tail P x xs all) in
      by_order (key x) wanted
      (λ less. subst Each (sym (set_past wanted new x xs less)) (All-cons P x _ (All-head P x xs all) later))
      (λ same. subst Each (sym (set_here wanted new x xs same)) (all_some P new xs holds (All-tail P x xs all)))
      (λ more. subst Each (sym (set_before wanted new x xs more)) (all_some P new (x ∷ xs) holds all))

  -- at most one more is there
  some_length : (new : Option X) (xs : List X) → length (with_some new xs) ≤ length xs + 1
  some_length None xs = omega arith
  some_length (Some x) xs = omega arith

  pub length_set : (wanted : ℕ) (new : Option X) (xs : List X) → length (set_with key wanted new xs) ≤ length xs + 1
  length_set wanted new [] = some_length new []
  length_set wanted new (x ∷ xs) =
      let Few : List X → Type 0 = λ ys. length ys ≤ length (x ∷ xs) + 1 in
      let later = length_set wanted new xs in
      let here = some_length new xs in
      by_order (key x) wanted (λ less. subst Few (sym (set_past wanted new x xs less)) (omega arith))
      (λ same. subst Few (sym (set_here wanted new x xs same)) (omega arith))
      (λ more. subst Few (sym (set_before wanted new x xs more)) (some_length new (x ∷ xs)))

  -- where one is taken out, no more stand there, and at most one less
  pub length_taken : (wanted : ℕ) (xs : List X) → length (set_with key wanted None xs) ≤ length xs
  length_taken wanted [] = omega arith
  length_taken wanted (x ∷ xs) =
      let Few : List X → Type 0 = λ ys. length ys ≤ length (x ∷ xs) in
      let later = length_taken wanted xs in
      by_order (key x) wanted (λ less. subst Few (sym (set_past wanted None x xs less)) (omega arith))
      (λ same. subst Few (sym (set_here wanted None x xs same)) (omega arith))
      (λ more. subst Few (sym (set_before wanted None x xs more)) (omega arith))

  pub length_left : (wanted : ℕ) (xs : List X) → length xs ≤ length (set_with key wanted None xs) + 1
  length_left wanted [] = omega arith
  length_left wanted (x ∷ xs) =
      let Many : List X → Type 0 = λ ys. length (x ∷ xs) ≤ length ys + 1 in
      let later = length_left wanted xs in
      by_order (key x) wanted (λ less. subst Many (sym (set_past wanted None x xs less)) (omega arith))
      (λ same. subst Many (sym (set_here wanted None x xs same)) (omega arith))
      (λ more. subst Many (sym (set_before wanted None x xs more)) (omega arith))

  -- looked up where it was set, it is found; elsewhere nothing changes
  pub first_above : (wanted : ℕ) (xs : List X) → IsBelow wanted (map key xs) → Rise (map key xs)
      → first_with key wanted xs ≡ None
  first_above wanted [] next rise = refl
  first_above wanted (x ∷ xs) next rise =
      first_past wanted x xs (λ same. omega arith)
      ∙ first_above wanted xs (below_rest wanted (key x) (map key xs) next rise.0) rise.1

  first_some : (wanted : ℕ) (new : Option X) (xs : List X) → HasKey wanted new → first_with key wanted xs ≡ None
      → first_with key wanted (with_some new xs) ≡ new
  first_some wanted None xs has none = none
  first_some wanted (Some x) xs has none = first_here wanted x xs has

  pub first_set_own : (wanted : ℕ) (new : Option X) (xs : List X) → HasKey wanted new → Rise (map key xs)
      → first_with key wanted (set_with key wanted new xs) ≡ new
  first_set_own wanted new [] has rise = first_some wanted new [] has refl
  first_set_own wanted new (x ∷ xs) has rise =
      let Found : List X → Type 0 = λ ys. first_with key wanted ys ≡ new in
      let later = first_set_own wanted new xs has rise.1 in
      by_order (key x) wanted
      (λ less. subst Found (sym (set_past wanted new x xs less)) (first_past wanted x _ (λ same. omega arith) ∙ later))
      (λ same. subst Found (sym (set_here wanted new x xs same)) (first_some wanted new xs has
      (first_above wanted xs (subst (λ k. IsBelow k (map key xs)) same rise.0) rise.1)))
      (λ more. subst Found (sym (set_before wanted new x xs more)) (first_some wanted new (x ∷ xs) has
      (first_above wanted (x ∷ xs) more rise)))

  else_some : (wanted other : ℕ) (new : Option X) (xs : List X) → (other ≡ wanted → ⊥) → HasKey wanted new
      → first_with key other (with_some new xs) ≡ first_with key other xs
  else_some wanted other None xs differ has = refl
  else_some wanted other (Some x) xs differ has = first_past other x xs (λ same. differ (sym same ∙ has))

  pub first_set_else : (wanted other : ℕ) (new : Option X) (xs : List X) → (other ≡ wanted → ⊥) → HasKey wanted new
      → first_with key other (set_with key wanted new xs) ≡ first_with key other xs
  first_set_else wanted other new [] differ has = else_some wanted other new [] differ has
  first_set_else wanted other new (x ∷ xs) differ has =
      let Found : List X → Type 0 = λ ys. first_with key other ys ≡ first_with key other (x ∷ xs) in
      let later = first_set_else wanted other new xs differ has in
      by_order (key x) wanted
      (λ less. subst Found (sym (set_past wanted new x xs less)) (ap (λ rest. cond (key x == other) (Some x) rest) later))
      (λ same. subst Found (sym (set_here wanted new x xs same)) (else_some wanted other new xs differ has
      ∙ sym (first_past other x xs (λ e. differ (sym e ∙ same)))))
      (λ more. subst Found (sym (set_before wanted new x xs more)) (else_some wanted other new (x ∷ xs) differ has))

  -- what is found has the key, and what holds of each holds of it
  pub first_key : (wanted : ℕ) (xs : List X) → HasKey wanted (first_with key wanted xs)
  first_key wanted [] = tt
  first_key wanted (x ∷ xs) =
      let later = first_key wanted xs in
      elim (cases_eq (key x) wanted) [
        | inl same ↦ subst (λ found. HasKey wanted found) (sym (first_here wanted x xs same)) same
        | inr other ↦ subst (λ found. HasKey wanted found) (sym (first_past wanted x xs other)) later
      ]

  pub first_holds : (P : X → Type 0) (wanted : ℕ) (xs : List X) → All P xs → IfSome (first_with key wanted xs) P
  first_holds P wanted [] all = tt
  first_holds P wanted (x ∷ xs) all =
      let Holds : Option X → Type 0 = λ found. IfSome found P in
      let later = first_holds P wanted xs (All-tail P x xs all) in
      elim (cases_eq (key x) wanted) [
        | inl same ↦ subst Holds (sym (first_here wanted x xs same)) (All-head P x xs all)
        | inr other ↦ subst Holds (sym (first_past wanted x xs other)) later
      ]

  -- to set what is found changes nothing
  pub set_found : (wanted : ℕ) (xs : List X) → Rise (map key xs)
      → set_with key wanted (first_with key wanted xs) xs ≡ xs
  set_found wanted [] rise = refl
  set_found wanted (x ∷ xs) rise =
      let Kept : Option X → Type 0 = λ found. set_with key wanted found (x ∷ xs) ≡ x ∷ xs in
      let later = set_found wanted xs rise.1 in
      by_order (key x) wanted
      (λ less. subst Kept (sym (first_past wanted x xs (λ same. omega arith)))
      (set_past wanted (first_with key wanted xs) x xs less ∙ ap (λ ys. x ∷ ys) later))
      (λ same. subst Kept (sym (first_here wanted x xs same)) (set_here wanted (Some x) x xs same))
      (λ more. subst Kept (sym (first_above wanted (x ∷ xs) more rise)) (set_before wanted None x xs more))

  -- a list with as many devices as keys at least
  all_above : (wanted : ℕ) (xs : List X) → IsBelow wanted (map key xs) → Rise (map key xs)
      → All (λ x. key x ≡ wanted → ⊥) xs
  all_above wanted [] next rise = All-nil (λ x. key x ≡ wanted → ⊥)
  all_above wanted (x ∷ xs) next rise =
      All-cons (λ y. key y ≡ wanted → ⊥) x xs (λ same. omega arith)
      (all_above wanted xs (below_rest wanted (key x) (map key xs) next rise.0) rise.1)

  pub none_left : (wanted : ℕ) (xs : List X) → Rise (map key xs)
      → All (λ x. key x ≡ wanted → ⊥) (set_with key wanted None xs)
  none_left wanted [] rise = All-nil (λ x. key x ≡ wanted → ⊥)
  none_left wanted (x ∷ xs) rise =
      let Gone : List X → Type 0 = λ ys. All (λ y. key y ≡ wanted → ⊥) ys in
      let later = none_left wanted xs rise.1 in
      by_order (key x) wanted
      (λ less. subst Gone (sym (set_past wanted None x xs less))
      (All-cons (λ y. key y ≡ wanted → ⊥) x _ (λ same. omega arith) later))
      (λ same. subst Gone (sym (set_here wanted None x xs same))
      (all_above wanted xs (subst (λ k. IsBelow k (map key xs)) same rise.0) rise.1))
      (λ more. subst Gone (sym (set_before wanted None x xs more)) (all_above wanted (x ∷ xs) more rise))

  -- a device is found among the later ones, where the first has another address
  pub there_later : (there : Option DeviceSetup → Bool) (d : DeviceSetup) (ds : List DeviceSetup) (addr : ℕ)
      → there (device_at (d ∷ ds) addr) ≡ true → (addr ≡ d.addr → ⊥) → there (device_at ds addr) ≡ true
  there_later there d ds addr found other =
      subst (λ at. there at ≡ true)
      (cond-false (d.addr == addr) (Some d) (device_at ds addr) (ne_eqb d.addr addr (λ same. other (sym same)))) found

  -- keys that rise and are addresses of devices are no more than the devices
  pub few_in : (there : Option DeviceSetup → Bool) → there None ≡ false → (ds : List DeviceSetup) (xs : List X)
      → Rise (map key xs) → All (λ x. there (device_at ds (key x)) ≡ true) xs → length xs ≤ length ds
  few_in there none [] [] rise all = omega arith
  few_in there none [] (x ∷ xs) rise all =
      absurd (let found = All-head (λ y. there (device_at [] (key y)) ≡ true) x xs all in cc)
  few_in there none (d ∷ ds) xs rise all =
      let left = set_with key d.addr None xs in
      let found = all_set (λ x. there (device_at (d ∷ ds) (key x)) ≡ true) d.addr None xs tt all in
      let others = none_left d.addr xs rise in
      let later = few_in there none ds left (rise_set d.addr None xs tt rise)
      (λ i x below. there_later there d ds _ (found i x below) (others i x below)) in
      let many = length_left d.addr xs in
      omega arith

  -- as many are left without those of an address, or a device of this kind has it
  left_or_there : (there : Option DeviceSetup → Bool) (d : DeviceSetup) (ds : List DeviceSetup) (xs : List X)
      → Rise (map key xs) → All (λ x. there (device_at (d ∷ ds) (key x)) ≡ true) xs
      → (length xs ≤ length (set_with key d.addr None xs)) ⊎ (there (Some d) ≡ true)
  left_or_there there d ds xs rise all = by_found (first_with key d.addr xs) refl
    where
      here : device_at (d ∷ ds) d.addr ≡ Some d
      here = cond-true (d.addr == d.addr) (Some d) (device_at ds d.addr) (eq-eqb d.addr d.addr refl)

      by_found : (found : Option X) → first_with key d.addr xs ≡ found
          → (length xs ≤ length (set_with key d.addr None xs)) ⊎ (there (Some d) ≡ true)
      by_found None is =
          let same : set_with key d.addr None xs ≡ xs =
          ap (λ found. set_with key d.addr found xs) (sym is) ∙ set_found d.addr xs rise in
          let many = ap (λ (ys : List X). length ys) same in
          inl (omega (arith, many))
      by_found (Some x) is =
          inr (
          ap there (sym here)
          ∙ ap (λ a. there (device_at (d ∷ ds) a))
          (sym (subst (λ found. HasKey d.addr found) is (first_key d.addr xs)))
          ∙ subst (λ found. IfSome found (λ y. there (device_at (d ∷ ds) (key y)) ≡ true)) is
          (first_holds (λ y. there (device_at (d ∷ ds) (key y)) ≡ true) d.addr xs all)
          )

  -- where none is found, none has the key
  pub none_has : (wanted : ℕ) (xs : List X) → first_with key wanted xs ≡ None → All (λ x. key x ≡ wanted → ⊥) xs
  none_has wanted [] none = All-nil (λ x. key x ≡ wanted → ⊥)
  none_has wanted (x ∷ xs) none =
      let later = λ (rest : first_with key wanted xs ≡ None). none_has wanted xs rest in
      elim (cases_eq (key x) wanted) [
        | inl same ↦ absurd (let found = sym (first_here wanted x xs same) ∙ none in cc)
        | inr other ↦ All-cons (λ y. key y ≡ wanted → ⊥) x xs other (later (sym (first_past wanted x xs other) ∙ none))
      ]

-- keys of two lists that rise and are addresses of devices, of which none is of both kinds, are together no more than the
-- devices
pub few_both : {X Y : Type 0} (key : X → ℕ) (other : Y → ℕ) (one two : Option DeviceSetup → Bool) → one None ≡ false
    → two None ≡ false → ((d : DeviceSetup) → one (Some d) ≡ true → two (Some d) ≡ true → ⊥)
    → (ds : List DeviceSetup) (xs : List X) (ys : List Y) → Rise (map key xs) → Rise (map other ys)
    → All (λ x. one (device_at ds (key x)) ≡ true) xs → All (λ y. two (device_at ds (other y)) ≡ true) ys
    → length xs + length ys ≤ length ds
few_both key other one two one_none two_none apart [] xs ys rise_x rise_y all_x all_y =
    let few_x = few_in key one one_none [] xs rise_x all_x in
    let few_y = few_in other two two_none [] ys rise_y all_y in
    omega (arith, few_x, few_y)
few_both {X} {Y} key other one two one_none two_none apart (d ∷ ds) xs ys rise_x rise_y all_x all_y =
    let found_x = all_set key (λ x. one (device_at (d ∷ ds) (key x)) ≡ true) d.addr None xs tt all_x in
    let found_y = all_set other (λ y. two (device_at (d ∷ ds) (other y)) ≡ true) d.addr None ys tt all_y in
    let others_x = none_left key d.addr xs rise_x in
    let others_y = none_left other d.addr ys rise_y in
    let later = few_both key other one two one_none two_none apart ds (set_with key d.addr None xs)
    (set_with other d.addr None ys) (rise_set key d.addr None xs tt rise_x) (rise_set other d.addr None ys tt rise_y)
    (λ i x below. there_later key one d ds _ (found_x i x below) (others_x i x below))
    (λ i y below. there_later other two d ds _ (found_y i y below) (others_y i y below)) in
    let many_x = length_left key d.addr xs in
    let many_y = length_left other d.addr ys in
    by_left later many_x many_y (left_or_there key one d ds xs rise_x all_x) (left_or_there other two d ds ys rise_y all_y)
  where
    by_left : length (set_with key d.addr None xs) + length (set_with other d.addr None ys) ≤ length ds
        → length xs ≤ length (set_with key d.addr None xs) + 1 → length ys ≤ length (set_with other d.addr None ys) + 1
        → (length xs ≤ length (set_with key d.addr None xs)) ⊎ (one (Some d) ≡ true)
        → (length ys ≤ length (set_with other d.addr None ys)) ⊎ (two (Some d) ≡ true)
        → length xs + length ys ≤ length (d ∷ ds)
    by_left later many_x many_y (inl same) second = omega (arith, later, many_y, same)
    by_left later many_x many_y (inr first) (inl same) = omega (arith, later, many_x, same)
    by_left later many_x many_y (inr first) (inr second) = absurd (apart d first second)

-- what is found by one key is the first by another, in whose order the list rises
pub first_by_both : {X : Type 0} (key other : X → ℕ) (wanted : ℕ) (xs : List X) (x : X) → Rise (map key xs)
    → first_with other wanted xs ≡ Some x → first_with key (key x) xs ≡ Some x
first_by_both key other wanted [] x rise found = absurd cc
first_by_both {X} key other wanted (y ∷ xs) x rise found =
    let later = λ (rest : first_with other wanted xs ≡ Some x). first_by_both key other wanted xs x rise.1 rest in
    elim (cases_eq (other y) wanted) [
      | inl same ↦
          let is : y ≡ x = (let first = sym (first_here other wanted y xs same) ∙ found in cc) in
          subst (λ (z : X). first_with key (key z) (y ∷ xs) ≡ Some z) is (first_here key (key y) y xs refl)
      | inr differs ↦
          let rest = sym (first_past other wanted y xs differs) ∙ found in
          let holds = first_holds other (λ z. key z ≡ key y → ⊥) wanted xs (all_above key (key y) xs rise.0 rise.1) in
          let apart : key x ≡ key y → ⊥ = subst (λ at. IfSome at (λ z. key z ≡ key y → ⊥)) rest holds in
          first_past key (key x) y xs (λ e. apart (sym e)) ∙ later rest
    ]
