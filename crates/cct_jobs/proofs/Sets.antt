-- Sets of addresses, and what is found among addresses.
use Rattle.std.proofs.Common.{◌≡◌, inl, inr, ℕ, suc, zero, ◌<◌, Bool, true, false, cond, get_or, List, [], ◌∷◌, ◌++◌, length, map, refl, sym, ap, ◌∙◌, Option, Some, arith}
use Rattle.std.specs.Prelude.{find}
use Rattle.std.proofs.lemmas.Bool.{cases_eq}
use Rattle.std.proofs.lemmas.List.{length-map, get_or-map, get_or_append_left, get_or_at, ext_get_or}
use Rattle.std.proofs.lemmas.List.Folds.{find-append}
use Rattle.cct_model.specs.lines.device_set.DeviceSet.{DeviceSet}
use Rattle.cct_model.specs.DeviceSet.{addresses_below, all_addresses, has}
use Rattle.cct_model.specs.Scan.{set_of}
use Rattle.cct_model.proofs.Polls.{length_below}

find_below : (p q : ℕ → Bool) (n : ℕ) → ((a : ℕ) → a < n → p a ≡ q a) → find p (addresses_below n) ≡ find q (addresses_below n)
find_below p q zero same = refl
find_below p q (suc n) same =
    let before : find p (addresses_below n) ≡ find q (addresses_below n) = find_below p q n (λ a lt. same a (omega arith)) in
    let here : p n ≡ q n = same n (omega arith) in
    rw (find-append p (addresses_below n) (n ∷ []), find-append q (addresses_below n) (n ∷ []), before, here) refl

-- tests that agree on the addresses find the same
pub find_same : (p q : ℕ → Bool) → ((a : ℕ) → a < 256 → p a ≡ q a) → find p all_addresses ≡ find q all_addresses
unfolding all_addresses
find_same p q same = find_below p q 256 same

found_by : (p : ℕ → Bool) (b : Bool) (x a : ℕ) (rest : Option ℕ) → p x ≡ b → (rest ≡ Some a → p a ≡ true) → cond b (Some x) rest ≡ Some a → p a ≡ true
found_by p true x a rest e later is =
    let same : x ≡ a = cc in
    ap p (sym same) ∙ e
found_by p false x a rest e later is = later is

-- what is found passes the test
pub found_passes : (p : ℕ → Bool) (xs : List ℕ) (a : ℕ) → find p xs ≡ Some a → p a ≡ true
found_passes p [] a e = absurd cc
found_passes p (x ∷ xs) a e = found_by p (p x) x a (find p xs) refl (found_passes p xs a) e

at_by : (n i : ℕ) → ((i < n) → get_or (addresses_below n) i 0 ≡ i) → i < suc n → get_or (addresses_below n ++ n ∷ []) i 0 ≡ i
at_by n i before within =
    elim (cases_eq i n) [
      | inl same ↦ get_or_at (addresses_below n) n [] 0 i (length_below n ∙ sym same) ∙ sym same
      | inr other ↦ get_or_append_left (addresses_below n) (n ∷ []) 0 i (omega (arith, length_below n)) ∙ before (omega arith)
    ]

at_below : (n i : ℕ) → i < n → get_or (addresses_below n) i 0 ≡ i
at_below zero i within = absurd (omega arith)
at_below (suc n) i within = at_by n i (at_below n i) within

members_at : (test : ℕ → Bool) (n i : ℕ) → i < n → get_or (map test (addresses_below n)) i false ≡ test i
members_at test n i within = get_or-map test (addresses_below n) i 0 false (omega (arith, length_below n)) ∙ ap test (at_below n i within)

-- a set that has just what passes a test is the set of that test
pub same_set : (set : DeviceSet) (test : ℕ → Bool) → length set.members ≡ 256 → ((a : ℕ) → a < 256 → has set a ≡ test a) → set ≡ set_of test
unfolding all_addresses
same_set set test long same =
    let all : length (map test (addresses_below 256)) ≡ 256 = length-map (addresses_below 256) test ∙ length_below 256 in
    let members : set.members ≡ map test (addresses_below 256) =
    ext_get_or false set.members (map test (addresses_below 256)) (long ∙ sym all)
    (λ i within. same i (omega arith) ∙ sym (members_at test 256 i (omega arith))) in
    ap (λ m. record { members = m }) members
